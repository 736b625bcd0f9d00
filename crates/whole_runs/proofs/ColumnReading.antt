-- A column while it is read, row by row, and the marks meanwhile.
use Rattle.std.proofs.Common.{◌≡◌, ◌≢◌, ◌⊎◌, inl, inr, ℕ, ◌+◌, ◌<◌, ◌≤◌, List, [], map, length, ℤ, pos}
use Rattle.std.proofs.Common.{sym, subst, ◌∙◌, arith}
use Rattle.std.specs.declared.option.Option.{Option}
use Rattle.std.specs.List.{range_with_len}
use Rattle.std.proofs.lemmas.Bool.{cases_eq}
use Rattle.std.proofs.lemmas.List.FromFn.{get_or-map-range_with_len}
use Rattle.program_form.specs.Program.{ProgramDef, columns}
use Rattle.whole_rows.specs.Marks.{HasRow, IsMarked, HaveSameRoom}
use Rattle.whole_rows.specs.declared.marks.RowMarks.{RowMarks}
use Rattle.whole_rows.specs.Rows.{RowDef, entry_at}
use Rattle.whole_rows.specs.EntrySteps.{IsPushed}
use Rattle.whole_rows.specs.Numbers.{number_at}
use Rattle.whole_rows.specs.declared.entries.Entry.{Entry}
use Rattle.whole_rows.proofs.Listed.{AreListedTo, listed_zeros, listed_more, listed_same}
use Rattle.whole_runs.specs.States.{row_at}
use Rattle.whole_runs.specs.Columns.{num_seen, IsColumn, AreMarked}
use Rattle.whole_runs.proofs.Smalls.{zero_or_not}

-- the numbers of all rows at place k
abbrev pub column_nums : ProgramDef → List (Option RowDef) → ℕ → List ℤ
column_nums p rows k = map (λ i. num_seen p (row_at rows i) i k) (range_with_len 0 (length rows))

column_num : (p : ProgramDef) (rows : List (Option RowDef)) (k i : ℕ) → i < length rows
    → number_at (column_nums p rows k) i ≡ num_seen p (row_at rows i) i k
column_num p rows k i l =
    get_or-map-range_with_len (λ n. num_seen p (row_at rows n) n k) 0 (length rows) i i (pos 0) l (omega arith)

-- the first n rows are read
abbrev pub IsReadTo : ℕ → ProgramDef → List (Option RowDef) → ℕ → List Entry → Type 0
IsReadTo n p rows k column = AreListedTo n (column_nums p rows k) column

-- before the first row
pub none_read : (p : ProgramDef) (rows : List (Option RowDef)) (k : ℕ) (column : List Entry) → column ≡ [] → IsReadTo 0 p rows k column
none_read p rows k column none = subst (λ (es : List Entry). IsReadTo 0 p rows k es) (sym none) (record {
  sparse = record { rise = λ i j l lj. absurd (omega arith); nonzero = λ j l. absurd (omega arith) };
  below = λ j l. absurd (omega arith);
  own = λ j l. absurd (omega arith);
  each = λ i l. absurd (omega arith);
})

-- a row more, whose number is pushed
pub one_read : (n : ℕ) (p : ProgramDef) (rows : List (Option RowDef)) (k : ℕ) (column after : List Entry) (num : ℤ) → n < length rows
    → IsReadTo n p rows k column → num ≡ num_seen p (row_at rows n) n k → IsPushed column n num after → IsReadTo (n + 1) p rows k after
one_read n p rows k column after num l h is pushed =
    let own = column_num p rows k n l ∙ sym is in
    elim pushed [
      | inl none ↦ rw none.1 (listed_same n (column_nums p rows k) column h (own ∙ none.0))
      | inr some ↦ rw some.1 (listed_more n (column_nums p rows k) column num h own some.0)
    ]

-- where a row isn't marked its number is zero
unmarked_none : (p : ProgramDef) (rows : List (Option RowDef)) (marks : RowMarks) (k i : ℕ) → AreMarked p rows marks → k < columns p
    → i < length rows → (IsMarked marks k i → ⊥) → num_seen p (row_at rows i) i k ≡ pos 0
unmarked_none p rows marks k i marked lk li un = elim (zero_or_not (num_seen p (row_at rows i) i k)) [
  | inl none ↦ none
  | inr some ↦ absurd (un (marked.marked k i lk li some))
]

-- so rows that aren't marked are passed over
pub read_to : (n m : ℕ) (p : ProgramDef) (rows : List (Option RowDef)) (k : ℕ) (marks : RowMarks) (column : List Entry)
    → AreMarked p rows marks → k < columns p → n ≤ m → m ≤ length rows → ((i : ℕ) → n ≤ i → i < m → IsMarked marks k i → ⊥)
    → IsReadTo n p rows k column → IsReadTo m p rows k column
read_to n m p rows k marks column marked lk up within un h =
    listed_zeros n m (column_nums p rows k) column up h
    (λ i l li.
    let inside : i < length rows = omega arith in
    column_num p rows k i inside ∙ unmarked_none p rows marks k i marked lk inside (un i l li))

pub all_read : (n : ℕ) (p : ProgramDef) (rows : List (Option RowDef)) (k : ℕ) (column : List Entry) → n ≤ length rows → length rows ≤ n
    → IsReadTo n p rows k column → IsColumn p rows k column
all_read n p rows k column within all h = record {
  sparse = h.sparse;
  below = λ j l. let b : (entry_at column j).place < n = h.below j l in omega arith;
  each = λ i l. h.each i (omega arith) ∙ column_num p rows k i l;
}

-- a mark less, where the number is zero
pub marked_still : (p : ProgramDef) (rows : List (Option RowDef)) (k i : ℕ) (before after : RowMarks) → AreMarked p rows before
    → num_seen p (row_at rows i) i k ≡ pos 0 → HaveSameRoom before after
    → ((u j : ℕ) → (u ≢ k) ⊎ (j ≢ i) → HasRow before j → IsMarked before u j → IsMarked after u j) → AreMarked p rows after
marked_still p rows k i before after h none same others = record {
  room = record {
    row_each = rw same.words h.room.row_each;
    word_each = rw (same.words, same.as_many) h.room.word_each;
  };
  marked = λ u j lu lj some.
      let row : HasRow before j = omega (arith, h.room.row_each, lj) in
      elim (cases_eq u k) [
        | inr away ↦ others u j (inl away) row (h.marked u j lu lj some)
        | inl here ↦ elim (cases_eq j i) [
          | inr away ↦ others u j (inr away) row (h.marked u j lu lj some)
          | inl this ↦ absurd (some (rw (here, this) none))
        ]
      ];
}
