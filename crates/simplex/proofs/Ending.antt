-- What is read off the last table, and the first table's parts.
use Rattle.std.proofs.Common.{◌≡◌, ◌≢◌, inl, inr, ℕ, ◌<◌, ◌≤◌, ◌+◌, ◌^◌, List, [], ◌∷◌, ◌++◌, length, Err, pos, refl}
use Rattle.std.proofs.Common.{sym, ◌∙◌, ap, arith, set, slice_index_or, get_or-set_same, get_or-set_other}
use Rattle.std.proofs.lemmas.Bool.{cases_eq, cases_lt}
use Rattle.std.proofs.lemmas.Int.{ints}
use Rattle.std.proofs.lemmas.List.{get_or_at, get_or_append_left}
use Rattle.fraction128.specs.Fraction.{Fraction, whole}
use Rattle.fraction128.specs.Scaling.{fraction_at}
use Rattle.fraction128.proofs.Forms.{form_of_whole}
use Rattle.program_form.specs.Program.{ProgramDef, columns, height}
use Rattle.exchange_runs.specs.Table.{Table, variables, first_entries, first_limit, first_number, slack}
use Rattle.exchange_runs.specs.Readings.{IsValueOf}
use Rattle.exchange_runs.proofs.FirstTable.{first_of-own, first_of-other, first_of-past, first_of-limit}
use Rattle.exchange_runs.proofs.Loops.{value_here, value_more}
use Rattle.simplex.specs.Rows.{RowDef, cell_at, no_row}
use Rattle.simplex.specs.Tables.{row_of, table_of}
use Rattle.simplex.specs.declared.entries.Entry.{Entry}
use Rattle.simplex.specs.Entries.{entry_at, AreBelow}
use Rattle.simplex.specs.Starts.{IsFirstRow, AreFirstEntries}
use Rattle.simplex.proofs.Listed.{listed_past, listed_push, listed_push_other, sparse_push, below_push, below_up}
use Rattle.simplex.proofs.Sparse.{cell_limit, cell_listed}
use Rattle.simplex.proofs.Cells.{row_read}
use Rattle.simplex.specs.Ends.{WritesDual, Finishes}
use Rattle.simplex.specs.declared.SolveStop.{SolveStop}
use Rattle.simplex.specs.declared.SolveStop.TheVariants.{Memory, Wide, Units}

pub finish_stop : (stop : SolveStop) (p : ProgramDef) (t : Table) (k : ℕ) → WritesDual (Err stop) p t → Finishes (Err stop) p t k
finish_stop Memory p t k h = tt
finish_stop Wide p t k h = h
finish_stop Units p t k h = h

pub whole_apart : (n : ℕ) (f : Fraction) → f ≡ whole (pos n) → n ≢ 0 → f.num ≢ pos 0
whole_apart n f is some none = some (zero_of n (sym (ap (λ (g : Fraction). g.num) is) ∙ none))
  where
    zero_of : (m : ℕ) → pos m ≡ pos 0 → m ≡ 0
    zero_of m q = omega (arith, ints)

-- one variable more, whose number is zero
pub numbers_zero : (p : ProgramDef) (i k n : ℕ) (entries : List Entry) → AreFirstEntries p i k entries
    → n ≡ first_number p i k → n ≡ 0 → AreFirstEntries p i (k + 1) entries
numbers_zero p i k n entries h is none = record {
  sparse = h.sparse;
  below = below_up k entries h.below;
  numbers = λ v l. elim (cases_eq v k) [
    | inl here ↦ rw (here, listed_past entries k k h.below (omega arith), ← is, none) refl
    | inr earlier ↦ h.numbers v (omega arith)
  ];
}

-- one variable more, whose number isn't
pub numbers_more : (p : ProgramDef) (i k n : ℕ) (entries : List Entry) (f : Fraction) → AreFirstEntries p i k entries
    → n ≡ first_number p i k → f ≡ whole (pos n)
    → n ≢ 0 → n < 2 ^ 63 → AreFirstEntries p i (k + 1) (entries ++ record { variable = k; value = f } ∷ [])
numbers_more p i k n entries f h is own some small =
    let e : Entry = record { variable = k; value = f } in
    record {
      sparse = sparse_push entries e h.sparse h.below (rw own (form_of_whole n small)) (whole_apart n f own some);
      below = below_push entries e (k + 1) (below_up k entries h.below) (omega arith);
      numbers = λ v l. elim (cases_eq v k) [
        | inl here ↦ rw (here, listed_push entries e k h.below refl, own, is) refl
        | inr earlier ↦ listed_push_other entries e v (λ q. earlier (sym q)) ∙ h.numbers v (omega arith)
      ];
    }

-- a variable that is neither a column nor the row's own slack has the number zero
no_number : (p : ProgramDef) (i v : ℕ) → columns p ≤ v → v < variables p → v ≢ slack p i → first_number p i v ≡ 0
no_number p i v h l away = first_of-other (columns p) (first_entries p i) (slack p i) (variables p) (first_limit p i) v h l away

-- the objective row has no slack
pub entries_of_costs : (p : ProgramDef) (i : ℕ) (entries : List Entry) → height p ≤ i
    → AreFirstEntries p i (columns p) entries → AreFirstEntries p i (variables p) entries
entries_of_costs p i entries l h = record {
  sparse = h.sparse;
  below = λ k lk. let b : (entry_at entries k).variable < columns p = h.below k lk in omega arith;
  numbers = λ v lv. elim (cases_lt v (columns p)) [
    | inl column ↦ h.numbers v column
    | inr past ↦ rw (listed_past entries (columns p) v h.below past, no_number p i v past lv (λ q. omega arith)) refl
  ];
}

-- and each other row has its own
pub entries_of_row_done : (p : ProgramDef) (i : ℕ) (entries : List Entry) (f : Fraction) → i < height p
    → f ≡ whole (pos 1) → AreFirstEntries p i (columns p) entries
    → AreFirstEntries p i (variables p) (entries ++ record { variable = columns p + i; value = f } ∷ [])
entries_of_row_done p i entries f l own h =
    let e : Entry = record { variable = columns p + i; value = f } in
    let low : AreBelow (columns p + i) entries =
    λ k lk. (let b : (entry_at entries k).variable < columns p = h.below k lk in omega arith) in
    record {
      sparse = sparse_push entries e h.sparse low (rw own (form_of_whole 1 (omega arith))) (whole_apart 1 f own (λ q. omega arith));
      below = below_push entries e (variables p)
          (λ k lk. let b : (entry_at entries k).variable < columns p = h.below k lk in omega arith) (omega arith);
      numbers = λ v lv. elim (cases_eq v (columns p + i)) [
        | inl here ↦
            rw (
              here,
              listed_push entries e (columns p + i) low refl,
              own,
              first_of-own (columns p) (first_entries p i) (slack p i) (variables p) (first_limit p i) (omega arith) (omega arith),
            )
            refl
        | inr away ↦ listed_push_other entries e v (λ q. away (sym q)) ∙ elim (cases_lt v (columns p)) [
          | inl column ↦ h.numbers v column
          | inr past ↦ rw (listed_past entries (columns p) v h.below past, no_number p i v past lv away) refl
        ]
      ];
    }

-- a row of the first table, place by place
pub first_row_is : (p : ProgramDef) (i : ℕ) (entries : List Entry) (bound : Fraction)
    → AreFirstEntries p i (variables p) entries → bound ≡ whole (pos (first_limit p i))
    → IsFirstRow p i (record { entries = entries; place = variables p; limit = bound })
first_row_is p i entries bound h is =
    let row : RowDef = record { entries = entries; place = variables p; limit = bound } in
    record {
      fits = refl;
      numbers = λ v. elim (cases_eq (variables p) v) [
        | inl here ↦
            rw (
              cell_limit row v here,
              ← here,
              first_of-limit (columns p) (first_entries p i) (slack p i) (variables p) (first_limit p i) (omega arith),
            ) is
        | inr away ↦ elim (cases_lt v (variables p)) [
          | inl inside ↦ rw (cell_listed row v away) (h.numbers v inside)
          | inr past ↦
              rw (
                cell_listed row v away,
                listed_past entries (variables p) v h.below past,
                first_of-past (columns p) (first_entries p i) (slack p i) (variables p) (first_limit p i) v (omega arith) (omega arith),
              )
              refl
        ]
      ];
    }

pub rows_more : (p : ProgramDef) (rows : List RowDef) (row : RowDef) (n : ℕ) → length rows ≡ n
    → ((i : ℕ) → i < n → IsFirstRow p i (row_of rows i))
    → IsFirstRow p n row → (i : ℕ) → i < n + 1 → IsFirstRow p i (row_of (rows ++ row ∷ []) i)
rows_more p rows row n len h here i l = elim (cases_eq i n) [
  | inl at ↦ rw (at, get_or_at rows row [] no_row n len) here
  | inr other ↦ let within : i < length rows = omega arith in rw (get_or_append_left rows (row ∷ []) no_row i within) (h i (omega arith))
]

-- a limit written at its column
pub value_written : (place : ℕ) (t : Table) (k column v : ℕ) (values : List Fraction) (f : Fraction)
    → column < length values → t.basic k ≡ column → f ≡ t.cell k place
    → v < length values → ((c : ℕ) → c < length values → IsValueOf place t k c (fraction_at values c))
    → IsValueOf place t (k + 1) v (fraction_at (set values column f) v)
value_written place t k column v values f within own is l h = elim (cases_eq v column) [
  | inl here ↦ rw (here, get_or-set_same values column f (whole (pos 0)) within, is) (value_here place t k column own)
  | inr other ↦
      rw (get_or-set_other values column v f (whole (pos 0)) other)
      (value_more place t k v (fraction_at values v) (λ q. other (sym q ∙ own)) (h v l))
]

-- the objective row that was read is the table's
pub objective_read : (rows : List RowDef) (basis : List ℕ) (h i : ℕ) (row : RowDef) → i ≡ h → i < length rows
    → row ≡ slice_index_or rows i row
    → (v : ℕ) → (table_of rows basis).cell h v ≡ cell_at row v
objective_read rows basis h i row at l is v = rw (← at) (ap (λ (r : RowDef). cell_at r v) (row_read rows i row l is))
