-- Rows taken from one by one, and what the rows are after all of them.
use Rattle.std.proofs.Common.{◌≡◌, ◌≢◌, ◌⊎◌, inl, inr, ℕ, zero, suc, ◌+◌, ◌<◌, ◌≤◌, ◌^◌, List, [], ◌∷◌, length, set}
use Rattle.std.proofs.Common.{None, Some, Err, is_some, true, false, pos, ◌<ℤ◌, refl, sym, ap, ◌∙◌, arith}
use Rattle.std.proofs.Common.{get_or-set_same, get_or-set_other, length-set, subst}
use Rattle.std.specs.declared.option.Option.{Option}
use Rattle.std.proofs.lemmas.Bool.{cases_eq, ne_eqb}
use Rattle.fraction128.specs.Fraction.{Fraction, whole}
use Rattle.exchange_runs.specs.SmallRuns.{IsSmall}
use Rattle.program_form.specs.Program.{ProgramDef, IsProgram, columns, height, row, entry, limit}
use Rattle.program_form.specs.SparseRows.{number_at, full_row, AreCoefficients}
use Rattle.program_form.specs.declared.sparse_rows.Coefficient.{Coefficient}
use Rattle.whole_rows.specs.Rows.{RowDef, PivotDef, coefficient_row, listed_at, entry_at, num_at}
use Rattle.whole_rows.specs.Rows.{cell_at, limit_of, AreSparse, AreBelow, IsPivotOf}
use Rattle.whole_rows.specs.Steps.{IsDividedRow, IsLeftRow}
use Rattle.whole_rows.specs.declared.entries.Entry.{Entry}
use Rattle.whole_runs.specs.States.{row_at, cell_seen, limit_seen, HasPlaces}
use Rattle.whole_runs.specs.Columns.{num_seen, IsColumn}
use Rattle.whole_runs.specs.Exchanges.{IsTouched, AreSmallRows, IsLeft, IsDivided}
use Rattle.whole_runs.specs.Takings.{Touches, Divides, IsLeftAt, IsTaken, AreTakenTo, ExchangesRows}
use Rattle.whole_runs.specs.Starts.{IsFirstRow}
use Rattle.whole_runs.proofs.Smalls.{small_zero, small_whole, over_one_same, less_of_zero, zero_less}
use Rattle.whole_rows.specs.declared.stops.RowStop.{RowStop}
use Rattle.whole_rows.specs.declared.stops.RowStop.TheVariants as row_stop
use Rattle.whole_runs.specs.Ends.{GivesOrStops}
use Rattle.whole_runs.specs.Stops.{halt_of}
use Rattle.whole_runs.proofs.Starting.{number_of_row, coefficient_row_is}
use Rattle.whole_runs.proofs.Marking.{num_of_cell}

-- A place is listed, or it isn't.
pub listed_cases : (entries : List Entry) (i : ℕ)
    → ((m : ℕ) × (m < length entries) × ((entry_at entries m).place ≡ i))
    ⊎ ((m : ℕ) → m < length entries → (entry_at entries m).place ≢ i)
listed_cases [] i = inr (λ m l. absurd (omega (arith, l)))
listed_cases (e ∷ es) i = elim (cases_eq e.place i) [
  | inl here ↦ inl (zero, omega arith, here)
  | inr away ↦ elim (listed_cases es i) [
    | inl later ↦ inl (suc later.0, omega (arith, later.1), later.2)
    | inr none ↦ inr (apart e es i away none)
  ]
]
  where
    apart : (e : Entry) (es : List Entry) (i : ℕ) → e.place ≢ i → ((m : ℕ) → m < length es → (entry_at es m).place ≢ i) → (m : ℕ)
        → m < length (e ∷ es) → (entry_at (e ∷ es) m).place ≢ i
    apart e es i away none zero l = away
    apart e es i away none (suc m) l = none m (omega arith)

-- Where it isn't, the number is zero.
pub unlisted_zero : (entries : List Entry) (i : ℕ) → ((m : ℕ) → m < length entries → (entry_at entries m).place ≢ i)
    → listed_at entries i ≡ pos 0
unlisted_zero [] i none = refl
unlisted_zero (e ∷ es) i none =
    let away : e.place ≢ i = none zero (omega arith) in
    rw (ne_eqb e.place i away) (unlisted_zero es i (λ m l. none (suc m) (omega arith)))

-- what is in the rows after one of them is set
pub row_set : (rows : List (Option RowDef)) (i : ℕ) (row : Option RowDef) → i < length rows → row_at (set rows i row) i ≡ row
row_set rows i row l = get_or-set_same rows i row None l

pub row_aside : (rows : List (Option RowDef)) (i j : ℕ) (row : Option RowDef) → j ≢ i → row_at (set rows i row) j ≡ row_at rows j
row_aside rows i j row away = get_or-set_other rows i j row None away

-- A row that is made is the program's own, and one that is there stays.
pub touched_first : (p : ProgramDef) (i : ℕ) (before : Option RowDef) (row : RowDef) → is_some before ≡ false → IsFirstRow p i row
    → Touches p i before (Some row)
touched_first p i None row none first = record { as_many = first.as_many; cells = first.cells; limit = first.limit }
touched_first p i (Some old) row none first = cc

pub touched_before : (p : ProgramDef) (i : ℕ) (before : Option RowDef) → is_some before ≡ true → HasPlaces p i before
    → Touches p i before before
touched_before p i None there places = cc
touched_before p i (Some row) there places = record { as_many = places; cells = λ k. refl; limit = refl }

pub touched_above : (p : ProgramDef) (i k : ℕ) (before : Option RowDef) (row : RowDef) → IsTouched p i before row
    → pos 0 <ℤ num_seen p before i k → pos 0 <ℤ num_at row k
touched_above p i k before row touched above = rw (ap (λ (f : Fraction). f.num) (touched.cells k) ∙ num_of_cell p before i k) above

-- What is left of a row is what is left of the one that it was before it was touched.
pub left_of_touched : (p : ProgramDef) (i : ℕ) (before : Option RowDef) (row : RowDef) (k : ℕ) (divided left : RowDef)
    → IsTouched p i before row → IsLeftRow row k divided left → IsLeft p i before k divided (Some left)
left_of_touched p i before row k divided left touched h = record {
  own = rw (← touched.cells k) h.own;
  others = λ j away. rw (← touched.cells j, ← touched.cells k) (h.others j away);
  limit = rw (← touched.limit, ← touched.cells k) h.limit;
}

pub divided_of_touched : (p : ProgramDef) (r : ℕ) (before : Option RowDef) (row : RowDef) (k : ℕ) (divided : RowDef)
    → IsTouched p r before row → IsDividedRow row k divided → IsDivided p r before k divided
divided_of_touched p r before row k divided touched h = record {
  cells = record { cells = h.small.cells; limit = h.small.limit };
  own = rw (← touched.cells k) h.own;
  others = λ j away. rw (← touched.cells j, ← touched.cells k) (h.others j away);
  limit = rw (← touched.limit, ← touched.cells k) h.limit;
}

-- What a row's stop becomes.
pub halts_for : {X : Type 0} (stop : RowStop) (is : X → Type 0) (cause : Type 0) → (stop ≡ row_stop.Large → cause)
    → GivesOrStops (Err (halt_of stop)) is cause
halts_for row_stop.Memory is cause large = tt
halts_for row_stop.Large is cause large = large refl

pub taken_one : (p : ProgramDef) (i k : ℕ) (pivot : PivotDef) (before : Option RowDef) (row left : RowDef)
    → IsTouched p i before row → ((divided : RowDef) → IsPivotOf pivot divided → IsLeftRow row k divided left)
    → IsTaken p i before k pivot (Some left)
taken_one p i k pivot before row left touched h divided is = record {
  places = (h divided is).as_many ∙ touched.as_many;
  left = left_of_touched p i before row k divided left touched (h divided is);
}

pub divided_one : (p : ProgramDef) (r k : ℕ) (pivot : PivotDef) (before : Option RowDef) (row divided : RowDef)
    → IsTouched p r before row → IsDividedRow row k divided → IsPivotOf pivot divided → Divides p r before k (Some divided) pivot
divided_one p r k pivot before row divided touched h is = record {
  places = h.as_many ∙ touched.as_many;
  row = divided;
  here = record { as_many = h.as_many ∙ touched.as_many; cells = λ j. refl; limit = refl };
  divided = divided_of_touched p r before row k divided touched h;
  is_pivot = is;
}

-- A row over 1 that has 1 at k is divided without a change.
divided_first : (p : ProgramDef) (r k : ℕ) (row : RowDef) → IsProgram p → IsTouched p r None row → entry p r k ≡ 1
    → IsDivided p r None k row
divided_first p r k row is touched one = record {
  cells = record {
    cells = λ j. rw (touched.cells j) (small_whole (entry p r j) (small_of (entry p r j) (is.small.entries r j)));
    limit = rw touched.limit (small_whole (limit p r) (small_of (limit p r) (is.small.limits r)));
  };
  own = rw (touched.cells k, one) (over_one_same (whole (pos 1)));
  others = λ j away. rw (touched.cells j, one) (over_one_same (whole (pos (entry p r j))));
  limit = rw (touched.limit, one) (over_one_same (whole (pos (limit p r))));
}
  where
    small_of : (n : ℕ) → n ≤ 9223372036854775807 → n < 2 ^ 63
    small_of n l = omega arith

pub divided_untouched : (p : ProgramDef) (r k : ℕ) (before : Option RowDef) (cs : List Coefficient) (pivot : PivotDef)
    → is_some before ≡ false → IsProgram p → r < height p → AreCoefficients (columns p) cs → full_row (columns p) cs ≡ row p r
    → number_at cs k ≡ 1 → IsPivotOf pivot (coefficient_row (columns p) cs (limit p r)) → Divides p r before k before pivot
divided_untouched p r k (Some old) cs pivot none is l listed full one pivot_is = cc
divided_untouched p r k None cs pivot none is l listed full one pivot_is =
    let own = coefficient_row_is p r cs is l listed full in
    let touched : IsTouched p r None (coefficient_row (columns p) cs (limit p r))
    = record { as_many = own.as_many; cells = own.cells; limit = own.limit } in
    record {
      places = l;
      row = coefficient_row (columns p) cs (limit p r);
      here = touched;
      divided = divided_first p r k (coefficient_row (columns p) cs (limit p r)) is touched
          (sym (number_of_row p r cs k is l listed full) ∙ one);
      is_pivot = pivot_is;
    }

pub taken_none : (p : ProgramDef) (rows : List (Option RowDef)) (column : List Entry) (k r : ℕ) (pivot : PivotDef)
    → AreTakenTo 0 p rows rows column k r pivot
taken_none p rows column k r pivot = record {
  as_many = refl;
  listed = λ m l away. absurd (omega (arith, l));
  rest = λ i apart. refl;
}

-- the rows listed earlier are others
earlier_apart : (column : List Entry) (n m : ℕ) → AreSparse column → n < length column → m < n
    → (entry_at column m).place ≢ (entry_at column n).place
earlier_apart column n m sparse l before same = omega (arith, sparse.rise m n before l, same)

rest_before : (n i r : ℕ) (column : List Entry) → ((i ≡ r) ⊎ ((m : ℕ) → m < n + 1 → (entry_at column m).place ≢ i))
    → (i ≡ r) ⊎ ((m : ℕ) → m < n → (entry_at column m).place ≢ i)
rest_before n i r column (inl own) = inl own
rest_before n i r column (inr apart) = inr (λ m l. apart m (omega arith))

-- the next row listed is as it was
pub next_as_was : (n : ℕ) (p : ProgramDef) (before rows : List (Option RowDef)) (column : List Entry) (k r : ℕ) (pivot : PivotDef)
    → AreSparse column → n < length column → AreTakenTo n p before rows column k r pivot
    → row_at rows (entry_at column n).place ≡ row_at before (entry_at column n).place
next_as_was n p before rows column k r pivot sparse l h =
    h.rest (entry_at column n).place (inr (λ m lm. earlier_apart column n m sparse l lm))

pub next_places : (n : ℕ) (p : ProgramDef) (before rows : List (Option RowDef)) (column : List Entry) (k r : ℕ) (pivot : PivotDef)
    → AreSparse column → AreBelow (length before) column → n < length column
    → ((i : ℕ) → i < length before → HasPlaces p i (row_at before i)) → AreTakenTo n p before rows column k r pivot
    → HasPlaces p (entry_at column n).place (row_at rows (entry_at column n).place)
next_places n p before rows column k r pivot sparse below l places h =
    rw (next_as_was n p before rows column k r pivot sparse l h) (places (entry_at column n).place (below n l))

-- the next row listed is taken from
pub taken_more : (n : ℕ) (p : ProgramDef) (before rows : List (Option RowDef)) (left : Option RowDef) (column : List Entry) (k r : ℕ)
    (pivot : PivotDef)
    → AreSparse column → AreBelow (length before) column → n < length column → (entry_at column n).place ≢ r
    → AreTakenTo n p before rows column k r pivot
    → IsTaken p (entry_at column n).place (row_at rows (entry_at column n).place) k pivot left
    → AreTakenTo (n + 1) p before (set rows (entry_at column n).place left) column k r pivot
taken_more n p before rows left column k r pivot sparse below l away h one =
    let i = (entry_at column n).place in
    let as_was : row_at rows i ≡ row_at before i = next_as_was n p before rows column k r pivot sparse l h in
    let own : row_at (set rows i left) i ≡ left = row_set rows i left (omega (arith, below n l, h.as_many)) in
    record {
      as_many = length-set rows i left ∙ h.as_many;
      listed = λ m lm apart. elim (cases_eq m n) [
        | inl here ↦ rw (here, own)
            (subst (λ (row : Option RowDef). IsTaken p (entry_at column n).place row k pivot left) as_was one)
        | inr earlier ↦
            let le : m < n = omega (arith, lm, earlier) in
            rw (row_aside rows i (entry_at column m).place left (earlier_apart column n m sparse l le)) (h.listed m le apart)
      ];
      rest = λ j apart. row_aside rows i j left (other j apart) ∙ h.rest j (rest_before n j r column apart);
    }
  where
    other : (j : ℕ) → ((j ≡ r) ⊎ ((m : ℕ) → m < n + 1 → (entry_at column m).place ≢ j)) → j ≢ (entry_at column n).place
    other j (inl own) same = away (sym same ∙ own)
    other j (inr apart) same = apart n (omega arith) (sym same)

-- or it is row r, which is passed over
pub taken_past : (n : ℕ) (p : ProgramDef) (before rows : List (Option RowDef)) (column : List Entry) (k r : ℕ) (pivot : PivotDef)
    → (entry_at column n).place ≡ r → AreTakenTo n p before rows column k r pivot → AreTakenTo (n + 1) p before rows column k r pivot
taken_past n p before rows column k r pivot own h = record {
  as_many = h.as_many;
  listed = λ m lm apart divided is. elim (cases_eq m n) [
    | inl here ↦ absurd (apart (ap (λ x. (entry_at column x).place) here ∙ own))
    | inr earlier ↦ h.listed m (omega (arith, lm, earlier)) apart divided is
  ];
  rest = λ j apart. h.rest j (rest_before n j r column apart);
}

-- A row whose number at k is zero stays as it is.
kept_row : (p : ProgramDef) (rows : List (Option RowDef)) (i k : ℕ) (divided : RowDef) → AreSmallRows p rows → i < length rows
    → num_seen p (row_at rows i) i k ≡ pos 0 → IsLeft p i (row_at rows i) k divided (row_at rows i)
kept_row p rows i k divided small l none =
    let row = row_at rows i in
    let zero_f : (cell_seen p (row_at rows i) i k).num ≡ pos 0 = num_of_cell p row i k ∙ none in
    record {
      own = zero_less IsSmall small_zero (cell_seen p row i k) (cell_at divided k) zero_f (small.cells i k l);
      others = λ j away.
          less_of_zero IsSmall small_zero (cell_seen p row i j) (cell_seen p row i k) (cell_at divided j) zero_f (small.cells i j l);
      limit = less_of_zero IsSmall small_zero (limit_seen p row i) (cell_seen p row i k) (limit_of divided) zero_f (small.limits i l);
    }

-- The rows with row r divided have the places that they had.
pub places_divided : (p : ProgramDef) (rows : List (Option RowDef)) (k r : ℕ) (row : Option RowDef) (pivot : PivotDef)
    → Divides p r (row_at rows r) k row pivot → ((i : ℕ) → i < length rows → HasPlaces p i (row_at rows i))
    → (i : ℕ) → i < length (set rows r row) → HasPlaces p i (row_at (set rows r row) i)
places_divided p rows k r row pivot divides places i l =
    let inside : i < length rows = omega (arith, l, length-set rows r row) in
    elim (cases_eq i r) [
      | inl here ↦ rw (here, row_set rows r row (rw here at inside)) divides.places
      | inr away ↦ rw (row_aside rows r i row away) (places i inside)
    ]

pub divided_below : (p : ProgramDef) (r : ℕ) (before : Option RowDef) (k : ℕ) (row : Option RowDef) (pivot : PivotDef)
    → Divides p r before k row pivot → AreBelow (columns p) pivot.entries
divided_below p r before k row pivot divides j l = omega (arith, divides.is_pivot.below j l, divides.here.as_many)

-- Each other row of an exchange.
taken_row : (p : ProgramDef) (before after : List (Option RowDef)) (column : List Entry) (k r i : ℕ) (pivot : PivotDef) (row : RowDef)
    (new : Option RowDef)
    → ((i : ℕ) → i < length before → HasPlaces p i (row_at before i))
    → AreSmallRows p before → IsColumn p before k column → IsPivotOf pivot row
    → AreTakenTo (length column) p (set before r new) after column k r pivot → i < length before → i ≢ r
    → IsLeftAt p i (row_at before i) k row (row_at after i)
taken_row p before after column k r i pivot row new places small column_is is taken l away =
    let as_was : row_at (set before r new) i ≡ row_at before i = row_aside before r i new away in
    elim (listed_cases column i) [
      | inl listed ↦
          let apart : (entry_at column listed.0).place ≢ r = λ same. away (sym listed.2 ∙ same) in
          let there = taken.listed listed.0 listed.1 apart row is in
          let here = rw listed.2 at there in
          subst (λ (x : Option RowDef). IsLeftAt p i x k row (row_at after i)) as_was here
      | inr none ↦
          let zero_f : num_seen p (row_at before i) i k ≡ pos 0 = sym (column_is.each i l) ∙ unlisted_zero column i none in
          let still : row_at after i ≡ row_at before i = taken.rest i (inr none) ∙ as_was in
          record { places = rw still (places i l); left = rw still (kept_row p before i k row small l zero_f) }
    ]

pub exchanged_rows : (p : ProgramDef) (before after : List (Option RowDef)) (column : List Entry) (k r : ℕ) (pivot : PivotDef)
    (new : Option RowDef)
    → r < length before → ((i : ℕ) → i < length before → HasPlaces p i (row_at before i)) → AreSmallRows p before
    → IsColumn p before k column → Divides p r (row_at before r) k new pivot
    → AreTakenTo (length column) p (set before r new) after column k r pivot
    → ExchangesRows p before after k r pivot
exchanged_rows p before after column k r pivot new l places small column_is divides taken =
    let as_new : row_at after r ≡ new = taken.rest r (inl refl) ∙ row_set before r new l in
    let others = taken_row p before after column k r in (
      record {
        as_many = taken.as_many ∙ length-set before r new;
        places = λ i li. elim (cases_eq i r) [
          | inl own ↦ rw (own, as_new) divides.places
          | inr away ↦ (others i pivot divides.row new places small column_is divides.is_pivot taken li away).places
        ];
        row = divides.row;
        here = rw as_new divides.here;
        divided = divides.divided;
        taken = λ i li away. (others i pivot divides.row new places small column_is divides.is_pivot taken li away).left;
      },
      divides.is_pivot,
    )
