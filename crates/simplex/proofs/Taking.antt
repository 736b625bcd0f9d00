-- The rows while the pivot row is taken from them.
use Rattle.std.proofs.Common.{◌≡◌, ◌≢◌, ℕ, ◌<◌, ◌≤◌, ◌+◌, inl, inr, List, length, pos, Err, set, refl, sym, slice_index_or, ◌∙◌, arith}
use Rattle.std.proofs.Common.{get_or-set_same, get_or-set_other, length-set}
use Rattle.std.proofs.lemmas.Bool.{cases_eq}
use Rattle.fraction128.specs.Fraction.{Fraction}
use Rattle.simplex.specs.Rows.{RowDef, cell_at, no_row, HasForms}
use Rattle.simplex.specs.RowSteps.{IsDividedRow, DividesRow, IsLeftRow, LeavesRow}
use Rattle.simplex.specs.Tables.{row_of}
use Rattle.simplex.specs.Exchanges.{AreTaken, TakesAll, AreExchanged, ExchangesIn}
use Rattle.simplex.specs.declared.SolveStop.{SolveStop}
use Rattle.simplex.specs.declared.SolveStop.TheVariants.{Memory, Wide, Units}
use Rattle.exchange_runs.proofs.Loops.{less_of_zero}
use Rattle.simplex.proofs.Cells.{row_same}

-- the rows below k have lost theirs, and the others are as before
pub record AreTakenTo (k : ℕ) (before now : List RowDef) (e r : ℕ) (pivot : RowDef) : Type 0 where
  pub as_many : length now ≡ length before
  pub taken : (i : ℕ) → i < k → i ≢ r → IsLeftRow (row_of before i) (cell_at (row_of before i) e) pivot (row_of now i)
  pub rest : (i : ℕ) → k ≤ i → row_of now i ≡ row_of before i

-- row k is read as it was
pub still : (k : ℕ) (before now : List RowDef) (e r : ℕ) (pivot x : RowDef) → AreTakenTo k before now e r pivot → k < length before
    → slice_index_or now k x ≡ row_of before k
still k before now e r pivot x h l = sym (row_same now k x (omega (arith, h.as_many))) ∙ h.rest k (omega arith)

module _ (k : ℕ) (before now : List RowDef) (e r : ℕ) (pivot : RowDef) (f : Fraction) (h : AreTakenTo k before now e r pivot)
    (l : k < length before) (cell : f ≡ cell_at (row_of before k) e) where
  -- one row more, from which it is taken
  pub taken_more : (left : RowDef) → IsLeftRow (row_of before k) f pivot left → AreTakenTo (k + 1) before (set now k left) e r pivot
  taken_more left is = record {
    as_many = length-set now k left ∙ h.as_many;
    taken = λ i li ai. elim (cases_eq i k) [
      | inl here ↦ rw (here, get_or-set_same now k left no_row (omega (arith, h.as_many)), ← cell) is
      | inr other ↦ rw (get_or-set_other now k i left no_row other) (h.taken i (omega arith) ai)
    ];
    rest = λ i li. let other : i ≢ k = omega arith in get_or-set_other now k i left no_row other ∙ h.rest i (omega arith);
  }

  -- one row more, which stays since its cell at e is zero
  pub taken_same : HasForms (row_of before k) → f.num ≡ pos 0 → AreTakenTo (k + 1) before now e r pivot
  taken_same forms none = record {
    as_many = h.as_many;
    taken = λ i li ai. elim (cases_eq i k) [
      | inl here ↦ rw (here, h.rest k (omega arith), ← cell)
          (record {
            as_many = refl;
            each = λ v. less_of_zero (cell_at (row_of before k) v) f (cell_at pivot v) none (forms v);
          })
      | inr other ↦ h.taken i (omega arith) ai
    ];
    rest = λ i li. h.rest i (omega arith);
  }

  -- the stop of a row is that of all
  pub takes_stop : (stop : SolveStop) → k ≢ r → LeavesRow (Err stop) (row_of before k) f pivot → TakesAll (Err stop) before now e r pivot
  takes_stop Memory apart is = tt
  takes_stop Wide apart is = (k, is.0, l, apart, rw (← cell) is.1)
  takes_stop Units apart is = is

-- row r is passed over
pub taken_past : (k : ℕ) (before now : List RowDef) (e r : ℕ) (pivot : RowDef) → k ≡ r → AreTakenTo k before now e r pivot
    → AreTakenTo (k + 1) before now e r pivot
taken_past k before now e r pivot here h = record {
  as_many = h.as_many;
  taken = λ i li ai. h.taken i (omega arith) ai;
  rest = λ i li. h.rest i (omega arith);
}

-- the stop of the dividing, or of the taking, is that of the exchange
pub divided_stop : (stop : SolveStop) (before after : List RowDef) (e r : ℕ)
    → DividesRow (Err stop) (row_of before r) (cell_at (row_of before r) e) → ExchangesIn (Err stop) before after e r
divided_stop Memory before after e r h = tt
divided_stop Wide before after e r h = λ most basis size. inl (record { at_place = h.0; wide = h.1 })
divided_stop Units before after e r h = h

pub taken_stop : (stop : SolveStop) (before after : List RowDef) (e r : ℕ) (pivot : RowDef)
    → IsDividedRow (row_of before r) (cell_at (row_of before r) e) pivot → TakesAll (Err stop) before after e r pivot
    → ExchangesIn (Err stop) before after e r
taken_stop Memory before after e r pivot divided h = tt
taken_stop Wide before after e r pivot divided h =
    λ most basis size. inr (record {
      divided = cell_at pivot;
      divided_form = divided.form;
      is_divided = divided.quotient;
      of_row = h.0;
      at_place = h.1;
      within = omega (arith, h.2, size);
      other = h.3;
      wide = h.4;
    })
taken_stop Units before after e r pivot divided h = h

-- the rows with the pivot row in its place
pub exchanged : (before mid : List RowDef) (e r : ℕ) (pivot : RowDef) → r < length before
    → IsDividedRow (row_of before r) (cell_at (row_of before r) e) pivot → AreTaken before mid e r pivot
    → AreExchanged before (set mid r pivot) e r
exchanged before mid e r pivot l divided h =
    let here : row_of (set mid r pivot) r ≡ pivot = get_or-set_same mid r pivot no_row (omega (arith, h.as_many)) in
    record {
      as_many = length-set mid r pivot ∙ h.as_many;
      divided = rw here divided;
      taken = λ i li ai. rw (here, get_or-set_other mid r i pivot no_row ai) (h.taken i li ai);
    }
