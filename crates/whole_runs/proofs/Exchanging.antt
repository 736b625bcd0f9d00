-- An exchange of the rows is one of the table, place by place.
use Rattle.std.proofs.Common.{◌≡◌, ◌≢◌, inl, inr, ℕ, ◌+◌, ◌<◌, ◌≤◌, ◌==◌, if◌then◌else◌, List, length}
use Rattle.std.proofs.Common.{slice_index, set, refl, sym, ap, ◌∙◌, arith}
use Rattle.std.proofs.Common.{length-set, pos}
use Rattle.std.specs.declared.option.Option.{Option}
use Rattle.std.proofs.lemmas.Bool.{cases_lt, cases_eq, eq-eqb, ne_eqb}
use Rattle.fraction128.specs.Fraction.{Fraction, IsQuotient, whole}
use Rattle.program_form.specs.Program.{ProgramDef, height}
use Rattle.exchange_runs.specs.Table.{variables}
use Rattle.exchange_runs.specs.Exchange.{IsEntering, IsLeavingOver, IsLessOver, IsExchangeOver}
use Rattle.whole_rows.specs.Rows.{RowDef}
use Rattle.whole_runs.specs.States.{row_at, cell_seen, limit_seen, stand_cell, stand_at, table_cell, table_seen, HasSize, AreStands}
use Rattle.whole_runs.specs.Exchanges.{AreCells, AreExchangedOver}
use Rattle.whole_runs.specs.declared.stands.Stand.{Stand}
use Rattle.whole_runs.specs.declared.stands.Stand.TheVariants.{Outside, Basic}
use Rattle.whole_runs.proofs.Seen.{cell_of_limit, cell_of_variable, cell_past}
use Rattle.whole_runs.proofs.Smalls.{one_of_same, zero_over, less_at_zero, less_itself}
use Rattle.whole_runs.proofs.Standing.{IsBegun, stands_after, variable_cases, stand_left, stand_entered, left_basic}
use Rattle.whole_runs.proofs.Standing.{place_apart, row_apart, new_basis_own, new_basis_other}

-- the cell at the place of a variable with this stand
pub cell_read : (p : ProgramDef) (rows : List (Option RowDef)) (stands : List Stand) (i v : ℕ) (s : Stand) → v < variables p
    → stand_at stands v ≡ s → table_cell p rows stands i v ≡ stand_cell p (row_at rows i) i s
cell_read p rows stands i v s l at = cell_of_variable p rows stands i v l ∙ ap (stand_cell p (row_at rows i) i) at

-- one in row j, and zero elsewhere
abbrev pub unit : ℕ → ℕ → Fraction
unit j i = if i == j then whole (pos 1) else whole (pos 0)

unit_own : (j : ℕ) → unit j j ≡ whole (pos 1)
unit_own j = rw (eq-eqb j j refl) refl

unit_other : (j i : ℕ) → i ≢ j → unit j i ≡ whole (pos 0)
unit_other j i away = rw (ne_eqb i j away) refl

-- At one place with the cells a before and c after, where f are those of the entering variable: is row r divided, and has each other
-- row up to the given one lost its f times the new row r?
pub record IsTakenAt (IsCell : Fraction → Type 0) (most r : ℕ) (f a c : ℕ → Fraction) : Type 0 where
  pub form : IsCell (c r)
  pub divided : IsQuotient (a r) (f r) (c r)
  pub taken : (i : ℕ) → i ≤ most → i ≢ r → IsLessOver IsCell (a i) (f i) (c r) (c i)

-- Whatever values `IsCell` allows, if zero and one are among them.
module _ (IsCell : Fraction → Type 0) (zero : IsCell (whole (pos 0))) (one : IsCell (whole (pos 1))) where
  unit_cell : (j i : ℕ) → IsCell (unit j i)
  unit_cell j i = elim (cases_eq i j) [
    | inl here ↦ rw (eq-eqb i j here) one
    | inr away ↦ rw (ne_eqb i j away) zero
  ]

  carried : (most r : ℕ) (f a c g b d : ℕ → Fraction) → ((i : ℕ) → f i ≡ g i) → ((i : ℕ) → a i ≡ b i) → ((i : ℕ) → c i ≡ d i)
      → IsTakenAt IsCell most r g b d → IsTakenAt IsCell most r f a c
  carried most r f a c g b d at_f at_a at_c h = record {
    form = rw (at_c r) h.form;
    divided = rw (at_a r, at_f r, at_c r) h.divided;
    taken = λ i l away. rw (at_a i, at_f i, at_c r, at_c i) (h.taken i l away);
  }

  taken_past : (most r : ℕ) (f : ℕ → Fraction) → IsTakenAt IsCell most r f (λ i. whole (pos 0)) (λ i. whole (pos 0))
  taken_past most r f = record {
    form = zero;
    divided = zero_over (f r);
    taken = λ i l away. less_at_zero IsCell zero (whole (pos 0)) (f i) zero;
  }

  taken_basic : (most r j : ℕ) (f : ℕ → Fraction) → j ≢ r → IsTakenAt IsCell most r f (unit j) (unit j)
  taken_basic most r j f apart =
      let none : unit j r ≡ whole (pos 0) = unit_other j r (λ same. apart (sym same)) in
      record {
        form = unit_cell j r;
        divided = rw none (zero_over (f r));
        taken = λ i l away. rw none (less_at_zero IsCell zero (unit j i) (f i) (unit_cell j i));
      }

  taken_entering : (most r : ℕ) (f : ℕ → Fraction) → ((i : ℕ) → i ≤ most → IsCell (f i)) → IsTakenAt IsCell most r f f (unit r)
  taken_entering most r f are = record {
    form = unit_cell r r;
    divided = rw (unit_own r) (one_of_same (f r));
    taken = λ i l away. rw (unit_own r, unit_other r i away) (less_itself IsCell zero (f i) (are i l));
  }

  taken_leaving : (p : ProgramDef) (rows rows' : List (Option RowDef)) (k r : ℕ) → length rows ≡ height p + 1
      → AreExchangedOver IsCell p rows rows' k r
      → IsTakenAt IsCell (height p) r (λ i. cell_seen p (row_at rows i) i k) (unit r) (λ i. cell_seen p (row_at rows' i) i k)
  taken_leaving p rows rows' k r many h = record {
    form = rw (← h.here.cells k) (h.divided.cells.cells k);
    divided = rw (unit_own r, ← h.here.cells k) h.divided.own;
    taken = λ i l away. rw (unit_other r i away, ← h.here.cells k) (h.taken i (omega arith) away).own;
  }

  taken_outside : (p : ProgramDef) (rows rows' : List (Option RowDef)) (k r j : ℕ) → length rows ≡ height p + 1
      → AreExchangedOver IsCell p rows rows' k r → j ≢ k
      → IsTakenAt IsCell (height p) r (λ i. cell_seen p (row_at rows i) i k) (λ i. cell_seen p (row_at rows i) i j)
      (λ i. cell_seen p (row_at rows' i) i j)
  taken_outside p rows rows' k r j many h apart = record {
    form = rw (← h.here.cells j) (h.divided.cells.cells j);
    divided = rw (← h.here.cells j) (h.divided.others j apart);
    taken = λ i l away. rw (← h.here.cells j) ((h.taken i (omega arith) away).others j apart);
  }

  taken_limit : (p : ProgramDef) (rows rows' : List (Option RowDef)) (k r : ℕ) → length rows ≡ height p + 1
      → AreExchangedOver IsCell p rows rows' k r
      → IsTakenAt IsCell (height p) r (λ i. cell_seen p (row_at rows i) i k) (λ i. limit_seen p (row_at rows i) i)
      (λ i. limit_seen p (row_at rows' i) i)
  taken_limit p rows rows' k r many h = record {
    form = rw (← h.here.limit) h.divided.cells.limit;
    divided = rw (← h.here.limit) h.divided.limit;
    taken = λ i l away. rw (← h.here.limit) (h.taken i (omega arith) away).limit;
  }

  -- Another variable is where it was.
  taken_other : (p : ProgramDef) (rows rows' : List (Option RowDef)) (basis : List ℕ) (stands : List Stand) (e k r v : ℕ) (s : Stand)
      → length rows ≡ height p + 1 → IsBegun p basis stands e k r → AreExchangedOver IsCell p rows rows' k r → v < variables p
      → v ≢ e → v ≢ slice_index basis r → stand_at stands v ≡ s → stand_at (stands_after basis stands e k r) v ≡ s
      → IsTakenAt IsCell (height p) r (λ i. cell_seen p (row_at rows i) i k) (λ i. table_cell p rows stands i v)
      (λ i. table_cell p rows' (stands_after basis stands e k r) i v)
  taken_other p rows rows' basis stands e k r v (Outside j) many begun h l apart_e apart_b old new =
      carried (height p) r (λ i. cell_seen p (row_at rows i) i k) (λ i. table_cell p rows stands i v)
      (λ i. table_cell p rows' (stands_after basis stands e k r) i v)
      (λ i. cell_seen p (row_at rows i) i k) (λ i. cell_seen p (row_at rows i) i j) (λ i. cell_seen p (row_at rows' i) i j)
      (λ i. refl) (λ i. cell_read p rows stands i v (Outside j) l old)
      (λ i. cell_read p rows' (stands_after basis stands e k r) i v (Outside j) l new)
      (taken_outside p rows rows' k r j many h (place_apart p basis stands e k r v j begun l apart_e old))
  taken_other p rows rows' basis stands e k r v (Basic j) many begun h l apart_e apart_b old new =
      carried (height p) r (λ i. cell_seen p (row_at rows i) i k) (λ i. table_cell p rows stands i v)
      (λ i. table_cell p rows' (stands_after basis stands e k r) i v)
      (λ i. cell_seen p (row_at rows i) i k) (unit j) (unit j)
      (λ i. refl) (λ i. cell_read p rows stands i v (Basic j) l old)
      (λ i. cell_read p rows' (stands_after basis stands e k r) i v (Basic j) l new)
      (taken_basic (height p) r j (λ i. cell_seen p (row_at rows i) i k) (row_apart p basis stands e k r v j begun l apart_b old))

  taken_variable : (p : ProgramDef) (rows rows' : List (Option RowDef)) (basis : List ℕ) (stands : List Stand) (e k r v : ℕ)
      → length rows ≡ height p + 1 → AreCells IsCell p rows → IsBegun p basis stands e k r → AreExchangedOver IsCell p rows rows' k r
      → v < variables p
      → IsTakenAt IsCell (height p) r (λ i. cell_seen p (row_at rows i) i k) (λ i. table_cell p rows stands i v)
      (λ i. table_cell p rows' (stands_after basis stands e k r) i v)
  taken_variable p rows rows' basis stands e k r v many are begun h l = elim (variable_cases basis stands e k r v) [
    | inl entered ↦
        rw entered
        (carried (height p) r (λ i. cell_seen p (row_at rows i) i k) (λ i. table_cell p rows stands i e)
        (λ i. table_cell p rows' (stands_after basis stands e k r) i e)
        (λ i. cell_seen p (row_at rows i) i k) (λ i. cell_seen p (row_at rows i) i k) (unit r)
        (λ i. refl) (λ i. cell_read p rows stands i e (Outside k) begun.enters begun.place)
        (λ i. cell_read p rows' (stands_after basis stands e k r) i e (Basic r) begun.enters (stand_entered p basis stands e k r begun))
        (taken_entering (height p) r (λ i. cell_seen p (row_at rows i) i k) (λ i within. are.cells i k (omega arith))))
    | inr (inl left) ↦
        let b : ℕ = slice_index basis r in
        let within : slice_index basis r < variables p = begun.are.basic_within r begun.row in
        rw left
        (carried (height p) r (λ i. cell_seen p (row_at rows i) i k) (λ i. table_cell p rows stands i b)
        (λ i. table_cell p rows' (stands_after basis stands e k r) i b)
        (λ i. cell_seen p (row_at rows i) i k) (unit r) (λ i. cell_seen p (row_at rows' i) i k)
        (λ i. refl) (λ i. cell_read p rows stands i b (Basic r) within (left_basic p basis stands e k r begun))
        (λ i. cell_read p rows' (stands_after basis stands e k r) i b (Outside k) within (stand_left p basis stands e k r begun))
        (taken_leaving p rows rows' k r many h))
    | inr (inr other) ↦
        taken_other p rows rows' basis stands e k r v (stand_at stands v) many begun h l other.0 other.1 refl other.2
  ]

  taken_at : (p : ProgramDef) (rows rows' : List (Option RowDef)) (basis : List ℕ) (stands : List Stand) (e k r v : ℕ)
      → length rows ≡ height p + 1 → AreCells IsCell p rows → IsBegun p basis stands e k r → AreExchangedOver IsCell p rows rows' k r
      → IsTakenAt IsCell (height p) r (λ i. cell_seen p (row_at rows i) i k) (λ i. table_cell p rows stands i v)
      (λ i. table_cell p rows' (stands_after basis stands e k r) i v)
  taken_at p rows rows' basis stands e k r v many are begun h = elim (cases_lt v (variables p)) [
    | inl variable ↦ taken_variable p rows rows' basis stands e k r v many are begun h variable
    | inr behind ↦ elim (cases_eq v (variables p)) [
      | inl limit ↦
          rw limit
          (carried (height p) r (λ i. cell_seen p (row_at rows i) i k) (λ i. table_cell p rows stands i (variables p))
          (λ i. table_cell p rows' (stands_after basis stands e k r) i (variables p))
          (λ i. cell_seen p (row_at rows i) i k) (λ i. limit_seen p (row_at rows i) i) (λ i. limit_seen p (row_at rows' i) i)
          (λ i. refl) (λ i. cell_of_limit p rows stands i) (λ i. cell_of_limit p rows' (stands_after basis stands e k r) i)
          (taken_limit p rows rows' k r many h))
      | inr away ↦
          let past : variables p < v = omega arith in
          carried (height p) r (λ i. cell_seen p (row_at rows i) i k) (λ i. table_cell p rows stands i v)
          (λ i. table_cell p rows' (stands_after basis stands e k r) i v)
          (λ i. cell_seen p (row_at rows i) i k) (λ i. whole (pos 0)) (λ i. whole (pos 0))
          (λ i. refl) (λ i. cell_past p rows stands i v past) (λ i. cell_past p rows' (stands_after basis stands e k r) i v past)
          (taken_past (height p) r (λ i. cell_seen p (row_at rows i) i k))
    ]
  ]

  pub exchange_seen : (p : ProgramDef) (rows rows' : List (Option RowDef)) (basis : List ℕ) (stands : List Stand) (e k r : ℕ)
      → length rows ≡ height p + 1 → AreCells IsCell p rows → IsBegun p basis stands e k r
      → IsEntering p (table_seen p rows basis stands) e → IsLeavingOver IsCell p (table_seen p rows basis stands) e r
      → AreExchangedOver IsCell p rows rows' k r
      → IsExchangeOver IsCell p (table_seen p rows basis stands)
      (table_seen p rows' (set basis r e) (stands_after basis stands e k r)) e r
  exchange_seen p rows rows' basis stands e k r many are begun enters leaves h =
      let at = taken_at p rows rows' basis stands e k r in
      let cell : (i : ℕ) → table_cell p rows stands i e ≡ cell_seen p (row_at rows i) i k
      = λ i. cell_read p rows stands i e (Outside k) begun.enters begun.place in
      record {
        enters = enters;
        leaves = leaves;
        divided_form = λ v. (at v many are begun h).form;
        divided = λ v. rw (cell r) (at v many are begun h).divided;
        taken = λ i v l away. rw (cell i) ((at v many are begun h).taken i l away);
        entered = new_basis_own p basis stands e k r begun;
        stayed = λ i l away. new_basis_other basis r e i away;
      }

pub size_exchanged : (IsCell : Fraction → Type 0) (p : ProgramDef) (rows rows' : List (Option RowDef)) (basis : List ℕ)
    (stands : List Stand) (e k r : ℕ)
    → HasSize p rows basis stands → AreExchangedOver IsCell p rows rows' k r
    → HasSize p rows' (set basis r e) (stands_after basis stands e k r)
size_exchanged IsCell p rows rows' basis stands e k r size h = record {
  row_each = h.as_many ∙ size.row_each;
  basic_each = length-set basis r e ∙ size.basic_each;
  stand_each = length-set (set stands e (Basic r)) (slice_index basis r) (Outside k) ∙ (length-set stands e (Basic r) ∙ size.stand_each);
  places = λ i l. h.places i (omega (arith, size.row_each));
}

pub begun : (IsCell : Fraction → Type 0) (p : ProgramDef) (rows : List (Option RowDef)) (basis : List ℕ) (stands : List Stand) (e k r : ℕ)
    → HasSize p rows basis stands → AreStands p basis stands → IsEntering p (table_seen p rows basis stands) e
    → stand_at stands e ≡ Outside k → IsLeavingOver IsCell p (table_seen p rows basis stands) e r
    → IsBegun p basis stands e k r
begun IsCell p rows basis stands e k r size are enters place leaves = record {
  basic_each = size.basic_each;
  stand_each = size.stand_each;
  are = are;
  enters = enters.within;
  place = place;
  row = leaves.least.within;
}
