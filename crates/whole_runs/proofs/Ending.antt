-- What is read off the last table.
use Rattle.std.proofs.Common.{◌≡◌, inl, inr, ℕ, ◌+◌, ◌<◌, List, [], ◌∷◌, ◌++◌, length, slice_index, slice_index_or, Some, pos, neg_ℤ}
use Rattle.std.proofs.Common.{refl, sym, ◌∙◌, ap, subst, arith}
use Rattle.std.specs.declared.option.Option.{Option}
use Rattle.std.proofs.lemmas.Bool.{cases_eq}
use Rattle.std.proofs.lemmas.List.{get_or_at, get_or_append_left, get_or_default}
use Rattle.number_laws.proofs.Ring.{mul-neg_left}
use Rattle.fraction128.specs.Fraction.{Fraction, whole}
use Rattle.fraction128.specs.Scaling.{fraction_at}
use Rattle.fraction128.proofs.Forms.{form_of_negated}
use Rattle.fraction128.proofs.Unique.{one_over, apart_of_positive}
use Rattle.program_form.specs.Program.{ProgramDef, height}
use Rattle.exchange_runs.specs.Table.{Table, variables, slack}
use Rattle.exchange_runs.specs.Readings.{minus, value_of, IsValueOf, IsPrimal, AreDuals}
use Rattle.exchange_runs.specs.SmallRuns.{IsLowestOf, IsLowestTable}
use Rattle.whole_rows.specs.Rows.{RowDef, limit_of}
use Rattle.whole_runs.specs.States.{row_at, stand_at, limit_seen, stand_cell, table_seen, AreStands}
use Rattle.whole_runs.specs.Ends.{objective_cell, IsStandOf, AreLowestDuals, IsLowestValue, AreLowestValues}
use Rattle.whole_runs.specs.declared.stands.Stand.{Stand}
use Rattle.whole_runs.specs.declared.stands.Stand.TheVariants.{Outside, Basic}
use Rattle.whole_runs.proofs.Seen.{cell_of_limit, cell_of_variable}

-- each variable is at a place, or in a row of the program
pub stand_of : (p : ProgramDef) (basis : List ℕ) (stands : List Stand) → AreStands p basis stands
    → (v : ℕ) → v < variables p → IsStandOf p (stand_at stands v)
stand_of p basis stands h v l = by_case (stand_at stands v) refl
  where
    by_case : (s : Stand) → stand_at stands v ≡ s → IsStandOf p s
    by_case (Outside k) is = h.place v k l is
    by_case (Basic j) is = (h.of_row v j l is).0

-- a value has one form in lowest terms
pub one_lowest : (a f g : Fraction) → IsLowestOf a f → IsLowestOf a g → f ≡ g
one_lowest a f g h k = one_over a.num a.den f g (apart_of_positive a.den h.positive) h.form k.form h.same.same k.same.same

-- and so has the one of the other sign
pub minus_lowest : (a f : Fraction) → IsLowestOf a f → IsLowestOf (minus a) (minus f)
minus_lowest a f h = record {
  positive = h.positive;
  form = form_of_negated f.num f.den h.form;
  same = record { same = mul-neg_left f.num a.den ∙ (ap neg_ℤ h.same.same ∙ sym (mul-neg_left a.num f.den)) };
}

-- one dual more
pub duals_more : (p : ProgramDef) (objective : RowDef) (stands : List Stand) (n i : ℕ) (duals : List Fraction) (f : Fraction) (x : Stand)
    → length duals ≡ n → i ≡ slack p n → i < length stands
    → ((r : ℕ) → r < n → IsLowestOf (minus (objective_cell p objective (stand_at stands (slack p r)))) (fraction_at duals r))
    → IsLowestOf (minus (objective_cell p objective (slice_index_or stands i x))) f
    → (r : ℕ) → r < n + 1
    → IsLowestOf (minus (objective_cell p objective (stand_at stands (slack p r)))) (fraction_at (duals ++ f ∷ []) r)
duals_more p objective stands n i duals f x len at within h here r l = elim (cases_eq r n) [
  | inl last ↦
      rw (last, get_or_at duals f [] (whole (pos 0)) n len, ← at, get_or_default stands i (Basic 0) x within) here
  | inr other ↦
      let earlier : r < n = omega arith in
      rw (get_or_append_left duals (f ∷ []) (whole (pos 0)) r (omega arith)) (h r earlier)
]

-- the duals in lowest terms are those of the table in lowest terms
pub are_duals : (p : ProgramDef) (objective : RowDef) (stands : List Stand) (t : Table) (duals : List Fraction)
    → AreLowestDuals p objective stands duals
    → ((v : ℕ) → v < variables p → IsLowestOf (objective_cell p objective (stand_at stands v)) (t.cell (height p) v))
    → AreDuals p t duals
are_duals p objective stands t duals h low = record {
  dual_each = h.dual_each;
  duals_are = λ r l.
      let cell : Fraction = objective_cell p objective (stand_at stands (slack p r)) in
      one_lowest (minus cell) (fraction_at duals r) (minus (t.cell (height p) (slack p r)))
      (h.each r l) (minus_lowest cell (t.cell (height p) (slack p r)) (low (slack p r) (omega arith)));
}

-- and so is each value
value_is : (p : ProgramDef) (rows : List (Option RowDef)) (basis : List ℕ) (stands : List Stand) (t : Table) (c : ℕ)
    (f : Fraction) (s : Stand) → c < variables p → AreStands p basis stands → IsLowestTable p (table_seen p rows basis stands) t
    → stand_at stands c ≡ s → IsLowestValue p rows s f → IsValueOf (variables p) t (height p) c f
value_is p rows basis stands t c f (Outside k) l are low is h = inr (
  λ i li q.
      let here : slice_index basis i ≡ c = sym (low.basis i li) ∙ q in
      let basic : stand_at stands c ≡ Basic i = ap (stand_at stands) (sym here) ∙ are.basic i li in
      apart k i (sym is ∙ basic),
  h,
)
  where
    apart : (k i : ℕ) → Outside k ≡ Basic i → ⊥
    apart k i q = cc
value_is p rows basis stands t c f (Basic j) l are low is h =
    let row = are.of_row c j l is in
    let cell : IsLowestOf (limit_seen p (row_at rows j) j) (t.cell j (variables p)) =
    subst (λ (a : Fraction). IsLowestOf a (t.cell j (variables p))) (cell_of_limit p rows stands j)
    (low.cells j (variables p) (omega (arith, row.0))) in
    inl (j, row.0, low.basis j row.0 ∙ row.1, one_lowest (limit_seen p (row_at rows j) j) f (t.cell j (variables p)) h cell)

pub is_primal : (p : ProgramDef) (rows : List (Option RowDef)) (basis : List ℕ) (stands : List Stand) (t : Table) (values : List Fraction)
    → AreLowestValues p rows stands values → AreStands p basis stands → IsLowestTable p (table_seen p rows basis stands) t
    → IsPrimal p t values
is_primal p rows basis stands t values h are low = record {
  value_each = h.value_each;
  values = λ c l. value_is p rows basis stands t c (fraction_at values c) (stand_at stands c) (omega arith) are low refl (h.each c l);
}

-- the cells of the objective row
pub objective_lowest : (p : ProgramDef) (rows : List (Option RowDef)) (basis : List ℕ) (stands : List Stand) (objective : RowDef)
    (t : Table) → row_at rows (height p) ≡ Some objective → IsLowestTable p (table_seen p rows basis stands) t
    → (v : ℕ) → v < variables p → IsLowestOf (objective_cell p objective (stand_at stands v)) (t.cell (height p) v)
objective_lowest p rows basis stands objective t is low v l =
    subst (λ (a : Fraction). IsLowestOf a (t.cell (height p) v))
    (cell_of_variable p rows stands (height p) v l ∙ ap (λ (row : Option RowDef). stand_cell p row (height p) (stand_at stands v)) is)
    (low.cells (height p) v (omega arith))

pub value_lowest : (p : ProgramDef) (rows : List (Option RowDef)) (basis : List ℕ) (stands : List Stand) (objective : RowDef) (t : Table)
    (f : Fraction) → row_at rows (height p) ≡ Some objective → IsLowestTable p (table_seen p rows basis stands) t
    → IsLowestOf (limit_of objective) f → minus f ≡ value_of p t
value_lowest p rows basis stands objective t f is low h =
    ap minus (one_lowest (limit_of objective) f (t.cell (height p) (variables p)) h
    (subst (λ (a : Fraction). IsLowestOf a (t.cell (height p) (variables p)))
    (cell_of_limit p rows stands (height p) ∙ ap (λ (row : Option RowDef). limit_seen p row (height p)) is)
    (low.cells (height p) (variables p) (omega arith))))
