-- A table of the run: its sizes, that some row leaves where a variable enters, and the sign of its value.
use Rattle.std.proofs.Common.{◌≡◌, ℕ, ◌<◌, List, ℤ, pos, neg_ℤ, ◌≤ℤ◌, sym, ap, ◌∙◌, subst, arith}
use Rattle.std.specs.declared.option.Option.{Option}
use Rattle.std.proofs.lemmas.Int.{ints}
use Rattle.fraction128.specs.Fraction.{Fraction}
use Rattle.program_form.specs.Program.{ProgramDef, IsProgram, columns, height}
use Rattle.exchange_runs.specs.Table.{Table, variables}
use Rattle.exchange_runs.specs.Exchange.{IsLast, HasRatio}
use Rattle.exchange_runs.specs.Readings.{value_of}
use Rattle.exchange_runs.specs.Unbounded.{IsFraction, FreelyReached}
use Rattle.exchange_runs.proofs.Bounded.{shadow_has_ratio}
use Rattle.exchange_runs.proofs.FreeEnds.{free_end_is_best}
use Rattle.exchange_runs.proofs.FreeRuns.{are_fractions}
use Rattle.exchange_runs.proofs.Shadows.{IsShadow, shadow_over}
use Rattle.whole_rows.specs.Rows.{RowDef}
use Rattle.whole_runs.specs.States.{limit_seen, HasPlaces}
use Rattle.whole_runs.specs.declared.stands.Stand.{Stand}
use Rattle.whole_runs.proofs.Seen.{cell_of_limit}
use Rattle.free_search.specs.Tables.{rows_seen, HasSizes, AreStandsOf, table_with}
use Rattle.free_search.specs.declared.tableau.Tableau.{Tableau}
use Rattle.free_search.proofs.Choosing.{rows_are, objective_at, objective_places}
use Rattle.free_search.proofs.SeenRows.{row_seen}

module _ (p : ProgramDef) (t : Tableau) (stands : List Stand) (are : AreStandsOf p t stands) where
  pub sizes_of : HasSizes (columns p) t
  sizes_of = record {
    rows = λ i l.
        subst (HasPlaces p i) (row_seen t.rows.items t.objective i l) (are.size.places i (omega (arith, l, rows_are p t stands are)));
    objective = objective_places p t stands are;
    basic_each = are.size.basic_each ∙ sym (rows_are p t stands are);
    outside_each = are.placed.place_each;
  }

  -- the value is minus the limit of the objective row, and not below zero
  pub limit_below : (n : ℕ) → FreelyReached p n (table_with p t stands) → IsLast p (table_with p t stands)
      → t.objective.limit ≤ℤ pos 0
  limit_below n reached last =
      let cell : (value_of p (table_with p t stands)).num ≡ neg_ℤ t.objective.limit
      = ap (λ (f : Fraction). neg_ℤ f.num) (cell_of_limit p (rows_seen t.rows.items t.objective) stands (height p)
      ∙ ap (λ (row : Option RowDef). limit_seen p row (height p)) (objective_at p t stands are)) in
      below t.objective.limit _ cell (free_end_is_best p n (table_with p t stands) reached last).not_below
    where
      below : (x y : ℤ) → y ≡ neg_ℤ x → pos 0 ≤ℤ y → x ≤ℤ pos 0
      below x y is h = omega (arith, ints)

-- Some row leaves.
pub some_leaves : (p : ProgramDef) (n : ℕ) (w : Table) (e : ℕ) → IsProgram p → FreelyReached p n w → e < variables p
    → ((i : ℕ) → i < height p → HasRatio w e i → ⊥) → ⊥
some_leaves p n w e accepted reached l none =
    let behind : (d : ℤ) × (z : ℕ → ℕ → ℤ) × IsShadow p w d z = shadow_over IsFraction p n w are_fractions reached in
    let some : (i : ℕ) × (i < height p) × HasRatio w e i = shadow_has_ratio p w e behind.0 behind.1 accepted.covered behind.2 l in
    none some.0 some.1 some.2
