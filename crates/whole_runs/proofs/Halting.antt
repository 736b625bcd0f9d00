-- Where an exchange isn't made: some row is too large for it. In a run some row leaves.
use Rattle.std.proofs.Common.{◌≡◌, ◌≢◌, ℕ, ◌<◌, List, length, set, Err, subst, arith, length-set}
use Rattle.std.specs.declared.option.Option.{Option}
use Rattle.program_form.specs.Program.{ProgramDef, IsProgram, height}
use Rattle.exchange_runs.specs.Table.{Table, variables}
use Rattle.exchange_runs.specs.Exchange.{IsEntering, HasRatio, IsLeavingOver}
use Rattle.exchange_runs.proofs.Bounded.{has_ratio}
use Rattle.exchange_runs.specs.SmallRuns.{IsSmall, SmallReached}
use Rattle.exchange_runs.proofs.SmallRuns.{small_run, has_ratio_of_lowest}
use Rattle.whole_rows.specs.Rows.{RowDef, PivotDef, entry_at, AreSparse, AreBelow}
use Rattle.whole_rows.specs.declared.entries.Entry.{Entry}
use Rattle.whole_runs.specs.States.{row_at, stand_at}
use Rattle.whole_runs.specs.Large.{IsTooLargeFor, IsSomeTooLarge, AreTooLarge}
use Rattle.whole_runs.specs.Stepping.{table_of, Steps}
use Rattle.whole_runs.specs.Takings.{Divides, AreTakenTo}
use Rattle.whole_runs.specs.Ends.{GivesOrStops}
use Rattle.whole_runs.specs.declared.tableau.Tableau.{Tableau}
use Rattle.whole_runs.specs.declared.stands.Stand.TheVariants.{Outside}
use Rattle.whole_runs.specs.declared.stops.Halt.{Halt}
use Rattle.whole_runs.specs.declared.stops.Halt.TheVariants.{Memory, Large, Units}
use Rattle.whole_runs.proofs.Taking.{row_aside, next_as_was}

-- In a run some row has a ratio where a variable enters.
pub some_leaves : (p : ProgramDef) (n : ℕ) (w : Table) (e : ℕ) → IsProgram p → SmallReached p n w → e < variables p
    → ((i : ℕ) → i < height p → HasRatio w e i → ⊥) → ⊥
some_leaves p n w e accepted reached l none =
    let run = small_run p n w accepted reached in
    let some = has_ratio p n run.0 e accepted run.2 l in
    none some.0 some.1 (has_ratio_of_lowest p w run.0 e some.0 run.1 (omega (arith, some.1)) some.2)

-- The next row listed is as it was, so it was too large before the others were taken from.
pub large_listed : (n : ℕ) (p : ProgramDef) (before rows : List (Option RowDef)) (column : List Entry) (k r : ℕ) (pivot : PivotDef)
    → AreSparse column → AreBelow (length before) column → n < length column → (entry_at column n).place ≢ r
    → AreTakenTo n p before rows column k r pivot
    → IsTooLargeFor p (entry_at column n).place (row_at rows (entry_at column n).place) k pivot → IsSomeTooLarge p before k r pivot
large_listed n p before rows column k r pivot sparse below l away h large = (
  (entry_at column n).place,
  below n l,
  away,
  subst (λ (row : Option RowDef). IsTooLargeFor p (entry_at column n).place row k pivot)
      (next_as_was n p before rows column k r pivot sparse l h) large,
)

-- And before row r was divided.
pub large_divided : (p : ProgramDef) (rows : List (Option RowDef)) (k r : ℕ) (pivot : PivotDef) (new : Option RowDef)
    → Divides p r (row_at rows r) k new pivot → IsSomeTooLarge p (set rows r new) k r pivot → AreTooLarge p rows k r
large_divided p rows k r pivot new divides some = record {
  divided = divides.row;
  is_divided = divides.divided;
  pivot = pivot;
  is_pivot = divides.is_pivot;
  large = (
    some.0,
    omega (arith, some.1, length-set rows r new),
    some.2,
    subst (λ (row : Option RowDef). IsTooLargeFor p some.0 row k pivot) (row_aside rows r some.0 new some.2) some.3,
  );
}

-- So the exchange of the run is too large for whole numbers.
pub step_stop : {X : Type 0} (halt : Halt) (is : X → Type 0) (p : ProgramDef) (before after : Tableau) (e k r : ℕ)
    → IsEntering p (table_of p before) e → stand_at before.stands.items e ≡ Outside k
    → IsLeavingOver IsSmall p (table_of p before) e r → GivesOrStops (Err halt) is (AreTooLarge p before.rows.items k r)
    → Steps (Err halt) p e before after
step_stop Memory is p before after e k r enters place leaves h = tt
step_stop Large is p before after e k r enters place leaves h =
    record { entering = e; enters = enters; place = k; stands_so = place; leaving = r; leaves = leaves; large = h }
step_stop Units is p before after e k r enters place leaves h = absurd h
