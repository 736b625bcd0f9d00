-- What is true of a blocked tick: it is charged to one request, which executes at that tick, in a column of the job's program.
use Rattle.std.specs.Prelude.{◌≡◌, ℕ, List, Option, Some}
use Rattle.std.specs.List.{Contains}
use Rattle.schedule_model.specs.RowDef.{Trace}
use Rattle.blocking_columns.specs.ColumnDef.{ColumnDef}
use Rattle.charge_laws.specs.Charges.{Charge, Executes}
use Rattle.charge_laws.specs.Fractions.{charged_column}

-- Is tick t charged, for job j, to a request that executes then, in one of these columns? The first argument says how ticks are charged. It
-- is a function, so a tick is charged to one request at most.
pub record IsCharged (charges : Trace → ℕ → ℕ → Option Charge) (columns : List ColumnDef) (w : Trace) (t j : ℕ) : Type 0 where
  pub charge : Charge
  pub is_it : charges w t j ≡ Some charge
  pub executes : Executes w t charge
  pub column : ColumnDef
  pub lies_in : charged_column charges w t j ≡ Some column
  pub there : Contains columns column
