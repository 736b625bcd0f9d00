use Rattle.std.proofs.Common.{refl}
use Rattle.program_form.specs.SevenRows.{seven_rows}
use Rattle.exchange_runs.specs.Table.{Table}
use Rattle.exchange_runs.specs.Exchange.{IsLast}
use Rattle.exchange_runs.proofs.SevenRowsRun.{ends_so}
use Rattle.exchange_runs.specs.Unbounded.{FreelyReached}
use Rattle.exchange_runs.proofs.FreeRuns.{freely}
use Rattle.exchange_runs.proofs.OneEnd.{no_later_end}
use Rattle.exchange_runs.proofs.end_laws.seven_rows_end_in_time.Goals as goal

ends_freely : (t : Table) × (FreelyReached seven_rows 4 t) × IsLast seven_rows t
ends_freely = (ends_so.table, freely seven_rows 4 ends_so.table ends_so.run.reached, ends_so.run.last)

pub returns-clause-end : goal.returns-clause-end
returns-clause-end c = ends_freely

pub returns-clause-no_fifth : goal.returns-clause-no_fifth
returns-clause-no_fifth c = λ k t reached. no_later_end seven_rows 4 k ends_freely.0 t ends_freely.1 ends_freely.2 reached

pub returns-clause-bound : goal.returns-clause-bound
returns-clause-bound c = refl
