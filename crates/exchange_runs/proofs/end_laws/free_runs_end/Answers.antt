use Rattle.exchange_runs.proofs.FreeRuns.{few_exchanges}
use Rattle.exchange_runs.proofs.FreeEnds.{last_or_next, free_run_ends, free_end_is_best}
use Rattle.exchange_runs.proofs.OneEnd.{no_later_end}
use Rattle.exchange_runs.proofs.end_laws.free_runs_end.Goals as goal

pub returns-clause-next : goal.returns-clause-next
returns-clause-next c = last_or_next

pub returns-clause-few : goal.returns-clause-few
returns-clause-few c = few_exchanges

pub returns-clause-end : goal.returns-clause-end
returns-clause-end c = free_run_ends

pub returns-clause-no_later : goal.returns-clause-no_later
returns-clause-no_later c = no_later_end

pub returns-clause-best : goal.returns-clause-best
returns-clause-best c = free_end_is_best
