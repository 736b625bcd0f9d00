use Rattle.exchange_runs.proofs.FreeRuns.{freely, few_exchanges}
use Rattle.exchange_runs.proofs.end_laws.every_run_is_free.Goals as goal

pub returns-clause-free : goal.returns-clause-free
returns-clause-free c = freely

pub returns-clause-few : goal.returns-clause-few
returns-clause-few c = λ p k t reached. few_exchanges p k t (freely p k t reached)
