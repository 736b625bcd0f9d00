use Rattle.schedule_model.specs.Fitting.{IsMadeFor}
use Rattle.schedule_cases.proofs.list_tests.first_other_run.Given as goal

abbrev pub invariant-loop-n : goal.invariant-loop-n
invariant-loop-n l = IsMadeFor l.rows l.jobs
