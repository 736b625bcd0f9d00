use Rattle.schedule_answers.proofs.FailureLaws.{no_failure, one_failure}
use Rattle.dual_check.proofs.laws.failures_are_exact.Goals as goal

pub returns-clause-invalid : goal.returns-clause-invalid
returns-clause-invalid c = no_failure

pub returns-clause-one : goal.returns-clause-one
returns-clause-one c = one_failure
