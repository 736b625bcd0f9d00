use Rattle.refusal_confirm.proofs.FaultLaws.{no_fault, one_fault}
use Rattle.refusal_confirm.proofs.laws.faults_are_exact.Goals as goal

pub returns-clause-excluded : goal.returns-clause-excluded
returns-clause-excluded c = no_fault

pub returns-clause-one : goal.returns-clause-one
returns-clause-one c = one_fault
