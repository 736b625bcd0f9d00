use Rattle.schedule_laws.proofs.TickAgreement.{shared_interference_agree}
use Rattle.spin_rules.proofs.SpinAgreement.{spin_rules_read, spin_choice_reads}
use Rattle.spin_rules.proofs.SpinStretches.{spin_stays_lawful}
use Rattle.spin_rules.proofs.spin_rules_read_the_rows_so_far.Goals as goal

pub returns-clause-rules : goal.returns-clause-rules
returns-clause-rules c = spin_rules_read

pub returns-clause-choice : goal.returns-clause-choice
returns-clause-choice c = spin_choice_reads

pub returns-clause-ticks : goal.returns-clause-ticks
returns-clause-ticks c = shared_interference_agree

pub returns-clause-stretches : goal.returns-clause-stretches
returns-clause-stretches c = spin_stays_lawful
