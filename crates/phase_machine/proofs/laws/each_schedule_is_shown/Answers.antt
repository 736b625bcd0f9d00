use Rattle.sporadic_model.proofs.Laws.{numbers_of_accepted}
use Rattle.phase_machine.proofs.Existence.{shown}
use Rattle.phase_machine.proofs.laws.each_schedule_is_shown.Goals as goal

pub returns : goal.returns
returns c = λ w n accepted lawful taken. shown w n lawful (λ x l. numbers_of_accepted w.set x accepted l) taken
