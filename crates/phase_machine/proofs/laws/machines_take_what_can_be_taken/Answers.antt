use Rattle.phase_machine.proofs.Facts.{can_take, took_can}
use Rattle.phase_machine.proofs.laws.machines_take_what_can_be_taken.Goals as goal

pub returns : goal.returns
returns c = λ m rows shows. (took_can m rows shows, can_take m rows shows)
