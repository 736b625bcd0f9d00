use Rattle.schedule_laws.proofs.SharedLaws.{shared_one_of_three, shared_sound_row, shared_chosen_keeps}
use Rattle.schedule_laws.proofs.protocol_laws.shared_memory_keeps_its_laws.Goals as goal

pub returns : goal.returns
returns c = λ o. record {
  one_of_three = shared_one_of_three;
  sound_row = shared_sound_row o;
  chosen_keeps = shared_chosen_keeps o;
}
