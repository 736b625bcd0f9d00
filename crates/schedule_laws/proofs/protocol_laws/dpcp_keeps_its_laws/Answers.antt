use Rattle.schedule_laws.proofs.DpcpLaws.{dpcp_one_of_three, dpcp_sound_row, dpcp_chosen_keeps}
use Rattle.schedule_laws.proofs.protocol_laws.dpcp_keeps_its_laws.Goals as goal

pub returns : goal.returns
returns c = record {
  one_of_three = dpcp_one_of_three;
  sound_row = dpcp_sound_row;
  chosen_keeps = dpcp_chosen_keeps;
}
