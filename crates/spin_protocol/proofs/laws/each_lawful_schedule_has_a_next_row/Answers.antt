use Rattle.spin_protocol.proofs.SpinNextRow.{next_lawful_row}
use Rattle.spin_protocol.proofs.laws.each_lawful_schedule_has_a_next_row.Goals as goal

pub returns : goal.returns
returns c = next_lawful_row
