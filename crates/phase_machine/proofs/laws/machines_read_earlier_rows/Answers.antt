use Rattle.phase_machine.proofs.Facts.{reads_before}
use Rattle.phase_machine.proofs.laws.machines_read_earlier_rows.Goals as goal

pub returns : goal.returns
returns c = reads_before
