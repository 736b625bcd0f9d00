use Rattle.spin_charging.proofs.OneSpin.{spin_fifo_holder}
use Rattle.spin_charging.proofs.holders_were_issued_first.Goals as goal

pub returns : goal.returns
returns c = spin_fifo_holder
