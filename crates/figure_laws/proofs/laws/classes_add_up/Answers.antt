use Rattle.figure_laws.proofs.AddUp.{sums_add_up}
use Rattle.figure_laws.proofs.laws.classes_add_up.Goals as goal

pub returns : goal.returns
returns c = sums_add_up
