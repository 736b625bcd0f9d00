use Rattle.figure_laws.proofs.AllInside.{all_inside}
use Rattle.figure_laws.proofs.laws.blocked_ticks_lie_inside.Goals as goal

pub returns : goal.returns
returns c = all_inside
