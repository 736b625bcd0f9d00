use Rattle.program_form.proofs.Duality.{optimum_reached}
use Rattle.program_form.proofs.laws.whole_part_is_greatest.Goals as goal

pub returns : goal.returns
returns c = optimum_reached
