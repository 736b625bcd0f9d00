use Rattle.program_form.proofs.Points.{sum_covers}
use Rattle.program_form.proofs.laws.a_program_has_a_dual.Goals as goal

pub returns : goal.returns
returns c = sum_covers
