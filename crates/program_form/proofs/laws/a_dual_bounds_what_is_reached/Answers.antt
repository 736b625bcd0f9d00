use Rattle.program_form.proofs.Duality.{dual_bounds}
use Rattle.program_form.proofs.laws.a_dual_bounds_what_is_reached.Goals as goal

pub returns : goal.returns
returns c = dual_bounds
