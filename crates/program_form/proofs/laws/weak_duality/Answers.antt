use Rattle.program_form.proofs.Duality.{weak_duality}
use Rattle.program_form.proofs.laws.weak_duality.Goals as goal

pub returns : goal.returns
returns c = weak_duality
