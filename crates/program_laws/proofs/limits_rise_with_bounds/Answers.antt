use Rattle.program_laws.proofs.WrittenPrograms.{programs_rise}
use Rattle.program_laws.proofs.limits_rise_with_bounds.Goals as goal

pub returns : goal.returns
returns c = programs_rise
