use Rattle.program_laws.proofs.GivenPrograms.{limits_stay}
use Rattle.program_laws.proofs.limits_stay_with_rows.Goals as goal

pub returns : goal.returns
returns c = limits_stay
