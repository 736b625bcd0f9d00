use Rattle.program_laws.proofs.GivenPrograms.{limits_at_most}
use Rattle.program_laws.proofs.limits_rise_with_rows.Goals as goal

pub returns : goal.returns
returns c = limits_at_most
