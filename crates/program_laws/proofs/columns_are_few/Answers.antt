use Rattle.program_laws.proofs.UsedResources.{columns_at_most}
use Rattle.program_laws.proofs.columns_are_few.Goals as goal

pub returns : goal.returns
returns c = columns_at_most
