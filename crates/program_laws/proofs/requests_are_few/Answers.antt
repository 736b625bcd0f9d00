use Rattle.program_laws.proofs.UsedResources.{requests_at_most}
use Rattle.program_laws.proofs.requests_are_few.Goals as goal

pub returns : goal.returns
returns c = requests_at_most
