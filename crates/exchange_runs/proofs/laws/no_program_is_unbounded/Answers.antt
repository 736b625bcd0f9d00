use Rattle.exchange_runs.proofs.Bounded.{has_ratio}
use Rattle.exchange_runs.proofs.laws.no_program_is_unbounded.Goals as goal

pub returns : goal.returns
returns c = has_ratio
