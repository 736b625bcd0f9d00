use Rattle.schedule_laws.proofs.Spacing.{arrived_within}
use Rattle.schedule_laws.proofs.measure_laws.arrivals_are_spaced.Goals as goal

pub returns : goal.returns
returns c = arrived_within
