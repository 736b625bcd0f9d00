use Rattle.schedule_laws.proofs.Spacing.{releases_rise}
use Rattle.schedule_laws.proofs.measure_laws.releases_rise.Goals as goal

pub returns : goal.returns
returns c = releases_rise
