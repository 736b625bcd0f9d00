use Rattle.program_sources.proofs.RecurrenceLaws.{comes_up_above, never_falls}
use Rattle.program_sources.proofs.laws.recurrence_is_monotone.Goals as goal

pub returns-clause-value : goal.returns-clause-value
returns-clause-value g c = λ p set served. never_falls _ (λ i r s here h. g.met.P.ProgramSource.rises p set i r s served here h)

pub returns-clause-reached : goal.returns-clause-reached
returns-clause-reached g c = λ p set served. comes_up_above _ (λ i r s here h. g.met.P.ProgramSource.rises p set i r s served here h)
