use Rattle.program_sources.specs.Recurrence.{source_at}
use Rattle.least_laws.proofs.LeastLaws.{steps_least}
use Rattle.least_laws.proofs.steps_and_a_certificate_show_the_least.Goals as goal

pub returns : goal.returns
returns g c = λ p set steps cert served are valid most.
    steps_least (source_at (g.P.ProgramSource.source p) set) steps cert (c.recurrence_is_monotone.ensures.reached p set served) are valid most
