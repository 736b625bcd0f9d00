use Rattle.program_sources.specs.Recurrence.{source_at}
use Rattle.refusal_laws.proofs.NothingFits.{vectors_below}
use Rattle.least_laws.proofs.fitting_vectors_are_above_each_step.Goals as goal

pub returns : goal.returns
returns g c = λ p set steps s k served are fits here.
    vectors_below (source_at (g.P.ProgramSource.source p) set) steps s (c.recurrence_is_monotone.ensures.reached p set served) fits are k here
