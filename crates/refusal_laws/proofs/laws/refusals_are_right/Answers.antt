use Rattle.program_sources.specs.Recurrence.{source_at}
use Rattle.refusal_laws.proofs.NothingFits.{nothing_fits}
use Rattle.refusal_laws.proofs.laws.refusals_are_right.Goals as goal

pub returns : goal.returns
returns g c = λ p set steps s served holds fits.
    nothing_fits (source_at (g.P.ProgramSource.source p) set) steps s (c.recurrence_is_monotone.ensures.reached p set served) holds fits
