use Rattle.program_sources.specs.Recurrence.{source_at}
use Rattle.least_laws.proofs.LeastLaws.{reached_below}
use Rattle.least_laws.proofs.reached_responses_are_below_all_fitting.Goals as goal

pub returns : goal.returns
returns g c = λ p set v s i blocking served below fits here reached.
    reached_below (source_at (g.P.ProgramSource.source p) set) v s i blocking (c.recurrence_is_monotone.ensures.reached p set served)
    below fits here reached
