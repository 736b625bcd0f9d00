use Rattle.program_form.proofs.Points.{greater_limits_reach}
use Rattle.program_sources.specs.Recurrence.{SourceDef, source_at}
use Rattle.least_laws.proofs.what_is_reached_stays_reached.Goals as goal

pub returns : goal.returns
returns g c = λ p set v w i blocking served here most reached.
    let f : SourceDef = source_at (g.P.ProgramSource.source p) set in
    greater_limits_reach (f.program i v) (f.program i w) blocking (g.met.P.ProgramSource.rises p set i v w served here most) reached
