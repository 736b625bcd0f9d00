use Rattle.clock_laws.proofs.Deadlines.{sound_by_deadline}
use Rattle.clock_laws.proofs.rounded_jobs_meet_their_deadlines.Goals as goal

pub returns : goal.returns
returns g c = λ p. sound_by_deadline (g.P.BlockingProtocol.keeps p) (g.P.BlockingProtocol.interferes p)
