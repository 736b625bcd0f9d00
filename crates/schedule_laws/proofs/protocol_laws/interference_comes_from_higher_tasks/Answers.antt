use Rattle.schedule_laws.proofs.Interferers.{interferer_is, sound_interferer}
use Rattle.schedule_laws.proofs.protocol_laws.interference_comes_from_higher_tasks.Goals as goal

pub returns : goal.returns
returns g c = λ p w t j suits keeps. (
  sound_interferer (g.P.BlockingProtocol.interferes p) w t j (g.P.BlockingProtocol.sound_row p w t suits keeps),
  λ a. (interferer_is (g.P.BlockingProtocol.interferes p) w t j a.0 a.1).tick,
)
