use Rattle.charge_laws.proofs.Interference.{interferes_within_cost}
use Rattle.charge_laws.proofs.interference_laws.jobs_interfere_within_the_cost.Goals as goal

pub returns : goal.returns
returns g c = λ p w n y suits keeps lawful. interferes_within_cost (g.P.BlockingProtocol.interferes p) w n y
    (λ t k j l e. (g.P.BlockingProtocol.sound_row p w t suits (keeps t l)).active k j e) lawful
