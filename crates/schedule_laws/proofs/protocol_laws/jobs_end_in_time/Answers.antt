use Rattle.schedule_laws.proofs.Responses.{finished_in_time}
use Rattle.schedule_laws.proofs.protocol_laws.jobs_end_in_time.Goals as goal

pub returns : goal.returns
returns g c = λ p w r b j suits keeps released earlier most. finished_in_time (g.P.BlockingProtocol.interferes p) w r b
    j (λ t l. g.P.BlockingProtocol.one_of_three p w t j suits) released earlier most
