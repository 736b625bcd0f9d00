use Rattle.schedule_laws.proofs.protocol_laws.running_jobs_are_active.Goals as goal

pub returns : goal.returns
returns g c = λ p w n suits keeps t k j l e. (g.P.BlockingProtocol.sound_row p w t suits (keeps t l)).active k j e
