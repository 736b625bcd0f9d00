use Rattle.schedule_laws.proofs.TakenRows.{sound_taken}
use Rattle.schedule_laws.proofs.protocol_laws.lawful_rows_can_be_taken.Goals as goal

pub returns : goal.returns
returns g c = λ p w t suits sized keeps.
    sound_taken (g.P.BlockingProtocol.interferes p) w t sized (g.P.BlockingProtocol.sound_row p w t suits keeps)
