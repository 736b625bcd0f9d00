use Rattle.dual_check.proofs.Verdicts.{sound_where_valid}
use Rattle.dual_check.proofs.laws.what_passes_is_sound.Goals as goal

pub returns : goal.returns
returns g c = λ b f cert r accepted suits analyses judges.
    sound_where_valid (g.B.BlockingProtocol.keeps b) (g.B.BlockingProtocol.interferes b) f cert r
    (λ values valid are. c.analysed_protocols_are_sound.ensures b f cert values accepted suits analyses valid are) judges
