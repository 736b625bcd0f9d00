use Rattle.std.proofs.Common.{sym, subst}
use Rattle.sporadic_model.proofs.Laws.{formed_of_accepted}
use Rattle.soundness_laws.proofs.Soundness.{sound_of}
use Rattle.soundness_laws.proofs.analysed_protocols_are_sound.Goals as goal

pub returns : goal.returns
returns g c = λ p f cert values accepted suits analyses valid are.
    sound_of (g.P.BlockingProtocol.keeps p) (g.P.BlockingProtocol.interferes p) f cert values
    (λ w t j same. g.P.BlockingProtocol.one_of_three p w t j (subst (g.P.BlockingProtocol.suits p) (sym same) suits))
    (λ w t same kept. g.P.BlockingProtocol.sound_row p w t (subst (g.P.BlockingProtocol.suits p) (sym same) suits) kept)
    (formed_of_accepted f.set accepted) analyses valid are
