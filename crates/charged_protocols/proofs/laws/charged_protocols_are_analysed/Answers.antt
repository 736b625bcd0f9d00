use Rattle.sporadic_model.specs.Accepted.{IsAccepted}
use Rattle.sporadic_model.proofs.Laws.{numbers_of_accepted, formed_of_accepted}
use Rattle.soundness_laws.proofs.Instances.{analyses_of}
use Rattle.charged_protocols.proofs.laws.charged_protocols_are_analysed.Goals as goal

pub returns : goal.returns
returns g c = λ p set accepted suits.
    analyses_of (g.P.BlockingProtocol.keeps p) (g.P.BlockingProtocol.interferes p)
    (λ of. g.P.BlockingProtocol.suits p of × IsAccepted of)
    (g.P.ProgramSource.source p) (g.P.ChargedProtocol.charges p) (g.P.ChargedProtocol.columns_of p) set
    (record {
      most = λ of h suit formed l. g.met.P.ProgramSource.most p of h (g.met.P.ChargedProtocol.served p of suit.0) l
          (numbers_of_accepted of h suit.1 l);
      interfering = λ w n y suit rows job. g.met.P.ChargedProtocol.interferes_within p w n y suit.0 rows job;
      worth = λ of i bounds suit l. g.met.P.ChargedProtocol.worth p of i bounds suit.0 l;
      point = λ w bounds n j suit premises rows. g.met.P.ChargedProtocol.meets_rows p w bounds n j suit.0 suit.1 premises.lawful
          rows premises.listed premises.ended;
      charged = λ w n t j suit jobs rows l blocked. g.met.P.ChargedProtocol.charges_blocked p w n t j suit.0 jobs rows l blocked;
    })
    (formed_of_accepted set accepted) (suits, accepted)
