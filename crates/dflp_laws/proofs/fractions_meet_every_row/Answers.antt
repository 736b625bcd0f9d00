use Rattle.sporadic_model.proofs.Laws.{formed_of_accepted}
use Rattle.dflp_laws.proofs.Points.{dflp_point_within}
use Rattle.dflp_laws.proofs.fractions_meet_every_row.Goals as goal

pub returns : goal.returns
returns c =
    λ w bounds n j accepted lawful keeps listed ended. dflp_point_within w bounds n j
    (record { formed = formed_of_accepted w.set accepted; lawful = lawful; listed = listed; ended = ended }) keeps
