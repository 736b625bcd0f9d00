use Rattle.sporadic_model.proofs.Laws.{formed_of_accepted}
use Rattle.row_laws.proofs.ByProtocol.{named_point_within}
use Rattle.row_laws.proofs.point_laws.fractions_meet_every_row.Goals as goal

pub returns : goal.returns
returns c = λ p w bounds n j accepted lawful keeps listed ended. named_point_within p w bounds n j
    (record { formed = formed_of_accepted w.set accepted; lawful = lawful; listed = listed; ended = ended }) keeps
