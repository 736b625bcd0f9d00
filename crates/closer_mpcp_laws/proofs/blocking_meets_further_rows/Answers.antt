use Rattle.sporadic_model.proofs.Laws.{formed_of_accepted}
use Rattle.closer_mpcp_laws.proofs.RowsMet.{further_met}
use Rattle.closer_mpcp_laws.proofs.blocking_meets_further_rows.Goals as goal

pub returns : goal.returns
returns c = λ w bounds n j held accepted lawful keeps listed ended most. further_met w bounds n j held
    (record { formed = formed_of_accepted w.set accepted; lawful = lawful; listed = listed; ended = ended }) keeps most
