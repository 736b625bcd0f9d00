use Rattle.sporadic_model.proofs.Laws.{formed_of_accepted}
use Rattle.mpcp_window_laws.proofs.DirectWaitRow.{direct_waits_met}
use Rattle.mpcp_window_laws.proofs.direct_blocking_meets_rows_of_waits.Goals as goal

pub returns : goal.returns
returns c = λ w bounds n j x q accepted lawful keeps listed ended known. direct_waits_met w bounds n j x q
    (record { formed = formed_of_accepted w.set accepted; lawful = lawful; listed = listed; ended = ended }) keeps known
