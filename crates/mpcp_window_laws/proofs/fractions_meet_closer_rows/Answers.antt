use Rattle.sporadic_model.proofs.Laws.{formed_of_accepted}
use Rattle.mpcp_window_laws.proofs.Points.{mpcp_closer_point}
use Rattle.mpcp_window_laws.proofs.fractions_meet_closer_rows.Goals as goal

pub returns : goal.returns
returns c =
    λ w bounds n j accepted lawful keeps listed ended. mpcp_closer_point w bounds n j
    (record { formed = formed_of_accepted w.set accepted; lawful = lawful; listed = listed; ended = ended }) keeps
