use Rattle.sporadic_model.proofs.Laws.{formed_of_accepted}
use Rattle.window_laws.proofs.Points.{windowed_point}
use Rattle.window_laws.proofs.fractions_meet_rows_of_windows.Goals as goal

pub returns : goal.returns
returns c =
    λ w bounds n j accepted lawful keeps listed ended. windowed_point w bounds n j
    (record { formed = formed_of_accepted w.set accepted; lawful = lawful; listed = listed; ended = ended }) keeps
