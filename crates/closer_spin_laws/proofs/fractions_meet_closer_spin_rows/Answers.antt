use Rattle.sporadic_model.proofs.Laws.{formed_of_accepted}
use Rattle.closer_spin_laws.proofs.Points.{spin_closer_point}
use Rattle.closer_spin_laws.proofs.fractions_meet_closer_spin_rows.Goals as goal

pub returns : goal.returns
returns c =
    λ w bounds n j accepted lawful keeps listed ended.
    spin_closer_point w bounds n j (formed_of_accepted w.set accepted) lawful keeps listed ended
