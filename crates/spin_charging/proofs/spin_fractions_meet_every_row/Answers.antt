use Rattle.sporadic_model.proofs.Laws.{formed_of_accepted}
use Rattle.spin_charging.proofs.SpinPoints.{spin_point}
use Rattle.spin_charging.proofs.spin_fractions_meet_every_row.Goals as goal

pub returns : goal.returns
returns c = λ w bounds n j accepted lawful keeps listed ended.
    spin_point w bounds n j (formed_of_accepted w.set accepted) lawful keeps listed ended
