use Rattle.sporadic_model.proofs.Laws.{formed_of_accepted}
use Rattle.charge_laws.proofs.Windows.{active_from_release, bounds_below_periods}
use Rattle.charge_laws.proofs.interference_laws.jobs_are_active_until_they_end.Goals as goal

pub returns : goal.returns
returns c = λ w bound t j accepted lawful bounds l ended released unfinished.
    active_from_release w bound t j lawful (λ x b. bounds_below_periods w.set bound x (formed_of_accepted w.set accepted) bounds b) l ended
    released unfinished
