use Rattle.std.proofs.Common.{◌+◌, ◌≤◌, arith}
use Rattle.sporadic_model.specs.SetDef.{task_at}
use Rattle.sporadic_model.specs.Accepted.{TaskNumbers}
use Rattle.sporadic_model.proofs.Laws.{numbers_of_accepted, formed_of_accepted}
use Rattle.charge_laws.proofs.Windows.{bounds_below_periods}
use Rattle.charge_laws.proofs.Interference.{interferer_some}
use Rattle.charge_laws.proofs.Counting.{interference_counted}
use Rattle.charge_laws.proofs.interference_laws.interference_is_counted.Goals as goal

pub returns : goal.returns
returns g c = λ p w bound cost n j h suits keeps accepted lawful bounds task less costs l ended.
    let numbers : TaskNumbers w.set h = numbers_of_accepted w.set h accepted task in
    let short : bound h + (task_at w.set h).jitter ≤ (task_at w.set h).period =
    bounds_below_periods w.set bound h (formed_of_accepted w.set accepted) bounds task in
    interference_counted (g.P.BlockingProtocol.interferes p) w bound cost n j h
    (record {
      three = λ t b. g.P.BlockingProtocol.one_of_three p w t j suits;
      sound = λ t b. g.P.BlockingProtocol.sound_row p w t suits (keeps t b);
      cost = λ m y b k. omega (arith, interferer_some (g.P.BlockingProtocol.interferes p) w m j y l, costs m y b k);
    })
    lawful ended (omega (arith, numbers.cost_from, numbers.cost_to, numbers.deadline_to)) (omega arith) less
