use Rattle.std.proofs.Common.{◌*◌, ◌≤◌, arith}
use Rattle.std.proofs.Math.Nat.{div-le_of_le-mul}
use Rattle.report.proofs.table.part_of_time.Goals as goal

pub returns-clause-most : goal.returns-clause-most
returns-clause-most c =
    let numbers = c.keeps_the_model.ensures.numbers c.args.x.0 c.requires in
    let within : c.cost.result ≤ c.period.result =
    omega (arith, numbers.cost_to, numbers.deadline_to, c.cost.ensures.value, c.period.ensures.value) in
    let times : c.cost.result * 1000000 ≤ c.period.result * 1000000 = omega arith in
    div-le_of_le-mul c.period.result times
