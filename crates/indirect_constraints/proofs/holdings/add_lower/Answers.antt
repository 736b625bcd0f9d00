use Rattle.std.proofs.Common.{◌≡◌, length, arith}
use Rattle.number_laws.specs.Sums.{sum_below}
use Rattle.indirect_constraints.specs.Tables.{lower_user}
use Rattle.indirect_constraints.proofs.Held.{none_alone}
use Rattle.indirect_constraints.proofs.holdings.add_lower.Goals as goal

pub returns-else-sum_lower-gt0-clause-alone : goal.returns-else-sum_lower-gt0-clause-alone
returns-else-sum_lower-gt0-clause-alone c =
    let set = c.args.set.now in
    let none : sum_below (length set.tasks) (lower_user set c.args.i.0 c.args.q.0) ≡ 0 =
    omega (arith, c.sum_lower.ensures.all, c.if-sum_lower-gt0.false) in
    record {
      size = c.requires.room.of_tasks.size;
      each = λ x l. omega (arith, none_alone set c.args.i.0 c.args.q.0 x none);
    }
