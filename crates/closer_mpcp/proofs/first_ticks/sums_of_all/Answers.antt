use Rattle.std.proofs.Common.{ℕ, subst}
use Rattle.sporadic_model.specs.Users.{count_of}
use Rattle.closer_mpcp.specs.Sums.{AreSumsOf}
use Rattle.closer_mpcp.proofs.first_ticks.sums_of_all.Goals as goal

pub returns : goal.returns
returns c =
    subst (λ (n : ℕ). AreSumsOf c.args.set.now n (λ y. count_of c.args.set.now y c.args.q.0) c.sums_of.result) c.tasks-tasks.ensures.value
    c.sums_of.ensures
