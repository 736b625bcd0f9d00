use Rattle.std.proofs.Common.{ℕ, subst}
use Rattle.std.proofs.Common.{nat_lt}
use Rattle.number_laws.specs.Sums.{only_if}
use Rattle.sporadic_model.specs.Users.{count_of}
use Rattle.closer_mpcp.specs.Sums.{AreSumsOf}
use Rattle.closer_mpcp.proofs.lower.lower_sums.Goals as goal

pub returns : goal.returns
returns c =
    subst (λ (n : ℕ). AreSumsOf c.args.set.now n (λ y. only_if (nat_lt c.args.i.0 y) (count_of c.args.set.now y c.args.r.0)) c.sums_of.result)
    c.tasks-tasks.ensures.value c.sums_of.ensures
