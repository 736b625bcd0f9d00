use Rattle.std.proofs.Common.{◌≡◌, ◌≤◌, nat_lt}
use Rattle.number_laws.specs.Tests.{count_below}
use Rattle.sporadic_model.specs.Users.{count_of}
use Rattle.response_fixpoint.proofs.sharing.entries_of.Given as goal

-- those of the resources so far
abbrev pub invariant-loop-q : goal.invariant-loop-q
invariant-loop-q l = record {
  counted : l.entries ≡ count_below l.q (λ q. nat_lt 0 (count_of l.set l.x.0 q));
  few : l.entries ≤ l.q;
}
