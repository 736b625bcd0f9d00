use Rattle.std.proofs.Common.{◌≡◌, ◌*◌, ◌≤◌, length}
use Rattle.number_laws.specs.Sums.{sum_below}
use Rattle.sporadic_model.specs.Users.{users_of}
use Rattle.blocking_columns.proofs.columns.most_columns.Given as goal

abbrev pub invariant-loop-q : goal.invariant-loop-q
invariant-loop-q l = record {
  value : l.entries ≡ sum_below l.q (λ q. length (users_of l.set q));
  most : l.entries ≤ l.q * 64;
}
