use Rattle.std.proofs.Common.{◌≡◌, ◌+◌, ◌*◌, ◌≤◌, drop}
use Rattle.std.specs.List.{sum_by}
use Rattle.sporadic_model.specs.Users.{count_of}
use Rattle.blocking_columns.proofs.windows.requests_of.Given as goal

abbrev pub invariant-loop-q : goal.invariant-loop-q
invariant-loop-q l = record {
  value : l.total + sum_by (λ q. count_of l.set l.i.0 q.0) (drop l.q-index l.used) ≡ sum_by (λ q. count_of l.set l.i.0 q.0) l.used;
  most : l.total ≤ l.q-index * 1000;
}
