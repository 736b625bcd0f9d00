use Rattle.std.proofs.Common.{◌≡◌, ◌+◌, ◌*◌, ◌≤◌, ◌==◌, drop}
use Rattle.std.specs.List.{sum_by}
use Rattle.number_laws.specs.Sums.{only_if}
use Rattle.sporadic_model.specs.Users.{count_of, length_of}
use Rattle.sporadic_model.specs.Homes.{home_in}
use Rattle.request_windows.proofs.ticks.time_at.Given as goal

abbrev pub invariant-loop-q : goal.invariant-loop-q
invariant-loop-q l = record {
  value : l.total + sum_by (λ q. only_if (home_in l.set q.0 == l.k) (count_of l.set l.x.0 q.0 * length_of l.set l.x.0 q.0)) (drop l.q-index l.used)
      ≡ sum_by (λ q. only_if (home_in l.set q.0 == l.k) (count_of l.set l.x.0 q.0 * length_of l.set l.x.0 q.0)) l.used;
  most : l.total ≤ l.q-index * 1000000000000;
}
