use Rattle.std.proofs.Common.{◌≡◌, ◌*◌, ◌≤◌}
use Rattle.std.specs.Prelude.{slice_index}
use Rattle.number_laws.specs.Sums.{sum_below, only_if}
use Rattle.sporadic_model.specs.Users.{count_of}
use Rattle.window_laws.specs.WindowRows.{meets_there, requests_there}
use Rattle.request_windows.proofs.limits.requests_met.Given as goal

abbrev pub invariant-loop-q : goal.invariant-loop-q
invariant-loop-q l = record {
  value : l.total ≡ sum_below l.q (λ q. only_if (meets_there l.at.set.now l.at.i.0 l.at.r.0 q)
      (count_of l.at.set.now l.at.i.0 q * requests_there l.at.set.now (slice_index l.at.bounds.now) l.at.i.0 l.at.x.0 l.at.r.0 q));
  most : l.total ≤ l.q * 2000000000000000;
}
