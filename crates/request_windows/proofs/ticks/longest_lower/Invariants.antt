use Rattle.std.proofs.Common.{◌≡◌, ◌≤◌, length}
use Rattle.number_laws.specs.Sums.{only_if}
use Rattle.sporadic_model.specs.Users.{length_of}
use Rattle.schedule_model.specs.Measures.{greatest_below}
use Rattle.window_laws.specs.Windows.{may_hold_up}
use Rattle.request_windows.proofs.ticks.longest_lower.Given as goal

abbrev pub invariant-loop-x : goal.invariant-loop-x
invariant-loop-x l = record {
  value : l.longest ≡ greatest_below l.x (λ x. greatest_below (length l.set.resources)
      (λ q. only_if (may_hold_up l.set l.i.0 l.k x q) (length_of l.set x q)));
  most : l.longest ≤ 1000000000;
}
