use Rattle.std.proofs.Common.{◌≡◌, ◌≤◌, ◌*◌}
use Rattle.number_laws.specs.Sums.{sum_below}
use Rattle.response_fixpoint.specs.Sharing.{entries_at}
use Rattle.response_fixpoint.proofs.sharing.entries_in.Given as goal

-- those of the tasks so far
abbrev pub invariant-loop-x : goal.invariant-loop-x
invariant-loop-x l = record {
  summed : l.entries ≡ sum_below l.x (entries_at l.set);
  few : l.entries ≤ 64 * l.x;
}
