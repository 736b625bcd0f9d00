use Rattle.std.proofs.Common.{◌≡◌, ◌*◌, ◌/◌, ◌≤◌, ◌==◌}
use Rattle.number_laws.specs.Sums.{sum_below, only_if}
use Rattle.sporadic_model.specs.SetDef.{task_at}
use Rattle.report.proofs.table.load.Given as goal

-- the parts of the tasks so far, each at most the whole time
abbrev pub invariant-loop-x : goal.invariant-loop-x
invariant-loop-x l = record {
  value : l.total ≡ sum_below l.x
      (λ x. only_if ((task_at l.set x).processor == l.k) ((task_at l.set x).cost * 1000000 / (task_at l.set x).period));
  most : l.total ≤ l.x * 1000000;
}
