use Rattle.std.proofs.Common.{◌≡◌, ◌++◌, slice_index}
use Rattle.number_laws.specs.Sums.{collect_below}
use Rattle.sporadic_model.specs.SetDef.{task_at}
use Rattle.report.specs.FullTable.{full_line}
use Rattle.report.proofs.proved.push_full_tasks.Given as goal

abbrev pub invariant-loop-x : goal.invariant-loop-x
invariant-loop-x l = l.text.items ≡ l.initial.text.items
    ++ collect_below l.x (λ x. full_line (task_at l.set x) (slice_index l.bounds x) (slice_index l.values x))
