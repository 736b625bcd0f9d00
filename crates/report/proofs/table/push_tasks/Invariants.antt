use Rattle.std.proofs.Common.{◌≡◌, ◌++◌}
use Rattle.number_laws.specs.Sums.{collect_below}
use Rattle.sporadic_model.specs.SetDef.{task_at}
use Rattle.report.specs.Table.{task_line}
use Rattle.report.proofs.table.push_tasks.Given as goal

abbrev pub invariant-loop-x : goal.invariant-loop-x
invariant-loop-x l = l.text.items ≡ l.initial.text.items ++ collect_below l.x (λ x. task_line (task_at l.set x))
