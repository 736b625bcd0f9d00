use Rattle.std.proofs.Common.{◌≡◌, ◌++◌, map, drop}
use Rattle.sporadic_model.specs.Seen.{task_seen}
use Rattle.worked_sets.specs.Rows.{tasks_from}
use Rattle.worked_sets.proofs.building.tasks_of.Given as goal

abbrev pub invariant-loop-number : goal.invariant-loop-number
invariant-loop-number l = map task_seen l.tasks.items ++ tasks_from l.number-counter (drop l.number-counter l.rows) ≡ tasks_from 0 l.rows
