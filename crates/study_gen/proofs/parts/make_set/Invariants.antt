use Rattle.std.proofs.Common.{◌≡◌, map}
use Rattle.sporadic_model.specs.Seen.{task_seen}
use Rattle.study_gen.specs.Sets.{in_period_order, tasks_drawn, behind_tasks}
use Rattle.study_gen.proofs.parts.make_set.Given as goal

-- the tasks so far in their order, and the state behind them
abbrev pub invariant-loop-j : goal.invariant-loop-j
invariant-loop-j l = record {
  tasks : map task_seen l.tasks.items ≡ in_period_order (tasks_drawn l.step l.fn.state l.j);
  state : l.generator.state ≡ behind_tasks l.fn.state l.j;
}
