use Rattle.std.proofs.Common.{◌≡◌, ℕ, ◌+◌, ◌<◌, ◌≤◌, length}
use Rattle.std.specs.Prelude.{slice_index}
use Rattle.sporadic_model.specs.SetDef.{task_at}
use Rattle.indirect_constraints.proofs.tables.leave_own.Given as goal

abbrev pub invariant-loop-x : goal.invariant-loop-x
invariant-loop-x l = record {
  one_each : length l.numbers ≡ length l.set.tasks;
  done : (k : ℕ) → k < l.x
      → slice_index l.numbers k + slice_index l.initial.numbers k ≡ slice_index l.sums (task_at l.set k).processor;
  rest : (k : ℕ) → l.x ≤ k → slice_index l.numbers k ≡ slice_index l.initial.numbers k;
}
