use Rattle.std.proofs.Common.{◌≡◌, ℕ, ◌+◌, ◌<◌, ◌==◌, length, drop}
use Rattle.std.specs.Prelude.{slice_index}
use Rattle.std.specs.List.{sum_by}
use Rattle.number_laws.specs.Sums.{only_if}
use Rattle.sporadic_model.specs.declared.ids.TaskId.{TaskId}
use Rattle.indirect_constraints.specs.Tables.{held_alone}
use Rattle.indirect_constraints.proofs.Held.{alone_there}
use Rattle.indirect_constraints.proofs.holdings.add_alone.Given as goal

abbrev pub invariant-loop-y : goal.invariant-loop-y
invariant-loop-y l = record {
  one_each : length l.numbers ≡ length l.set.tasks;
  each : (k : ℕ) → k < length l.set.tasks → slice_index l.numbers k
      + sum_by (λ (y : TaskId). only_if (y.0 == k) (alone_there l.set l.i.0 l.fn.q.0 y.0)) (drop l.y-index l.y-items)
      ≡ slice_index l.initial.numbers k + held_alone l.set l.i.0 k l.fn.q.0;
}
