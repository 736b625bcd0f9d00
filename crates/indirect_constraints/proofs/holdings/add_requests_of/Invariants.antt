use Rattle.std.proofs.Common.{◌≡◌, ℕ, ◌+◌, ◌<◌, ◌≤◌, ◌==◌, length, drop}
use Rattle.std.specs.Prelude.{slice_index}
use Rattle.std.specs.List.{sum_by}
use Rattle.number_laws.specs.Sums.{only_if}
use Rattle.sporadic_model.specs.declared.ids.TaskId.{TaskId}
use Rattle.blocking_columns.specs.Windows.{requests_in}
use Rattle.indirect_constraints.proofs.holdings.add_requests_of.Given as goal

abbrev pub invariant-loop-y : goal.invariant-loop-y
invariant-loop-y l = record {
  one_each : length l.numbers ≡ length l.set.tasks;
  each : (k : ℕ) → k < l.i.0 → slice_index l.numbers k
      + sum_by (λ (y : TaskId). only_if (y.0 == k) (requests_in l.set (slice_index l.bounds) l.i.0 y.0 l.q.0)) (drop l.y-index l.y-items)
      ≡ slice_index l.initial.numbers k + requests_in l.set (slice_index l.bounds) l.i.0 k l.q.0;
  room : (k : ℕ) → k < l.i.0 → slice_index l.numbers k
      + sum_by (λ (y : TaskId). only_if (y.0 == k) 2000000000000) (drop l.y-index l.y-items)
      ≤ slice_index l.initial.numbers k + 2000000000000;
  others : (k : ℕ) → l.i.0 ≤ k → slice_index l.numbers k ≡ slice_index l.initial.numbers k;
}
