use Rattle.std.proofs.Common.{◌≡◌, ℕ, ◌+◌, ◌≤◌, ◌==◌, nat_lt, length, drop}
use Rattle.std.specs.Prelude.{slice_index}
use Rattle.std.specs.List.{sum_by}
use Rattle.number_laws.specs.Sums.{sum_below, only_if, flag}
use Rattle.sporadic_model.specs.SetDef.{task_at}
use Rattle.sporadic_model.specs.declared.ids.TaskId.{TaskId}
use Rattle.indirect_constraints.specs.Tables.{sum_on, lower_user}
use Rattle.indirect_constraints.proofs.tables.sum_lower.Given as goal

abbrev pub invariant-loop-y : goal.invariant-loop-y
invariant-loop-y l = record {
  one_each : length l.sums ≡ l.set.processors + 1;
  each : (k : ℕ) → k ≤ l.set.processors → slice_index l.sums k
      + sum_by (λ (y : TaskId). only_if ((task_at l.set y.0).processor == k) (flag (nat_lt l.i.0 y.0))) (drop l.y-index l.y-items)
      ≡ sum_on l.set (lower_user l.set l.i.0 l.fn.q.0) (length l.set.tasks) k;
  most : (k : ℕ) → k ≤ l.set.processors → slice_index l.sums k ≤ l.y-index;
  all : l.all + sum_by (λ (y : TaskId). flag (nat_lt l.i.0 y.0)) (drop l.y-index l.y-items)
      ≡ sum_below (length l.set.tasks) (lower_user l.set l.i.0 l.fn.q.0);
  few : l.all ≤ l.y-index;
  totals : length l.totals ≡ l.set.processors + 1;
  held : (k : ℕ) → k ≤ l.set.processors
      → slice_index l.totals k ≡ slice_index l.initial.totals k + only_if (nat_lt 0 (slice_index l.sums k)) l.count;
}
