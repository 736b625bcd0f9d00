use Rattle.std.proofs.Common.{◌≡◌, ℕ, ◌+◌, ◌*◌, ◌<◌, ◌≤◌, length, drop}
use Rattle.std.specs.Prelude.{slice_index}
use Rattle.std.specs.List.{sum_by}
use Rattle.sporadic_model.specs.declared.ids.ResourceId.{ResourceId}
use Rattle.blocking_columns.specs.Windows.{requests_in}
use Rattle.indirect_constraints.specs.Tables.{awaited}
use Rattle.indirect_constraints.proofs.holdings.awaited_of.Given as goal

abbrev pub invariant-loop-q : goal.invariant-loop-q
invariant-loop-q l = record {
  one_each : length l.numbers.items ≡ length l.set.tasks;
  each : (y : ℕ) → y < l.i.0 → slice_index l.numbers.items y
      + sum_by (λ (q : ResourceId). requests_in l.set (slice_index l.bounds) l.i.0 y q.0) (drop l.q-index l.q-items)
      ≡ awaited l.set (slice_index l.bounds) l.i.0 (length l.set.resources) y;
  room : (y : ℕ) → y < l.i.0 → slice_index l.numbers.items y ≤ l.q-index * 2000000000000;
  others : (y : ℕ) → l.i.0 ≤ y → y < length l.set.tasks → slice_index l.numbers.items y ≡ 0;
}
