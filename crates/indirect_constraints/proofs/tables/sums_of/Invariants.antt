use Rattle.std.proofs.Common.{◌≡◌, ℕ, ◌+◌, ◌*◌, ◌≤◌, length}
use Rattle.std.specs.Prelude.{slice_index}
use Rattle.indirect_constraints.specs.Tables.{sum_on}
use Rattle.indirect_constraints.proofs.tables.sums_of.Given as goal

abbrev pub invariant-loop-y : goal.invariant-loop-y
invariant-loop-y l = record {
  one_each : length l.sums.items ≡ l.set.processors + 1;
  each : (k : ℕ) → k ≤ l.set.processors → slice_index l.sums.items k ≡ sum_on l.set (slice_index l.numbers) l.y k;
  most : (k : ℕ) → k ≤ l.set.processors → slice_index l.sums.items k ≤ l.y * 64000000000000;
}
