use Rattle.std.proofs.Common.{ℕ, ◌<◌, ◌≤◌, pos, ◌<ℤ◌, slice_index}
use Rattle.whole_rows.specs.Rows.{entry_at, num_at}
use Rattle.whole_runs.proofs.choice.least_above.Given as goal

abbrev pub invariant-loop-entry : goal.invariant-loop-entry
invariant-loop-entry l = record {
  first : l.least ≤ l.first;
  each : (m : ℕ) → m < l.entry-index → pos 0 <ℤ num_at l.row (entry_at l.entries m).place
      → l.least ≤ slice_index l.outside (entry_at l.entries m).place;
}
