use Rattle.std.proofs.Common.{◌≢◌, ℕ, ◌<◌}
use Rattle.simplex.specs.Entries.{entry_at}
use Rattle.simplex.proofs.entries.value_at.Given as goal

abbrev pub invariant-loop-entry : goal.invariant-loop-entry
invariant-loop-entry l = (k : ℕ) → k < l.entry-index → (entry_at l.entries k).variable ≢ l.v
