use Rattle.std.proofs.Common.{ℕ, ◌<◌}
use Rattle.std.specs.Prelude.{pos, ◌≤ℤ◌}
use Rattle.simplex.specs.Entries.{entry_at}
use Rattle.simplex.proofs.entries.first_above.Given as goal

abbrev pub invariant-loop-entry : goal.invariant-loop-entry
invariant-loop-entry l = (k : ℕ) → k < l.entry-index → (entry_at l.entries k).value.num ≤ℤ pos 0
