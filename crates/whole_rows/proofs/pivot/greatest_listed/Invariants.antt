use Rattle.std.proofs.Common.{◌≡◌, ◌⊎◌, ℕ, ◌<◌, ◌≤◌, length, unsigned_abs}
use Rattle.whole_rows.specs.Rows.{entry_at}
use Rattle.whole_rows.specs.Numbers.{AreListedWithin}
use Rattle.whole_rows.proofs.pivot.greatest_listed.Given as goal

abbrev pub invariant-loop-entry : goal.invariant-loop-entry
invariant-loop-entry l = record {
  first : l.first ≤ l.most;
  all : (j : ℕ) → j < l.entry-index → unsigned_abs (entry_at l.entries j).num ≤ l.most;
  attained : (l.most ≡ l.first) ⊎ ((j : ℕ) × (j < length l.entries) × (unsigned_abs (entry_at l.entries j).num ≡ l.most));
  least : (most : ℕ) → l.first ≤ most → AreListedWithin most l.entries → l.most ≤ most;
}
