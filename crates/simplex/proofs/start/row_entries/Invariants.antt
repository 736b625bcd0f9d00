use Rattle.std.proofs.Common.{◌≡◌, take}
use Rattle.simplex.proofs.Coefficients.{entries_of}
use Rattle.simplex.proofs.start.row_entries.Given as goal

abbrev pub invariant-loop-coefficient : goal.invariant-loop-coefficient
invariant-loop-coefficient l = l.entries.items ≡ entries_of (take l.coefficient-index l.coefficient-items)
