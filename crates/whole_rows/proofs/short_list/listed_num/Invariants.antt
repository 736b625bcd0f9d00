use Rattle.std.proofs.Common.{◌≡◌, drop}
use Rattle.whole_rows.specs.Rows.{listed_at}
use Rattle.whole_rows.proofs.short_list.listed_num.Given as goal

abbrev pub invariant-loop-entry : goal.invariant-loop-entry
invariant-loop-entry l = listed_at (drop l.entry-index l.entries) l.k ≡ listed_at l.entries l.k
