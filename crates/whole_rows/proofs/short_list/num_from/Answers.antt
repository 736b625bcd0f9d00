use Rattle.std.proofs.Common.{FitsSigned, w64, arith, rules}
use Rattle.whole_rows.specs.Rows.{entry_at}
use Rattle.whole_rows.proofs.Read.{read}
use Rattle.whole_rows.proofs.ShortLists.{read_here, read_none}
use Rattle.whole_rows.proofs.short_list.num_from.Goals as goal
use Rattle.whole_rows.proofs.short_list.num_from.Goals.{else-i-entries-via-then-i-entries+else-entries-i, else-i-entries-via-else-i-entries}

pub returns-then-entries-i : goal.returns-then-entries-i
returns-then-entries-i c =
    let fits : FitsSigned w64 (entry_at c.args.entries.now c.args.i).num = search rules in
    read_here c.args.entries.now c.args.i c.args.place _ c.requires (search rules) (search rules) (read _ fits)

pub returns-else-i-entries : goal.returns-else-i-entries
returns-else-i-entries c = read_none c.args.entries.now c.args.i c.args.place c.requires (λ inside same. elim c.else-i-entries.branch [
  | else-i-entries-via-then-i-entries+else-entries-i w ↦ absurd (omega (arith, same, w.if-entries-i.false))
  | else-i-entries-via-else-i-entries w ↦ absurd (omega (arith, inside, w.if-i-entries.false))
])
