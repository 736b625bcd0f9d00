use Rattle.std.proofs.Common.{◌+◌, ◌≤◌, arith}
use Rattle.simplex.specs.Entries.{entry_at}
use Rattle.simplex.proofs.Listed.{split_through, split_up}
use Rattle.simplex.proofs.entries.count_through.Goals as goal

pub returns-then-is_at : goal.returns-then-is_at
returns-then-is_at c =
    let at = c.if-is_at.ensures in
    split_through c.args.entries.now c.args.count c.args.v c.requires.sparse at.0 at.1

pub returns-else-is_at : goal.returns-else-is_at
returns-else-is_at c =
    let es = c.args.entries.now in
    split_up es c.args.count c.args.v (c.args.v + 1) c.requires.sparse c.requires.split (omega arith)
    (λ l.
    let least : c.args.v ≤ (entry_at c.args.entries.now c.args.count).variable = c.requires.split.behind c.args.count (omega arith) l in
    let apart = c.if-is_at.ensures l in
    omega (arith, least, apart))
