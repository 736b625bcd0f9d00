use Rattle.std.proofs.Common.{◌+◌, ◌*◌, ◌/◌, ◌%◌}
use Rattle.whole_rows.proofs.Marking.{zeros_mark_none}
use Rattle.whole_rows.proofs.marks.RowMarks.none.Goals as goal

pub returns-clause-none : goal.returns-clause-none
returns-clause-none c v i marked = zeros_mark_none c.in_ok-bits.bits.items c.in-Some.count (v * (c.args.rows / 64 + 1) + i / 64) (i % 64)
    (c.in_ok-bits.ensures.items_if_clones_equal (λ y same. same)) marked
