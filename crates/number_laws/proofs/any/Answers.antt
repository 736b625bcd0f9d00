use Rattle.std.proofs.Common.{rules, ◌≡◌, slice_index_or, length, false, true, sym}
use Rattle.number_laws.proofs.TestLaws.{any_below-from}
use Rattle.number_laws.proofs.any.Goals as goal

pub returns-then-mark : goal.returns-then-mark
returns-then-mark c =
    let passes : slice_index_or c.args.marks.now c.loop-mark.mark-index false ≡ true = search rules in
    sym (any_below-from (length c.args.marks.now) (λ k. slice_index_or c.args.marks.now k false) c.loop-mark.mark-index
    c.loop-mark-test.true passes)
