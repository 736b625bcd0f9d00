use Rattle.std.proofs.Common.{rules, ◌≡◌, slice_index_or, length, false, sym}
use Rattle.number_laws.proofs.TestLaws.{all_below-fails_from}
use Rattle.number_laws.proofs.all.Goals as goal

pub returns-then-not-mark : goal.returns-then-not-mark
returns-then-not-mark c =
    let fails : slice_index_or c.args.marks.now c.loop-mark.mark-index false ≡ false = search rules in
    sym (all_below-fails_from (length c.args.marks.now) (λ k. slice_index_or c.args.marks.now k false)
    c.loop-mark.mark-index c.loop-mark-test.true fails)
