use Rattle.std.proofs.Common.{rules, ◌≡◌, slice_index_or, length, false, true, sym, arith}
use Rattle.number_laws.proofs.TestLaws.{first_below-is}
use Rattle.number_laws.proofs.first.Goals as goal

pub returns-then-mark : goal.returns-then-mark
returns-then-mark c =
    let passes : slice_index_or c.args.marks.now c.loop-place.place false ≡ true = search rules in
    sym (first_below-is (length c.args.marks.now) (λ k. slice_index_or c.args.marks.now k false) c.loop-place.place
    (omega arith) c.loop-place.invariant (λ l. passes))

pub returns : goal.returns
returns c =
    let end : c.loop-place.place ≡ length c.args.marks.now = search rules in
    sym (first_below-is (length c.args.marks.now) (λ k. slice_index_or c.args.marks.now k false) (length c.args.marks.now) (omega arith)
    (λ k l. c.loop-place.invariant k (omega arith)) (λ l. absurd (omega arith)))
