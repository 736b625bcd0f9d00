use Rattle.std.proofs.Common.{slice_index, length, arith}
use Rattle.number_laws.proofs.SumLaws.{sum_below-next}
use Rattle.number_laws.proofs.sum.Goals as goal

pub overflow_add-sum : goal.overflow_add-sum
overflow_add-sum c =
    let next = sum_below-next (length c.args.values.now) c.loop-value.value-index (λ k. slice_index c.args.values.now k)
    c.loop-value-test.true in
    omega arith
