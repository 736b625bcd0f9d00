use Rattle.std.proofs.Common.{ℕ, List, arith, length, slice_index}
use Rattle.refusal_confirm.proofs.RowSums.{no_term, one_more_term}
use Rattle.refusal_confirm.proofs.sums.row_sum.Goals as goal

pub loop-coefficient-init : goal.loop-coefficient-init
loop-coefficient-init c = omega (arith, no_term (length c.args.num.now) (slice_index c.args.num.now))

pub loop-coefficient-preserved : goal.loop-coefficient-preserved
loop-coefficient-preserved c =
    let k : ℕ = c.loop-coefficient.coefficient-index in
    let num : List ℕ = c.args.num.now in
    let more = one_more_term (length num) (slice_index num) c.args.coefficients.now k c.requires.listed c.loop-coefficient-test.true in
    omega (arith, more)
