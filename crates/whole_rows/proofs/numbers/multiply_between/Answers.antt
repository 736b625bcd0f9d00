use Rattle.std.proofs.Common.{◌<◌, ◌≤◌, ◌^◌, length, FitsSigned, ◌*ℤ◌, unsigned_abs, w64, ap, arith, rules}
use Rattle.whole_rows.specs.Numbers.{number_at}
use Rattle.whole_rows.proofs.Loops.{times_more}
use Rattle.whole_rows.proofs.Read.{read, product_read}
use Rattle.whole_rows.proofs.numbers.multiply_between.Goals as goal

pub loop-k-preserved : goal.loop-k-preserved
loop-k-preserved c =
    let fits_by : FitsSigned w64 c.args.by = search rules in
    let fits : FitsSigned w64 (number_at c.loop-k.nums c.loop-k.k) = search rules in
    let by = read c.args.by fits_by in
    let kept = rw by at c.loop-k.invariant in
    let from : c.args.first ≤ c.loop-k.k = search rules in
    let within : c.loop-k.k < length c.loop-k.nums =
    omega (arith, c.loop-k.auto.nums, c.loop-k-test.true, c.requires.within) in
    let same = kept.rest c.loop-k.k (omega arith) in
    let room : unsigned_abs (number_at c.loop-k.nums c.loop-k.k *ℤ c.args.by) < 2 ^ 63 = rw same (c.requires.room c.loop-k.k from) in
    rw (product_read (number_at c.loop-k.nums c.loop-k.k) c.args.by fits fits_by room, by)
    (times_more c.args.first c.loop-k.k c.args.nums.now c.args.by c.loop-k.nums _ kept from within (ap (λ n. n *ℤ c.args.by) same))
