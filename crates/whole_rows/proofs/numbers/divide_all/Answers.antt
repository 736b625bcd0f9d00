use Rattle.std.proofs.Common.{◌<◌, length, FitsSigned, unsigned_abs, w64, arith, rules}
use Rattle.std.specs.Int.{◌∣◌}
use Rattle.whole_rows.specs.Numbers.{number_at}
use Rattle.whole_rows.proofs.Loops.{divided_more}
use Rattle.whole_rows.proofs.Dividing.{quotient_read, quot_exact}
use Rattle.whole_rows.proofs.Read.{read}
use Rattle.whole_rows.proofs.numbers.divide_all.Goals as goal

pub loop-k-preserved : goal.loop-k-preserved
loop-k-preserved c =
    let fits_by : FitsSigned w64 c.args.by = search rules in
    let fits : FitsSigned w64 (number_at c.loop-k.nums c.loop-k.k) = search rules in
    let by = read c.args.by fits_by in
    let kept = rw by at c.loop-k.invariant in
    let within : c.loop-k.k < length c.loop-k.nums = omega (arith, c.loop-k.auto.nums, c.loop-k-test.true) in
    let divisor : unsigned_abs c.args.by ∣ unsigned_abs (number_at c.loop-k.nums c.loop-k.k) =
    rw (kept.rest c.loop-k.k (omega arith)) (c.requires.divisor c.loop-k.k) in
    rw (quotient_read (number_at c.loop-k.nums c.loop-k.k) c.args.by fits fits_by c.requires.positive, by)
    (divided_more c.loop-k.k c.args.nums.now c.args.by c.loop-k.nums _ kept within
    (quot_exact (number_at c.loop-k.nums c.loop-k.k) c.args.by c.requires.positive divisor))
