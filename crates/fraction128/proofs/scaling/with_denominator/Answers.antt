use Rattle.std.proofs.Common.{arith}
use Rattle.fraction128.proofs.ScalingLemmas.{den_read, gcd_above, common_kept, common_after_ok, common_after_wide}
use Rattle.fraction128.proofs.scaling.with_denominator.Goals as goal

pub nonzero_div-multiple : goal.nonzero_div-multiple
nonzero_div-multiple c =
    gcd_above _ _ c.gcd.result c.args.value c.den-den.ensures.form
    (den_read c.args.value c.den-den.result c.den-den.ensures.form c.den-den.ensures.value) c.gcd.ensures

pub returns-then-multiple-gt-MOST : goal.returns-then-multiple-gt-MOST
returns-then-multiple-gt-MOST c fs h =
    let form = c.den-den.ensures.form in (
      _,
      common_after_ok c.args.common fs c.args.value _ _ c.gcd.result c.in-Ok.is form
          (den_read c.args.value c.den-den.result form c.den-den.ensures.value) c.gcd.ensures h,
      c.if-multiple-gt-MOST.true,
    )

pub returns-else-multiple-gt-MOST : goal.returns-else-multiple-gt-MOST
returns-else-multiple-gt-MOST c fs h =
    let form = c.den-den.ensures.form in (
      common_after_ok c.args.common fs c.args.value _ _ c.gcd.result c.in-Ok.is form
          (den_read c.args.value c.den-den.result form c.den-den.ensures.value) c.gcd.ensures h,
      omega (arith, c.if-multiple-gt-MOST.false),
    )

pub returns-in-Err : goal.returns-in-Err
returns-in-Err c fs h =
    common_after_wide c.args.common _ fs c.args.value c.in-Err.is c.den-den.ensures.form h

pub returns-then-den-eq1 : goal.returns-then-den-eq1
returns-then-den-eq1 c fs h =
    let form = c.den-den.ensures.form in
    let read = den_read c.args.value c.den-den.result form c.den-den.ensures.value in
    common_kept c.args.common fs c.args.value (omega (arith, read, c.if-den-eq1.true)) h
