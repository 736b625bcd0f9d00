use Rattle.std.proofs.Common.{◌∙◌, arith}
use Rattle.fraction128.proofs.ScalingLemmas.{den_read, num_read, scaled_over}
use Rattle.fraction128.proofs.scaling.number_over.Goals as goal

pub returns-then-number-gt-MOST : goal.returns-then-number-gt-MOST
returns-then-number-gt-MOST c =
    let form = c.den.ensures.form in
    let den = c.unsigned_abs.ensures.value ∙ den_read c.args.value c.den.result form c.den.ensures.value in
    let num = c.unsigned_abs-2.ensures.value ∙ num_read c.args.value c.num.result form c.num.ensures.value in
    (_, rw (den, num) (scaled_over c.args.den c.args.value form c.requires.not_below c.requires.multiple), c.if-number-gt-MOST.true)

pub returns-else-number-gt-MOST : goal.returns-else-number-gt-MOST
returns-else-number-gt-MOST c =
    let form = c.den.ensures.form in
    let den = c.unsigned_abs.ensures.value ∙ den_read c.args.value c.den.result form c.den.ensures.value in
    let num = c.unsigned_abs-2.ensures.value ∙ num_read c.args.value c.num.result form c.num.ensures.value in (
      rw (den, num) (scaled_over c.args.den c.args.value form c.requires.not_below c.requires.multiple),
      omega (arith, c.if-number-gt-MOST.false),
    )
