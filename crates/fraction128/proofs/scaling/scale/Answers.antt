use Rattle.std.proofs.Common.{pos, inr, subst, arith}
use Rattle.std.proofs.lemmas.Result.{err_from_is_err_and}
use Rattle.std.proofs.lemmas.List.{get_or_read}
use Rattle.fraction128.specs.Fraction.{Fraction, whole}
use Rattle.fraction128.specs.Scaling.{IsScaled, AreScaled}
use Rattle.fraction128.proofs.scaling.scale.Goals as goal

pub number_over-requires-clause-multiple : goal.number_over-requires-clause-multiple
number_over-requires-clause-multiple c =
    rw c.value-item.is (c.in_ok-den.ensures.0.common c.loop-value.value-index c.value-item.result c.loop-value-test.true)

pub returns-in_err-number : goal.returns-in_err-number
returns-in_err-number c =
    let i = c.loop-value.value-index in
    let inside = c.loop-value-test.true in
    let here = get_or_read c.args.values.now i c.value-item.result inside c.value-item.is (whole (pos 0)) in
    let number = c.in_err-number.ensures in
    let over = subst (λ (f : Fraction). IsScaled c.in_ok-den.den f number.0) here number.1 in
    let stop = err_from_is_err_and c.from_residual-in_err-number.result c.from_residual-in_err-number.ensures.1 in
    rw (stop.1, stop.2)
    (c.in_ok-den.den, c.in_ok-den.ensures.0, inr (i, number.0, inside, over, number.2))

pub returns : goal.returns
returns c =
    let end = c.loop-value-test.false in
    let scaled : AreScaled c.in_ok-den.den c.args.values.now c.loop-value.num.items = record {
      len = omega (arith, c.loop-value.num.ok.0);
      each = λ i lt. c.loop-value.invariant.each i (omega arith);
    } in
    (c.in_ok-den.ensures.0, scaled, c.in_ok-den.ensures.1, c.loop-value.invariant.small)
