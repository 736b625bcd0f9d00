use Rattle.std.proofs.Common.{◌≡◌, pos, int_rem, to_z, of_z, unsigned_abs, ℤ, subst, sym, ◌∙◌, ap, FitsSigned, w64, rules}
use Rattle.std.specs.Int.{◌∣◌}
use Rattle.std.proofs.lemmas.Int.{rem_is}
use Rattle.std.proofs.Math.Nat.{eq-one_of_dvd-one}
use Rattle.number_laws.proofs.Order.{above_zero}
use Rattle.whole_rows.proofs.Dividing.{cancelled_apart, common_positive, divisor_fits, gcd_read, is_cancelled, whole_cancelled}
use Rattle.whole_rows.proofs.Dividing.{quotient_read, quotient_fits_read}
use Rattle.whole_rows.proofs.divisors.lowest_terms.Goals as goal

pub returns-then-den-eq1 : goal.returns-then-den-eq1
returns-then-den-eq1 c =
    let one : to_z w64 (of_z w64 c.args.den) ≡ pos 1 = ap (to_z w64) c.if-den-eq1.true in
    record {
      form = search rules;
      apart = λ d p q. eq-one_of_dvd-one (subst (λ (z : ℤ). d ∣ unsigned_abs z) one q);
    }

pub returns-then-num-den-eq0 : goal.returns-then-num-den-eq0
returns-then-num-den-eq0 c =
    let fits_num : FitsSigned w64 c.args.num = search rules in
    let fits_den : FitsSigned w64 c.args.den = search rules in
    let none : int_rem c.args.num c.args.den ≡ pos 0 =
    sym (rem_is w64 c.args.num c.args.den fits_num fits_den) ∙ ap (to_z w64) c.if-num-den-eq0.true in
    record {
      form = rw (quotient_read c.args.num c.args.den fits_num fits_den c.requires.positive)
          (whole_cancelled c.args.num c.args.den c.requires.positive none);
      apart = λ d p q. eq-one_of_dvd-one q;
    }

pub overflow_cast-common : goal.overflow_cast-common
overflow_cast-common c =
    let fits_num : FitsSigned w64 c.args.num = search rules in
    let fits_den : FitsSigned w64 c.args.den = search rules in
    let gcd = gcd_read c.args.num c.args.den _ _ _ fits_num fits_den c.unsigned_abs.ensures.value c.unsigned_abs-2.ensures.value
    c.greatest_common_divisor-common.ensures in
    divisor_fits c.args.den _ c.requires.positive fits_den gcd.1

pub nonzero_div-result-2 : goal.nonzero_div-result-2
nonzero_div-result-2 c =
    let fits_num : FitsSigned w64 c.args.num = search rules in
    let fits_den : FitsSigned w64 c.args.den = search rules in
    let gcd = gcd_read c.args.num c.args.den _ _ _ fits_num fits_den c.unsigned_abs.ensures.value c.unsigned_abs-2.ensures.value
    c.greatest_common_divisor-common.ensures in
    let above = common_positive c.args.num c.args.den _ c.requires.positive gcd in (
      above,
      quotient_fits_read c.args.num (pos c.greatest_common_divisor-common.result) fits_num
          (divisor_fits c.args.den _ c.requires.positive fits_den gcd.1) (above_zero _ above),
    )

pub nonzero_div-result-3 : goal.nonzero_div-result-3
nonzero_div-result-3 c =
    let fits_num : FitsSigned w64 c.args.num = search rules in
    let fits_den : FitsSigned w64 c.args.den = search rules in
    let gcd = gcd_read c.args.num c.args.den _ _ _ fits_num fits_den c.unsigned_abs.ensures.value c.unsigned_abs-2.ensures.value
    c.greatest_common_divisor-common.ensures in
    let above = common_positive c.args.num c.args.den _ c.requires.positive gcd in (
      above,
      quotient_fits_read c.args.den (pos c.greatest_common_divisor-common.result) fits_den
          (divisor_fits c.args.den _ c.requires.positive fits_den gcd.1) (above_zero _ above),
    )

pub returns : goal.returns
returns c =
    let fits_num : FitsSigned w64 c.args.num = search rules in
    let fits_den : FitsSigned w64 c.args.den = search rules in
    let gcd = gcd_read c.args.num c.args.den _ _ _ fits_num fits_den c.unsigned_abs.ensures.value c.unsigned_abs-2.ensures.value
    c.greatest_common_divisor-common.ensures in
    let g = c.greatest_common_divisor-common.result in
    let fits = divisor_fits c.args.den _ c.requires.positive fits_den gcd.1 in
    let above = above_zero _ (common_positive c.args.num c.args.den _ c.requires.positive gcd) in
    rw (quotient_read c.args.num (pos g) fits_num fits above, quotient_read c.args.den (pos g) fits_den fits above)
    (record {
      form = is_cancelled c.args.num c.args.den g c.requires.positive gcd;
      apart = cancelled_apart c.args.num c.args.den g c.requires.positive gcd;
    })
