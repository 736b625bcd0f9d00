use Rattle.std.proofs.Common.{pos, FitsSigned, w64, rules}
use Rattle.std.proofs.lemmas.Nat.Gcd.{dvd_trans}
use Rattle.number_laws.proofs.Order.{above_zero}
use Rattle.whole_rows.specs.Rows.{row_over}
use Rattle.whole_rows.proofs.Read.{read}
use Rattle.whole_rows.proofs.Dividing.{common_positive, divisor_fits, gcd_read, quot_exact, quotient_read, parts_divided}
use Rattle.whole_rows.proofs.Larger.{greatest_of_parts, reduced_already, reduced_row}
use Rattle.whole_rows.proofs.Entering.{same_row}
use Rattle.whole_rows.proofs.divisors.divide_parts.Goals as goal

pub common_divisor-common-requires : goal.common_divisor-common-requires
common_divisor-common-requires c =
    let fits_limit : FitsSigned w64 c.args.limit = search rules in
    let fits_den : FitsSigned w64 c.args.den = search rules in
    common_positive c.args.limit c.args.den _ c.requires.positive
    (gcd_read c.args.limit c.args.den _ _ _ fits_limit fits_den c.unsigned_abs.ensures.value c.unsigned_abs-2.ensures.value
    c.greatest_common_divisor-first.ensures)

pub overflow_cast-common : goal.overflow_cast-common
overflow_cast-common c =
    let fits_limit : FitsSigned w64 c.args.limit = search rules in
    let fits_den : FitsSigned w64 c.args.den = search rules in
    let gcd = gcd_read c.args.limit c.args.den _ _ _ fits_limit fits_den c.unsigned_abs.ensures.value c.unsigned_abs-2.ensures.value
    c.greatest_common_divisor-first.ensures in
    divisor_fits c.args.den _ c.requires.positive fits_den (dvd_trans _ c.common_divisor-common.ensures.first gcd.1)

pub divide_all-requires : goal.divide_all-requires
divide_all-requires c =
    let fits_limit : FitsSigned w64 c.args.limit = search rules in
    let fits_den : FitsSigned w64 c.args.den = search rules in
    let gcd = gcd_read c.args.limit c.args.den _ _ _ fits_limit fits_den c.unsigned_abs.ensures.value c.unsigned_abs-2.ensures.value
    c.greatest_common_divisor-first.ensures in
    let fits = divisor_fits c.args.den _ c.requires.positive fits_den (dvd_trans _ c.common_divisor-common.ensures.first gcd.1) in
    rw (read (pos c.common_divisor-common.result) fits) (record {
      positive = above_zero _ c.common_divisor-common.ensures.positive;
      divisor = c.common_divisor-common.ensures.all;
    })

pub returns-then-common-eq1 : goal.returns-then-common-eq1
returns-then-common-eq1 c =
    let fits_limit : FitsSigned w64 c.args.limit = search rules in
    let fits_den : FitsSigned w64 c.args.den = search rules in
    let gcd = gcd_read c.args.limit c.args.den _ _ _ fits_limit fits_den c.unsigned_abs.ensures.value c.unsigned_abs-2.ensures.value
    c.greatest_common_divisor-first.ensures in
    let row = row_over c.args.nums.now c.args.limit c.args.den in
    rw (read c.args.limit fits_limit, read c.args.den fits_den) (record {
      same = same_row row;
      lowest = reduced_already row c.common_divisor-common.result (search rules)
          (greatest_of_parts row _ c.common_divisor-common.result gcd c.common_divisor-common.ensures.greatest);
    })

pub returns : goal.returns
returns c =
    let g = c.common_divisor-common.result in
    let fits_limit : FitsSigned w64 c.args.limit = search rules in
    let fits_den : FitsSigned w64 c.args.den = search rules in
    let gcd = gcd_read c.args.limit c.args.den _ _ _ fits_limit fits_den c.unsigned_abs.ensures.value c.unsigned_abs-2.ensures.value
    c.greatest_common_divisor-first.ensures in
    let in_limit = dvd_trans _ c.common_divisor-common.ensures.first gcd.0 in
    let in_den = dvd_trans _ c.common_divisor-common.ensures.first gcd.1 in
    let fits = divisor_fits c.args.den _ c.requires.positive fits_den in_den in
    let above = above_zero _ c.common_divisor-common.ensures.positive in
    let row = row_over c.args.nums.now c.args.limit c.args.den in
    let divided = rw (read (pos g) fits) at c.divide_all.ensures in
    rw (quotient_read c.args.limit (pos g) fits_limit fits above, quotient_read c.args.den (pos g) fits_den fits above)
    (record {
      same = parts_divided c.args.nums.now _ c.args.limit c.args.den g c.common_divisor-common.ensures.positive divided in_limit in_den;
      lowest = reduced_row row _ g c.common_divisor-common.ensures.positive
          (λ k. divided.each k) (quot_exact c.args.limit (pos g) above in_limit) (quot_exact c.args.den (pos g) above in_den)
          (greatest_of_parts row _ g gcd c.common_divisor-common.ensures.greatest);
    })
