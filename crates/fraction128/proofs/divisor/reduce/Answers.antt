use Rattle.fraction128.proofs.Reduced.{gcd_positive, reduced, reduced_by_one, whole_is_lowest}
use Rattle.fraction128.proofs.divisor.reduce.Goals as goal

pub nonzero_div-result : goal.nonzero_div-result
nonzero_div-result c = gcd_positive _ _ _ c.requires c.gcd-common.ensures

pub nonzero_div-result-2 : goal.nonzero_div-result-2
nonzero_div-result-2 c = gcd_positive _ _ _ c.requires c.gcd-common.ensures

pub returns : goal.returns
returns c = reduced _ _ _ c.requires c.gcd-common.ensures

pub returns-then-common-eq1 : goal.returns-then-common-eq1
returns-then-common-eq1 c = reduced_by_one _ _ _ c.requires c.if-common-eq1.true c.gcd-common.ensures

pub returns-then-den-eq1 : goal.returns-then-den-eq1
returns-then-den-eq1 c = whole_is_lowest _ _ c.if-den-eq1.true
