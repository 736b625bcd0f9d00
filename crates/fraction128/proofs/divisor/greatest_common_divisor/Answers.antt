use Rattle.std.proofs.Common.{arith}
use Rattle.fraction128.proofs.OddParts.{gcd_put_back}
use Rattle.fraction128.proofs.divisor.greatest_common_divisor.Goals as goal

pub returns : goal.returns
returns c =
    gcd_put_back c.args.a c.args.b c.odd_part.result c.odd_part-2.result c.gcd_odd-common.result _ _ c.min.result
    (omega arith) (omega arith) c.odd_part.ensures c.odd_part-2.ensures c.min.ensures c.gcd_odd-common.ensures
