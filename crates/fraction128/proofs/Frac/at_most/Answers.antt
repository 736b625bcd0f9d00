use Rattle.fraction128.proofs.Products.{wide_read}
use Rattle.fraction128.proofs.OrderLemmas.{at_most_is}
use Rattle.fraction128.proofs.Frac.at_most.Goals as goal

pub returns : goal.returns
returns c =
    rw (wide_read c.cross.result c.cross.ensures.small, wide_read c.cross-2.result c.cross-2.ensures.small)
    (at_most_is c.args.self c.args.other c.cross.result c.cross-2.result c.cross.ensures.value c.cross-2.ensures.value)
