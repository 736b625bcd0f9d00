use Rattle.std.proofs.lemmas.Cmp.{int_ranked}
use Rattle.fraction128.proofs.Products.{wide_read}
use Rattle.fraction128.proofs.OrderLemmas.{by_value_of, order_of}
use Rattle.fraction128.proofs.Frac.cmp.Goals as goal

pub returns-clause-by_value : goal.returns-clause-by_value
returns-clause-by_value c =
    let compared =
    rw (wide_read c.cross.result c.cross.ensures.small, wide_read c.cross-2.result c.cross-2.ensures.small) at
    c.cmp.ensures in
    by_value_of c.args.self c.args.other c.cross.result c.cross-2.result _ c.cross.ensures.left c.cross.ensures.right
    c.cross.ensures.value c.cross-2.ensures.value (int_ranked _ _ _ compared)

pub returns-clause-order : goal.returns-clause-order
returns-clause-order c =
    let compared = rw (
      wide_read c.cross.result c.cross.ensures.small,
      wide_read c.cross-2.result c.cross-2.ensures.small,
      c.cross.ensures.value,
      c.cross-2.ensures.value,
    ) at c.cmp.ensures in
    order_of c.args.self c.args.other _ c.cross.ensures.left c.cross.ensures.right compared
