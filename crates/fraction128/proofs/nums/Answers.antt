use Rattle.fraction128.proofs.Products.{small_product, product_read}
use Rattle.fraction128.proofs.nums.Goals as goal

pub returns-clause-small : goal.returns-clause-small
returns-clause-small c =
    rw (product_read c.a.inside.num c.b.inside.num c.a.invariant.small_num c.b.invariant.small_num)
    (small_product c.a.inside.num c.b.inside.num c.a.invariant.small_num c.b.invariant.small_num)
