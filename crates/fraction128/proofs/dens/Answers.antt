use Rattle.fraction128.proofs.Products.{positive_product, product_read}
use Rattle.fraction128.proofs.dens.Goals as goal

pub returns-clause-positive : goal.returns-clause-positive
returns-clause-positive c =
    rw (product_read c.a.inside.den c.b.inside.den c.a.invariant.small_den c.b.invariant.small_den)
    (positive_product c.a.inside.den c.b.inside.den c.a.invariant.positive c.b.invariant.positive)
