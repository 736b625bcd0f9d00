use Rattle.fraction128.proofs.Products.{wide_read}
use Rattle.fraction128.proofs.GivesLemmas.{gives_product}
use Rattle.fraction128.proofs.Frac.mul.Goals as goal

pub ratio-requires : goal.ratio-requires
ratio-requires c = rw (wide_read _ c.dens.ensures.small) c.dens.ensures.positive

pub returns : goal.returns
returns c =
    gives_product _ c.args.self c.args.other
    (rw (
      wide_read c.nums.result c.nums.ensures.small,
      wide_read c.dens.result c.dens.ensures.small,
      c.nums.ensures.value,
      c.dens.ensures.value,
    ) at c.ratio.ensures)
