use Rattle.fraction128.proofs.Products.{wide_read, sum_read}
use Rattle.fraction128.proofs.GivesLemmas.{gives_sum}
use Rattle.fraction128.proofs.Frac.add.Goals as goal

pub ratio-requires : goal.ratio-requires
ratio-requires c = rw (wide_read _ c.dens.ensures.small) c.dens.ensures.positive

pub returns : goal.returns
returns c =
    gives_sum _ c.args.self c.args.other
    (rw (
      sum_read c.cross.result c.cross-2.result c.cross.ensures.small c.cross-2.ensures.small,
      wide_read c.dens.result c.dens.ensures.small,
      c.cross.ensures.value,
      c.cross-2.ensures.value,
      c.dens.ensures.value,
    ) at c.ratio.ensures)
