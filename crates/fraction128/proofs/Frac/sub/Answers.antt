use Rattle.fraction128.proofs.Products.{wide_read, difference_read, difference_fits_read}
use Rattle.fraction128.proofs.GivesLemmas.{gives_difference}
use Rattle.fraction128.proofs.Frac.sub.Goals as goal

pub overflow_sub-cross : goal.overflow_sub-cross
overflow_sub-cross c = difference_fits_read c.cross.result c.cross-2.result c.cross.ensures.small c.cross-2.ensures.small

pub ratio-requires : goal.ratio-requires
ratio-requires c = rw (wide_read _ c.dens.ensures.small) c.dens.ensures.positive

pub returns : goal.returns
returns c =
    gives_difference _ c.args.self c.args.other
    (rw (
      difference_read c.cross.result c.cross-2.result c.cross.ensures.small c.cross-2.ensures.small,
      wide_read c.dens.result c.dens.ensures.small,
      c.cross.ensures.value,
      c.cross-2.ensures.value,
      c.dens.ensures.value,
    ) at c.ratio.ensures)
