use Rattle.std.proofs.Common.{◌≡◌, pos, false}
use lib.Signed.{lt_z}
use Rattle.fraction128.proofs.Products.{wide_read, negated_read, negative_product}
use Rattle.fraction128.proofs.GivesLemmas.{gives_quotient, gives_turned}
use Rattle.fraction128.proofs.Frac.div.Goals as goal

pub ratio-requires-else-bottom-gt0 : goal.ratio-requires-else-bottom-gt0
ratio-requires-else-bottom-gt0 c =
    let x = c.cross-bottom.result in
    let not_above : lt_z (pos 0) x ≡ false = rw (wide_read x c.cross-bottom.ensures.small) at c.if-bottom-gt0.false in
    rw (negated_read x c.cross-bottom.ensures.small) (negative_product c.args.other.num c.args.self.den x c.requires
    c.cross-bottom.ensures.right.positive c.cross-bottom.ensures.value not_above)

pub returns-then-bottom-gt0 : goal.returns-then-bottom-gt0
returns-then-bottom-gt0 c =
    gives_quotient _ c.args.self c.args.other
    (rw (
      wide_read c.cross-top.result c.cross-top.ensures.small,
      wide_read c.cross-bottom.result c.cross-bottom.ensures.small,
      c.cross-top.ensures.value,
      c.cross-bottom.ensures.value,
    ) at c.ratio.ensures)

pub returns-else-bottom-gt0 : goal.returns-else-bottom-gt0
returns-else-bottom-gt0 c =
    gives_quotient _ c.args.self c.args.other
    (gives_turned _ _ _
    (rw (
      negated_read c.cross-top.result c.cross-top.ensures.small,
      negated_read c.cross-bottom.result c.cross-bottom.ensures.small,
      c.cross-top.ensures.value,
      c.cross-bottom.ensures.value,
    ) at c.ratio-else-bottom-gt0.ensures))
