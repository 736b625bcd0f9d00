use Rattle.fraction128.proofs.Forms.{form_of_negated}
use Rattle.fraction128.proofs.Products.{own_part_read, negated_part_read}
use Rattle.fraction128.proofs.Frac.neg.Goals as goal

pub of_parts-requires : goal.of_parts-requires
of_parts-requires c =
    rw (
      negated_part_read c.self.inside.num c.self.invariant.small_num,
      own_part_read c.self.inside.den c.self.invariant.small_den,
    ) (form_of_negated c.self.inside.num c.self.inside.den c.self.invariant)
