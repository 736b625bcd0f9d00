use Rattle.std.proofs.Common.{◌≡◌, FitsSigned, rules, w64}
use Rattle.std.specs.Int.{int_div_euclid}
use Rattle.std.proofs.lemmas.Int.{to_z-of_z}
use Rattle.fraction128.specs.FracView.{frac_view}
use Rattle.fraction128.proofs.Products.{own_part_read}
use Rattle.fraction128.proofs.Forms.{floor_of}
use Rattle.fraction128.proofs.Frac.floor.Goals as goal

pub returns : goal.returns
returns c =
    let fits : FitsSigned w64 c.div_euclid.result = search rules in
    let part : c.div_euclid.result ≡ int_div_euclid c.self.inside.num c.self.inside.den = rw (
      own_part_read c.self.inside.num c.self.invariant.small_num,
      own_part_read c.self.inside.den c.self.invariant.small_den,
    ) at c.div_euclid.ensures in
    rw (to_z-of_z w64 c.div_euclid.result fits, part, ← c.self.view_is) (floor_of (frac_view c.self.inside) c.self.invariant)
