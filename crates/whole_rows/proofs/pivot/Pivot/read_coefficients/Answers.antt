use Rattle.std.proofs.Common.{◌≡◌, pos, to_z, w64, refl, arith}
use Rattle.std.proofs.lemmas.Int.{to_z_pos}
use Rattle.std.proofs.lemmas.Result.{IfOk-weaker}
use Rattle.whole_rows.proofs.Coefficients.{first_bounded, pivot_of_coefficients}
use Rattle.whole_rows.proofs.pivot.Pivot.read_coefficients.Goals as goal

pub invariant_of-self : goal.invariant_of-self
invariant_of-self c =
    let limit_is : to_z w64 c.args.limit ≡ pos c.args.limit = to_z_pos w64 c.args.limit (omega (arith, c.requires.limit)) in
    first_bounded c.requires.listed.0 c.args.coefficients.now c.args.limit _ _ c.requires.listed.1 c.requires.small c.requires.limit
    c.list_coefficients-listed.ensures.first limit_is refl (rw c.deref.ensures.value at c.greatest_listed-self-inside.ensures)

pub returns : goal.returns
returns c =
    let limit_is : to_z w64 c.args.limit ≡ pos c.args.limit = to_z_pos w64 c.args.limit (omega (arith, c.requires.limit)) in
    IfOk-weaker c.list_coefficients-listed.result _ _
    (λ u first n listed. pivot_of_coefficients n c.args.coefficients.now c.args.limit _ listed first limit_is refl)
    c.list_coefficients-listed.ensures.all
