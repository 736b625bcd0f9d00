use Rattle.std.proofs.Common.{◌≡◌, pos, unsigned_abs, ◌∙◌, ap, arith, inl, inr, rules, w64, to_z, of_z}
use Rattle.std.specs.Int.{w128}
use Rattle.std.proofs.lemmas.Int.{to_z-of_z, to_z_pos}
use Rattle.fraction128.specs.LowestTerms.{signed}
use Rattle.fraction128.proofs.Reduced.{no_form, form_of_lowest}
use Rattle.fraction128.proofs.Frac.ratio.Goals as goal

pub returns-then-top-gt-MOST : goal.returns-then-top-gt-MOST
returns-then-top-gt-MOST c =
    let num_size : c.unsigned_abs.result ≡ unsigned_abs c.args.num =
    c.unsigned_abs.ensures.value ∙ ap unsigned_abs (to_z-of_z w128 c.args.num c.ranges.num) in
    let den_size : c.unsigned_abs-2.result ≡ unsigned_abs c.args.den =
    c.unsigned_abs-2.ensures.value ∙ ap unsigned_abs (to_z-of_z w128 c.args.den c.ranges.den) in
    let lowest = rw (num_size, den_size) at c.reduce-top.ensures in
    no_form _ _ _ _ c.requires lowest
    (λ small. elim c.then-top-gt-MOST.either [ inl h ↦ absurd (omega arith) | inr h ↦ absurd (omega arith) ])

pub of_parts-requires : goal.of_parts-requires
of_parts-requires c =
    let num_size : c.unsigned_abs.result ≡ unsigned_abs c.args.num =
    c.unsigned_abs.ensures.value ∙ ap unsigned_abs (to_z-of_z w128 c.args.num c.ranges.num) in
    let den_size : c.unsigned_abs-2.result ≡ unsigned_abs c.args.den =
    c.unsigned_abs-2.ensures.value ∙ ap unsigned_abs (to_z-of_z w128 c.args.den c.ranges.den) in
    let lowest = rw (num_size, den_size) at c.reduce-top.ensures in
    let top : to_z w64 (of_z w64 c.with_sign_of.result) ≡ signed c.args.num c.reduce-top.result.0 =
    to_z-of_z w64 _ (search rules)
    ∙ (c.with_sign_of.ensures ∙ ap (λ z. signed z c.reduce-top.result.0) (to_z-of_z w128 c.args.num c.ranges.num)) in
    let bottom : to_z w64 c.reduce-top.result.1 ≡ pos c.reduce-top.result.1 = to_z_pos w64 _ (omega arith) in
    rw (top, bottom) (form_of_lowest c.args.num c.args.den _ _ lowest (omega arith) (omega arith))
