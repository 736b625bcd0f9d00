use Rattle.std.proofs.Common.{◌≡◌, ◌∙◌, ℕ, ◌+◌, ◌*◌, ◌/◌, min, slice_index, ap}
use Rattle.program_form.specs.Duals.{dual_total}
use Rattle.dual_check.proofs.CappedSums.{capped_quotient}
use Rattle.dual_check.proofs.sums.value_to.Goals as goal

pub returns : goal.returns
returns c =
    let whole : ℕ = dual_total c.args.program.now (λ r. slice_index c.args.dual.now.num.items r) in
    let den : ℕ = c.args.dual.now.den in
    let capped : c.limit_sum-total.result ≡ min c.product.result whole = rw (c.deref.ensures.value) at c.limit_sum-total.ensures in
    let total : c.limit_sum-total.result ≡ min ((c.args.most + 1) * den) whole = capped ∙ ap (λ n. min n whole) c.product.ensures in
    let over : c.limit_sum-total.result / c.from.result ≡ min ((c.args.most + 1) * den) whole / den =
    ap (λ n. n / c.from.result) total ∙ ap (λ n. min ((c.args.most + 1) * den) whole / n) c.from.ensures in
    over ∙ capped_quotient (c.args.most + 1) den whole c.requires.denominator
