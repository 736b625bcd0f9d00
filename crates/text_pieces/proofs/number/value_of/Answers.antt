use Rattle.std.proofs.Common.{◌≡◌, ◌<◌, ◌≤◌, ◌-◌, ◌^◌, min, length, sym, ap, ◌∙◌, arith}
use Rattle.std.proofs.lemmas.List.{drop_all}
use Rattle.text_pieces.specs.Numbers.{value_after}
use Rattle.text_pieces.proofs.Numbers.{one_more}
use Rattle.text_pieces.proofs.number.value_of.Goals as goal

pub loop-digit-preserved : goal.loop-digit-preserved
loop-digit-preserved c =
    let i = c.loop-digit.digit-index in
    let ds = c.args.digits.now in
    let here : i < length ds = omega arith in
    record {
      small = omega (arith, c.saturating_add-value.ensures);
      left = one_more (2 ^ 128 - 1) c.loop-digit.value c.saturating_add-value.result ds i here
          (omega (arith, c.saturating_add-value.ensures, c.saturating_mul.ensures, c.saturating_sub.ensures)) ∙ c.loop-digit.invariant.left;
    }

pub returns : goal.returns
returns c =
    let i = c.loop-digit.digit-index in
    let ds = c.args.digits.now in
    let there : length ds ≤ i = omega arith in
    let small = c.loop-digit.invariant.small in
    let value : min c.loop-digit.value (2 ^ 128 - 1) ≡ c.loop-digit.value = omega arith in
    sym value ∙ ap (λ xs. min (value_after c.loop-digit.value xs) (2 ^ 128 - 1)) (sym (drop_all i ds there)) ∙ c.loop-digit.invariant.left
