-- Sums that stop growing at what they are compared with.
use Rattle.std.proofs.Common.{◌≡◌, ◌∙◌, ℕ, ◌+◌, ◌*◌, ◌/◌, ◌≤◌, ◌<◌, min, sym, ap, arith, inl, inr}
use Rattle.std.proofs.lemmas.Bool.{cases_lt}
use Rattle.std.proofs.Math.Nat.{div-lt_iff_lt-mul, le-div_iff_mul-le}

-- The quotient of a sum that went no further than k times the divisor.
pub capped_quotient : (k d whole : ℕ) → 1 ≤ d → min (k * d) whole / d ≡ min k (whole / d)
capped_quotient k d whole positive = elim (cases_lt whole (k * d)) [
  | inl less ↦
      let all : min (k * d) whole ≡ whole = omega (arith, less) in
      let below : whole / d < k = (div-lt_iff_lt-mul {k = d} {x = whole} {y = k} positive).1 less in
      let whole_part : min k (whole / d) ≡ whole / d = omega (arith, below) in
      ap (λ n. n / d) all ∙ sym whole_part
  | inr more ↦
      let most : min (k * d) whole ≡ k * d = omega (arith, more) in
      let least : k ≤ whole / d = (le-div_iff_mul-le {k = d} {x = k} {y = whole} positive).1 more in
      let lower : k ≤ (k * d) / d = (le-div_iff_mul-le {k = d} {x = k} {y = k * d} positive).1 (omega arith) in
      let upper : (k * d) / d < k + 1 = (div-lt_iff_lt-mul {k = d} {x = k * d} {y = k + 1} positive).1 (omega (arith, positive)) in
      let quotient : (k * d) / d ≡ k = omega (arith, lower, upper) in
      let kept : min k (whole / d) ≡ k = omega (arith, least) in
      ap (λ n. n / d) most ∙ quotient ∙ sym kept
]
