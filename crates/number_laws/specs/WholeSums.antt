-- Sums of integers, over the natural numbers below a bound.
use Rattle.std.specs.Prelude.{◌≡◌, refl, ℕ, zero, suc, ℤ, pos, negsuc, ◌+ℤ◌, nat_eq, if◌then◌else◌}

-- The sum f 0 + f 1 + .. + f (n - 1), of integers.
abbrev pub total_below : ℕ → (ℕ → ℤ) → ℤ
total_below zero f = pos 0
total_below (suc n) f = total_below n f +ℤ f n

-- x at the place i, and zero at every other place.
abbrev pub only_at : ℕ → ℤ → ℕ → ℤ
only_at i x k = if nat_eq k i then x else pos 0

pub five_less_two : total_below 2 (λ k. if nat_eq k 0 then pos 5 else negsuc 1) ≡ pos 3
five_less_two = refl
