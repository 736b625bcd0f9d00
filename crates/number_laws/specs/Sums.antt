-- Sums of natural numbers over the whole numbers below a bound. Ticks, jobs, tasks, columns and rows are all numbered from 0, so this one
-- sum is enough for each of them.
use Rattle.std.specs.Prelude.{◌≡◌, refl, ℕ, zero, suc, ◌+◌, ◌*◌, Bool, true, false, List, [], ◌∷◌, ◌++◌}

-- The sum f 0 + f 1 + .. + f (n - 1).
abbrev pub sum_below : ℕ → (ℕ → ℕ) → ℕ
sum_below zero f = 0
sum_below (suc n) f = sum_below n f + f n

pub squares_below_four : sum_below 4 (λ k. k * k) ≡ 14
squares_below_four = refl

-- 1 for a test that passes, and 0 for one that fails.
abbrev pub flag : Bool → ℕ
flag true = 1
flag false = 0

-- n if the test passes, and else 0.
abbrev pub only_if : Bool → ℕ → ℕ
only_if true n = n
only_if false n = 0

-- The lists of 0, 1, .., n - 1, one after another.
abbrev pub collect_below : {A : Type 0} → ℕ → (ℕ → List A) → List A
collect_below zero f = []
collect_below (suc n) f = collect_below n f ++ f n

pub pairs_below_two : collect_below 2 (λ k. k ∷ (k + 5) ∷ []) ≡ 0 ∷ 5 ∷ 1 ∷ 6 ∷ []
pairs_below_two = refl
