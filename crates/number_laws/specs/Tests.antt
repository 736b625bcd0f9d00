-- Tests of the whole numbers below a bound: how many pass, whether all do, whether one does, and which is the first that does.
use Rattle.std.specs.Prelude.{◌≡◌, refl, ℕ, zero, suc, Bool, true, false, ◌&&◌, ◌||◌, nat_lt, if◌then◌else◌, Option, None, Some}
use Rattle.number_laws.specs.Sums.{sum_below, flag}

-- How many numbers below n pass the test p?
abbrev pub count_below : ℕ → (ℕ → Bool) → ℕ
count_below n p = sum_below n (λ k. flag (p k))

-- Does each number below n pass p?
abbrev pub all_below : ℕ → (ℕ → Bool) → Bool
all_below zero p = true
all_below (suc n) p = all_below n p && p n

-- Does some number below n pass p?
abbrev pub any_below : ℕ → (ℕ → Bool) → Bool
any_below zero p = false
any_below (suc n) p = any_below n p || p n

-- The least number below n that passes p. It is n if there is none.
abbrev pub first_below : ℕ → (ℕ → Bool) → ℕ
first_below zero p = 0
first_below (suc n) p = if nat_lt (first_below n p) n || p n then first_below n p else suc n

-- The least number below n that passes p, if there is one.
abbrev pub found_below : ℕ → (ℕ → Bool) → Option ℕ
found_below n p = if nat_lt (first_below n p) n then Some (first_below n p) else None

pub two_of_nine : count_below 9 (λ k. nat_lt k 2) ≡ 2
two_of_nine = refl

pub not_all_below_nine : all_below 9 (λ k. nat_lt k 8) ≡ false
not_all_below_nine = refl

pub one_below_nine : any_below 9 (λ k. nat_lt 7 k) ≡ true
one_below_nine = refl

pub six_is_first : first_below 9 (λ k. nat_lt 5 k) ≡ 6
six_is_first = refl

pub none_is_first : first_below 4 (λ k. nat_lt 5 k) ≡ 4
none_is_first = refl

pub six_is_found : found_below 9 (λ k. nat_lt 5 k) ≡ Some 6
six_is_found = refl

pub none_is_found : found_below 4 (λ k. nat_lt 5 k) ≡ None
none_is_found = refl
