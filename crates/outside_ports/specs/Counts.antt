-- Counts in 64 bits that stay at the last value.
use Rattle.std.specs.Prelude.{ℕ, ◌+◌, ◌-◌, ◌^◌, ◌≤◌, ◌≡◌, min, refl}

-- What is a count after one more?
abbrev pub counted : ℕ → ℕ
counted count = min (count + 1) (2 ^ 64 - 1)

-- Did the count rise, or is it at the last value?
abbrev pub Rose : ℕ → ℕ → Type 0
Rose before now = counted before ≤ now

-- a count rises by one, and stays at its last value
pub counted-example : counted 4 ≡ 5
counted-example = refl

pub counted-last : counted (2 ^ 64 - 1) ≡ 2 ^ 64 - 1
counted-last = refl
