-- Lowest terms of the size of a fraction.
use Rattle.std.specs.Prelude.{◌≡◌, ℕ, zero, suc, ◌*◌, ◌%◌, ◌^◌, ◌<◌, ℤ, pos, negsuc}
use Rattle.number_laws.specs.Divisors.{IsCoprime}

-- Is a / b the value num / den in lowest terms?
pub record IsLowest (num den a b : ℕ) : Type 0 where
  pub same : a * den ≡ num * b
  pub positive : 0 < b
  pub lowest : IsCoprime a b

-- a size with the sign of a number
abbrev pub signed : ℤ → ℕ → ℤ
signed (pos k) m = pos m
signed (negsuc k) zero = pos 0
signed (negsuc k) (suc m) = negsuc m

-- Is m what is left of n without its k factors of 2?
pub record IsOddPart (n m k : ℕ) : Type 0 where
  pub whole : n ≡ m * 2 ^ k
  pub odd : m % 2 ≡ 1
