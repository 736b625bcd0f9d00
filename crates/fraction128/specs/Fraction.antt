-- What a contract sees of a `Frac`: an exact rational value as a pair of whole numbers. And when one such pair is equal to another, at most
-- another, or the sum or the product of others. All of it is said by cross products, without division. The products are always written in
-- one way: first the value that is asked for, then the denominators of what it is made of.
use Rattle.std.specs.Prelude.{◌≡◌, ◌<◌, ◌^◌, ℤ, pos, ◌+ℤ◌, ◌-ℤ◌, ◌*ℤ◌, ◌≤ℤ◌, ◌<ℤ◌, unsigned_abs}
use Rattle.number_laws.specs.Divisors.{IsCoprime}

-- num / den
pub record Fraction : Type 0 where
  pub num : ℤ
  pub den : ℤ

-- n / d
abbrev pub over : ℤ → ℤ → Fraction
over n d = record { num = n; den = d }

-- n / 1
abbrev pub whole : ℤ → Fraction
whole n = over n (pos 1)

-- Can a `Frac` hold it: a positive denominator, both parts below 2^63 in size, no common divisor above 1?
pub record IsForm (f : Fraction) : Type 0 where
  pub positive : pos 0 <ℤ f.den
  pub small_num : unsigned_abs f.num < 2 ^ 63
  pub small_den : unsigned_abs f.den < 2 ^ 63
  pub lowest : IsCoprime (unsigned_abs f.num) (unsigned_abs f.den)

-- Has a the value c?
pub record IsSame (a c : Fraction) : Type 0 where
  pub same : c.num *ℤ a.den ≡ a.num *ℤ c.den

-- Is c the value of a + b?
pub record IsSum (a b c : Fraction) : Type 0 where
  pub same : c.num *ℤ (a.den *ℤ b.den) ≡ ((a.num *ℤ b.den) +ℤ (b.num *ℤ a.den)) *ℤ c.den

-- Is c the value of a - b?
pub record IsDifference (a b c : Fraction) : Type 0 where
  pub same : c.num *ℤ (a.den *ℤ b.den) ≡ ((a.num *ℤ b.den) -ℤ (b.num *ℤ a.den)) *ℤ c.den

-- Is c the value of a * b?
pub record IsProduct (a b c : Fraction) : Type 0 where
  pub same : c.num *ℤ (a.den *ℤ b.den) ≡ (a.num *ℤ b.num) *ℤ c.den

-- Is c the value of a / b, for a b that isn't 0?
pub record IsQuotient (a b c : Fraction) : Type 0 where
  pub same : c.num *ℤ (a.den *ℤ b.num) ≡ (a.num *ℤ b.den) *ℤ c.den

-- Is a at most b?
pub record IsAtMost (a b : Fraction) : Type 0 where
  pub le : (a.num *ℤ b.den) ≤ℤ (b.num *ℤ a.den)

-- Is a below b?
pub record IsBelow (a b : Fraction) : Type 0 where
  pub lt : (a.num *ℤ b.den) <ℤ (b.num *ℤ a.den)

-- Is n the greatest whole number that isn't above f?
pub record IsFloor (f : Fraction) (n : ℤ) : Type 0 where
  pub within : IsAtMost (whole n) f
  pub greatest : (m : ℤ) → IsAtMost (whole m) f → m ≤ℤ n
