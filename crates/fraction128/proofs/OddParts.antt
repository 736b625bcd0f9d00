-- The steps of the greatest common divisor by shifts.
use Rattle.std.proofs.Common.{◌≡◌, ℕ, ◌-◌, ◌*◌, ◌/◌, ◌%◌, ◌^◌, ◌<◌, ◌≤◌, inl, inr, min, max, ap, ◌∙◌, sym, subst, arith}
use Rattle.std.specs.Int.{IsGcd, trailing_zeros, w64, ◌∣◌}
use Rattle.std.proofs.lemmas.Bool.{cases_lt}
use Rattle.std.proofs.lemmas.Nat.Bits.{bit_at-trailing_zeros}
use Rattle.std.proofs.lemmas.Nat.Gcd.{IsGcd-swap, IsGcd-from_sub}
use Rattle.std.proofs.Math.Nat.{dvd_refl, le_of_dvd, mod-eq_of_lt}
use Rattle.number_laws.proofs.Halves.{whole_power, gcd_of_doubled, gcd_of_odd_parts}
use Rattle.fraction128.specs.LowestTerms.{IsOddPart}

pub odd_part_of : (n : ℕ) → 0 < n → n < 2 ^ 64 → IsOddPart n (n / 2 ^ trailing_zeros w64 n) (trailing_zeros w64 n)
odd_part_of n above fits =
    let bits = bit_at-trailing_zeros w64 n above fits in
    record { whole = whole_power n (trailing_zeros w64 n) bits.2; odd = bits.1 }

-- the lesser of two odd numbers is odd
pub lesser_odd : (x y less : ℕ) → less ≡ min x y → x % 2 ≡ 1 → y % 2 ≡ 1 → less % 2 ≡ 1
lesser_odd x y less is odd_x odd_y =
    elim (cases_lt x y) [
      | inl lt ↦ let same : less ≡ x = omega (arith, is, lt) in ap (λ n. n % 2) same ∙ odd_x
      | inr le ↦ let same : less ≡ y = omega (arith, is, le) in ap (λ n. n % 2) same ∙ odd_y
    ]

-- one step: the lesser, and the odd part of what they differ by
pub odd_step : (x y less most m k g : ℕ) → less ≡ min x y → most ≡ max x y → most - less ≡ m * 2 ^ k → x % 2 ≡ 1
    → y % 2 ≡ 1 → IsGcd less m g → IsGcd x y g
odd_step x y less most m k g is_less is_most gap odd_x odd_y h =
    elim (cases_lt x y) [
      | inl lt ↦
          let same : less ≡ x = omega (arith, is_less, lt) in
          let apart : m * 2 ^ k ≡ y - x = sym gap ∙ omega (arith, is_less, is_most, lt) in
          let inner : IsGcd m x g = IsGcd-swap x m g (subst (λ (n : ℕ). IsGcd n m g) same h) in
          let whole : IsGcd (y - x) x g = subst (λ (n : ℕ). IsGcd n x g) apart (gcd_of_doubled m x g k odd_x inner) in
          IsGcd-swap y x g (IsGcd-from_sub y x g (omega (arith, lt)) whole)
      | inr le ↦
          let same : less ≡ y = omega (arith, is_less, le) in
          let apart : m * 2 ^ k ≡ x - y = sym gap ∙ omega (arith, is_less, is_most, le) in
          let inner : IsGcd m y g = IsGcd-swap y m g (subst (λ (n : ℕ). IsGcd n m g) same h) in
          let whole : IsGcd (x - y) y g = subst (λ (n : ℕ). IsGcd n y g) apart (gcd_of_doubled m y g k odd_y inner) in
          IsGcd-from_sub x y g le whole
    ]

pub gcd_of_same : (x y : ℕ) → x ≡ y → IsGcd x y x
gcd_of_same x y e = (dvd_refl x, subst (λ (n : ℕ). x ∣ n) e (dvd_refl x), λ d p q. p)

-- the shared factors of 2 are put back, and the sum of it fits 64 bits
pub gcd_put_back : (a b x y g i j least : ℕ) → 0 < a → a < 2 ^ 64 → IsOddPart a x i → IsOddPart b y j → least ≡ min i j
    → IsGcd x y g → IsGcd a b (g * 2 ^ least % 2 ^ 64)
gcd_put_back a b x y g i j least above fits pa pb is h =
    let both : IsGcd (x * 2 ^ i) (y * 2 ^ j) (g * 2 ^ min i j) = gcd_of_odd_parts x y g i j pa.odd pb.odd h in
    let there : IsGcd a b (g * 2 ^ least) = rw (pa.whole, pb.whole, is) both in
    let small : g * 2 ^ least ≤ a = le_of_dvd above there.0 in
    rw (mod-eq_of_lt (below (g * 2 ^ least) a small fits)) there
  where
    below : (m n : ℕ) → m ≤ n → n < 2 ^ 64 → m < 2 ^ 64
    below m n le lt = omega arith
