-- Odd numbers, and what taking factors of 2 off does to a greatest common divisor.
use Rattle.std.proofs.Common.{◌≡◌, ℕ, zero, suc, ◌+◌, ◌-◌, ◌*◌, ◌/◌, ◌%◌, ◌^◌, ◌<◌, ◌≤◌, ap, ◌∙◌, sym, subst, refl}
use Rattle.std.proofs.Common.{arith, ◌⊎◌, inl, inr, min}
use Rattle.std.specs.Int.{IsGcd, ◌∣◌}
use Rattle.std.proofs.lemmas.Nat.Gcd.{IsGcd-swap, same_from_IsGcd}
use Rattle.std.proofs.Math.Nat.{dvd_refl, dvd_trans, one-dvd, le_of_dvd, mod-eq-zero_of_dvd, dvd_of_mod-eq-zero}
use Rattle.std.proofs.Math.Nat.{dvd-mul_right_of_dvd, mul_comm, pow-suc, mod-lt, div-div-eq-div-mul, div-add-mod}
use Rattle.std.proofs.Math.Nat.{div-one, mul_assoc}
use Rattle.std.proofs.lemmas.Nat.{pow-add}
use Rattle.std.proofs.lemmas.Bool.{cases_lt}
use Rattle.number_laws.proofs.Divisors.{euclid, gcd_times}

-- a divisor of an odd number is odd
pub odd_divisor : (e d : ℕ) → e ∣ d → d % 2 ≡ 1 → e % 2 ≡ 1
odd_divisor e d h odd =
    let low : e % 2 < 2 = mod-lt e (omega arith) in
    elim (cases_odd (e % 2) low) [ inl even ↦ absurd (clash even) | inr is ↦ is ]
  where
    cases_odd : (r : ℕ) → r < 2 → (r ≡ 0) ⊎ (r ≡ 1)
    cases_odd zero p = inl refl
    cases_odd (suc zero) p = inr refl
    cases_odd (suc (suc n)) p = absurd (omega arith)

    clash : e % 2 ≡ 0 → ⊥
    clash even =
        let there : d % 2 ≡ 0 = mod-eq-zero_of_dvd 2 (dvd_trans 2 (dvd_of_mod-eq-zero 2 even) h) in
        omega (arith, odd, there)

-- an odd number has no divisor above 1 in common with 2
odd_apart_from_two : (d : ℕ) → d % 2 ≡ 1 → IsGcd d 2 1
odd_apart_from_two d odd = (one-dvd d, one-dvd 2, λ e p q. only_one e (odd_divisor e d p odd) q)
  where
    small : (e : ℕ) → e ≤ 2 → e % 2 ≡ 1 → e ≡ 1
    small zero le is = absurd (omega (arith, is))
    small (suc zero) le is = refl
    small (suc (suc zero)) le is = absurd (omega (arith, is))
    small (suc (suc (suc n))) le is = absurd (omega arith)

    only_one : (e : ℕ) → e % 2 ≡ 1 → e ∣ 2 → e ∣ 1
    only_one e is q = subst (λ (n : ℕ). n ∣ 1) (sym (small e (le_of_dvd (omega arith) q) is)) (dvd_refl 1)

-- nor with a power of 2
pub odd_apart_from_power : (k d : ℕ) → d % 2 ≡ 1 → IsGcd d (2 ^ k) 1
odd_apart_from_power zero d odd = (one-dvd d, one-dvd (2 ^ 0), λ e p q. q)
odd_apart_from_power (suc k) d odd = (
  one-dvd d,
  one-dvd (2 ^ suc k),
  λ e p q.
      let power : 2 ^ suc k ≡ 2 * 2 ^ k = pow-suc 2 k ∙ mul_comm (2 ^ k) 2 in
      let smaller : e ∣ 2 ^ k = euclid e 2 (2 ^ k) (odd_apart_from_two e (odd_divisor e d p odd)) (rw power at q) in
      (odd_apart_from_power k d odd).2 e p smaller,
)

-- with an odd number, factors of 2 add nothing to the greatest common divisor
pub gcd_of_doubled : (m y g k : ℕ) → y % 2 ≡ 1 → IsGcd m y g → IsGcd (m * 2 ^ k) y g
gcd_of_doubled m y g k odd h = (
  dvd-mul_right_of_dvd g h.0 (2 ^ k),
  h.1,
  λ d p q.
      let apart : IsGcd d (2 ^ k) 1 = odd_apart_from_power k d (odd_divisor d y q odd) in
      h.2 d (euclid d (2 ^ k) m apart (rw mul_comm p)) q,
)

-- what the lowest binary digits say, where they are 0: the number is a multiple of that power of 2
pub whole_power : (n t : ℕ) → ((i : ℕ) → i < t → n / 2 ^ i % 2 ≡ 0) → n ≡ n / 2 ^ t * 2 ^ t
whole_power n zero low = omega (arith, div-one n)
whole_power n (suc t) low =
    let before : n ≡ n / 2 ^ t * 2 ^ t = whole_power n t (λ i lt. low i (omega arith)) in
    let power : 2 ^ suc t ≡ 2 ^ t * 2 = pow-suc 2 t in
    let halved : n / 2 ^ t / 2 ≡ n / 2 ^ suc t = div-div-eq-div-mul n (2 ^ t) 2 ∙ ap (λ m. n / m) (sym power) in
    let even : 2 * (n / 2 ^ t / 2) ≡ n / 2 ^ t = omega (arith, div-add-mod (n / 2 ^ t) 2, low t (omega arith)) in
    before ∙ (ap (λ m. m * 2 ^ t) (sym even ∙ ap (λ m. 2 * m) halved)
    ∙ (regroup (n / 2 ^ suc t) (2 ^ t) ∙ ap (λ m. n / 2 ^ suc t * m) (sym power)))
  where
    regroup : (x y : ℕ) → 2 * x * y ≡ x * (y * 2)
    regroup x y = omega arith

-- the greatest common divisor of two numbers from that of their odd parts
pub gcd_of_odd_parts : (x y g i j : ℕ) → x % 2 ≡ 1 → y % 2 ≡ 1 → IsGcd x y g → IsGcd (x * 2 ^ i) (y * 2 ^ j) (g * 2 ^ min i j)
gcd_of_odd_parts x y g i j odd_x odd_y h =
    elim (cases_le i j) [
      | inl le ↦
          let least : min i j ≡ i = omega arith in
          let rest : 2 ^ j ≡ 2 ^ (j - i) * 2 ^ i = ap (λ n. 2 ^ n) (split i j le) ∙ pow-add 2 (j - i) i in
          let inner : IsGcd x (y * 2 ^ (j - i)) g =
          IsGcd-swap (y * 2 ^ (j - i)) x g (gcd_of_doubled y x g (j - i) odd_x (IsGcd-swap x y g h)) in
          rw (least, rest, ← mul_assoc) (scaled x (y * 2 ^ (j - i)) g (2 ^ i) (power_above i) inner)
      | inr le ↦
          let least : min i j ≡ j = omega arith in
          let rest : 2 ^ i ≡ 2 ^ (i - j) * 2 ^ j = ap (λ n. 2 ^ n) (split j i le) ∙ pow-add 2 (i - j) j in
          let inner : IsGcd (x * 2 ^ (i - j)) y g = gcd_of_doubled x y g (i - j) odd_y h in
          rw (least, rest, ← mul_assoc) (scaled (x * 2 ^ (i - j)) y g (2 ^ j) (power_above j) inner)
    ]
  where
    cases_le : (m n : ℕ) → (m ≤ n) ⊎ (n ≤ m)
    cases_le m n = elim (cases_lt m n) [ inl lt ↦ inl (omega (arith, lt)) | inr le ↦ inr le ]

    split : (m n : ℕ) → m ≤ n → n ≡ n - m + m
    split m n le = omega arith

    power_above : (k : ℕ) → 0 < 2 ^ k
    power_above zero = omega arith
    power_above (suc k) = let before : 0 < 2 ^ k = power_above k in omega (arith, pow-suc 2 k)

    scaled : (m n f c : ℕ) → 0 < c → IsGcd m n f → IsGcd (m * c) (n * c) (f * c)
    scaled m n f c pc k =
        let both : (d : ℕ) × (IsGcd m n d) × (IsGcd (m * c) (n * c) (d * c)) = gcd_times n m n c (omega arith) pc in
        let same : both.0 ≡ f = same_from_IsGcd m n both.0 f both.1 k in
        subst (λ (d : ℕ). IsGcd (m * c) (n * c) (d * c)) same both.2
