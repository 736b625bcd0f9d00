-- Common divisors and common multiples of naturals: Euclid's lemma, and the least common multiple.
use Rattle.std.proofs.Common.{◌≡◌, ℕ, zero, suc, ◌+◌, ◌*◌, ◌/◌, ◌%◌, ◌<◌, ◌≤◌, ap, ◌∙◌, sym, subst, refl, arith}
use Rattle.std.proofs.lemmas.Nat.Gcd.{IsGcd-swap, IsGcd-from_zero, IsGcd-from_mod, same_from_IsGcd}
use Rattle.std.proofs.Math.Nat.{dvd_refl, eq-one_of_dvd-one, dvd_antisymm, div-add-mod', eq_of_mul-eq-mul_right}
use Rattle.std.proofs.Math.Nat.{mul-add-mod_self_right, mul-lt-mul_of_pos_right, mod-eq_of_lt, mod-lt, one-mul}
use Rattle.std.proofs.Math.Nat.{dvd-mul_right, dvd-mul_left, div-mul_cancel, dvd_of_mul-dvd-mul_right}
use Rattle.std.proofs.Math.Nat.{mul-dvd-mul_right, one-dvd, dvd-zero}
use Rattle.std.specs.Int.{IsGcd, ◌∣◌}
use Rattle.number_laws.specs.Divisors.{IsCoprime}

-- a remainder of multiples is the multiple of the remainder
pub times_mod : (a b c : ℕ) → 0 < b → 0 < c → a * c % (b * c) ≡ a % b * c
times_mod a b c pb pc =
    let low : a % b < b = mod-lt a pb in
    let small : a % b * c < b * c = mul-lt-mul_of_pos_right low pc in
    let split : a * c ≡ a / b * (b * c) + a % b * c = omega (arith, ap (λ n. n * c) (div-add-mod' a b)) in
    ap (λ n. n % (b * c)) split ∙ (mul-add-mod_self_right (a / b) (b * c) (a % b * c) ∙ mod-eq_of_lt small)

-- two numbers have a greatest common divisor, and that of their multiples is its multiple
pub gcd_times : (n a b c : ℕ) → b ≤ n → 0 < c → (g : ℕ) × (IsGcd a b g) × (IsGcd (a * c) (b * c) (g * c))
gcd_times n a zero c l pc = (a, IsGcd-from_zero a 0 refl, IsGcd-from_zero (a * c) (0 * c) (omega arith))
gcd_times zero a (suc b) c l pc = absurd (omega arith)
gcd_times (suc n) a (suc b) c l pc =
    let low : a % suc b < suc b = mod-lt a (omega arith) in
    let back : (g : ℕ) × (IsGcd (suc b) (a % suc b) g) × (IsGcd (suc b * c) (a % suc b * c) (g * c)) =
    gcd_times n (suc b) (a % suc b) c (omega arith) pc in (
      back.0,
      IsGcd-from_mod a (suc b) back.0 back.1,
      IsGcd-from_mod (a * c) (suc b * c) (back.0 * c) (rw (times_mod a (suc b) c (omega arith) pc) back.2),
    )

-- Euclid's lemma: what divides a product and has no divisor above 1 in common with one factor divides the other
pub euclid : (d a c : ℕ) → IsGcd d a 1 → d ∣ a * c → d ∣ c
euclid d a zero one h = dvd-zero d
euclid d a (suc c) one h =
    let both : (g : ℕ) × (IsGcd d a g) × (IsGcd (d * suc c) (a * suc c) (g * suc c)) =
    gcd_times a d a (suc c) (omega arith) (omega arith) in
    let e : both.0 ≡ 1 = same_from_IsGcd d a both.0 1 both.1 one in
    rw (e, one-mul) at (both.2.2 d (dvd-mul_right d (suc c)) h)

-- what two numbers leave of their greatest common divisor has none in common above 1
pub parts_apart : (a b g : ℕ) → 0 < g → IsGcd a b g → IsGcd (a / g) (b / g) 1
parts_apart a b g pg h = (
  one-dvd _,
  one-dvd _,
  λ d p q.
      let whole_a : a / g * g ≡ a = div-mul_cancel g h.0 in
      let whole_b : b / g * g ≡ b = div-mul_cancel g h.1 in
      let in_a : d * g ∣ a = subst (λ (n : ℕ). d * g ∣ n) whole_a (mul-dvd-mul_right d p g) in
      let in_b : d * g ∣ b = subst (λ (n : ℕ). d * g ∣ n) whole_b (mul-dvd-mul_right d q g) in
      let in_g : d * g ∣ 1 * g = rw one-mul (h.2 (d * g) in_a in_b) in
      dvd_of_mul-dvd-mul_right d pg in_g,
)

-- what is over the greatest common divisor, times the other, is a least common multiple: it divides each common multiple
pub common_least : (l d g k : ℕ) → 0 < g → IsGcd l d g → l ∣ k → d ∣ k → l / g * d ∣ k
common_least l d g k pg h p q =
    let whole_l : l / g * g ≡ l = div-mul_cancel g h.0 in
    let whole_d : d / g * g ≡ d = div-mul_cancel g h.1 in
    let whole_k : k / d * d ≡ k = div-mul_cancel d q in
    -- k is c times d, and so c times d / g times g; l / g divides c times d / g, and so c
    let spread : k ≡ (d / g) * (k / d) * g = sym whole_k ∙ (ap (λ n. k / d * n) (sym whole_d) ∙ omega arith) in
    let inner : l / g * g ∣ (d / g) * (k / d) * g = subst (λ (n : ℕ). l / g * g ∣ n) spread (subst (λ (n : ℕ). n ∣ k) (sym whole_l) p) in
    let quotient : l / g ∣ (d / g) * (k / d) = dvd_of_mul-dvd-mul_right (l / g) pg inner in
    let count : l / g ∣ k / d = euclid (l / g) (d / g) (k / d) (parts_apart l d g pg h) quotient in
    subst (λ (n : ℕ). l / g * d ∣ n) whole_k (mul-dvd-mul_right (l / g) count d)

-- each of the two divides it
pub common_left : (l d g : ℕ) → IsGcd l d g → l ∣ l / g * d
common_left l d g h =
    let whole_d : d / g * g ≡ d = div-mul_cancel g h.1 in
    let whole_l : l / g * g ≡ l = div-mul_cancel g h.0 in
    let same : l / g * d ≡ l * (d / g) = ap (λ n. l / g * n) (sym whole_d) ∙ (omega arith ∙ ap (λ n. n * (d / g)) whole_l) in
    rw same (dvd-mul_right l (d / g))

pub common_right : (l d g : ℕ) → d ∣ l / g * d
common_right l d g = dvd-mul_left d (l / g)

-- to have no common divisor above 1 is to have 1 as the greatest
pub gcd_of_coprime : (a b : ℕ) → IsCoprime a b → IsGcd a b 1
gcd_of_coprime a b h = (one-dvd a, one-dvd b, λ d p q. rw (h d p q) (dvd_refl 1))

pub coprime_of_gcd : (a b : ℕ) → IsGcd a b 1 → IsCoprime a b
coprime_of_gcd a b h d p q = eq-one_of_dvd-one (h.2 d p q)

pub gcd_exists : (a b : ℕ) → (g : ℕ) × IsGcd a b g
gcd_exists a b =
    let both : (g : ℕ) × (IsGcd a b g) × (IsGcd (a * 1) (b * 1) (g * 1)) = gcd_times b a b 1 (omega arith) (omega arith) in
    (both.0, both.1)

-- two fractions in lowest terms over naturals: a / b is c / d only where the parts are the same
pub lowest_terms_once : (a b c d : ℕ) → 0 < b → 0 < d → IsCoprime a b → IsCoprime c d → a * d ≡ c * b → (a ≡ c) × (b ≡ d)
lowest_terms_once a b c d pb pd h k e =
    let bd : b ∣ d = euclid b a d (IsGcd-swap a b 1 (gcd_of_coprime a b h)) (rw e (dvd-mul_left b c)) in
    let db : d ∣ b = euclid d c b (IsGcd-swap c d 1 (gcd_of_coprime c d k)) (rw (sym e) (dvd-mul_left d a)) in
    let same : b ≡ d = dvd_antisymm bd db in
    let over : a * d ≡ c * d = e ∙ ap (λ n. c * n) same in
    (eq_of_mul-eq-mul_right d pd a c over, same)
