-- Numbers multiplied by k: quotients stay, and remainders are multiplied by k too. So are the lesser and the greater of two, and the sum
-- and the greatest of many.
use Rattle.std.proofs.Common.{◌≡◌, ◌∙◌, ℕ, zero, suc, ◌+◌, ◌-◌, ◌*◌, ◌/◌, ◌%◌, ◌<◌, ◌≤◌, ap, ap₂, refl, sym, arith, min, inl, inr, Bool, true, false}
use Rattle.std.proofs.Common.{List, [], ◌∷◌}
use Rattle.std.specs.Prelude.{slice_index, nat_lt, max}
use Rattle.std.specs.Int.{div_ceil}
use Rattle.std.proofs.Math.Nat.{mul-zero, mul_comm, div-zero, mod-zero, mul-le-mul_left, mul-le-mul_right, mul-div-mul_left, div-mul-le_self}
use Rattle.std.proofs.Math.Nat.{lt-mul-div-succ, mod-eq-sub-div-mul, div-le_of_le-mul}
use Rattle.std.proofs.lemmas.Bool.{cases_lt, lt-ltb}
use Rattle.number_laws.proofs.Divisors.{times_mod}
use Rattle.number_laws.specs.Sums.{sum_below, only_if}
use Rattle.number_laws.proofs.SumLaws.{sum_below-times}
use Rattle.schedule_model.specs.Measures.{greatest_below}
use Rattle.clock_laws.specs.Cycles.{times_each}

-- A product with a k above 0 is 0 if and only if its other factor is.
min_once : (m k : ℕ) → 0 < k → min 1 (m * k) ≡ min 1 m
min_once zero k some = omega arith
min_once (suc m) k some = let more : 1 * k ≤ suc m * k = mul-le-mul_right k (omega arith) in omega (arith, more)

-- A quotient that is rounded up stays the same if both numbers are multiplied by k.
pub div_ceil_scaled : (k a p : ℕ) → 0 < k → div_ceil (k * a) (k * p) ≡ div_ceil a p
div_ceil_scaled k a zero some =
    rw (mul-zero, div-zero, div-zero, mod-zero, mod-zero) (ap (λ m. 0 + min 1 m) (mul_comm k a) ∙ ap (λ m. 0 + m) (min_once a k some))
div_ceil_scaled k a (suc p) some =
    let left : k * a % (k * suc p) ≡ a % suc p * k =
    ap₂ (λ x y. x % y) (mul_comm k a) (mul_comm k (suc p)) ∙ times_mod a (suc p) k (omega arith) some in
    ap₂ (λ x y. x + y) (mul-div-mul_left a (suc p) some) (ap (min 1) left ∙ min_once (a % suc p) k some)

-- The whole part of a quotient is less than k times as great and k more, where the dividend is at most k times as great;
pub quotient_scaled : (k total more den : ℕ) → 0 < k → 0 < den → more ≤ k * total → more / den ≤ k * (total / den) + (k - 1)
quotient_scaled k total more den some positive most =
    let up : total < den * (total / den + 1) = lt-mul-div-succ total positive in
    let scaled : k * (total + 1) ≤ k * (den * (total / den + 1)) = mul-le-mul_left k (omega (arith, up)) in
    elim (cases_lt (k * (total / den) + (k - 1)) (more / den)) [
      | inl above ↦
          let times : (k * (total / den) + k) * den ≤ more / den * den = mul-le-mul_right den (omega (arith, above, some)) in
          absurd (omega (arith, some, times, scaled, most, div-mul-le_self more den))
      | inr within ↦ within
    ]

-- and at most k times where nothing is left over.
pub whole_scaled : (k total more den : ℕ) → 0 < den → total % den ≡ 0 → more ≤ k * total → more / den ≤ k * (total / den)
whole_scaled k total more den positive whole most =
    let exact : total ≡ total / den * den =
    omega (arith, mod-eq-sub-div-mul total den, whole, div-mul-le_self total den) in
    let scaled : k * total ≡ k * (total / den * den) = ap (λ m. k * m) exact in
    div-le_of_le-mul den (omega (arith, scaled, most))

-- Of two numbers of which one product is another's, both positive or both none.
pub same_sign : (m n a b : ℕ) → 0 < a → 0 < b → m * a ≡ b * n → nat_lt 0 m ≡ nat_lt 0 n
same_sign zero zero a b p q e = refl
same_sign zero (suc n) a b p q e = let more : b * 1 ≤ b * suc n = mul-le-mul_left b (omega arith) in absurd (omega (arith, q, e, more))
same_sign (suc m) zero a b p q e = let more : 1 * a ≤ suc m * a = mul-le-mul_right a (omega arith) in absurd (omega (arith, p, e, more))
same_sign (suc m) (suc n) a b p q e = lt-ltb 0 (suc m) (omega arith) ∙ sym (lt-ltb 0 (suc n) (omega arith))

pub only_times : (b : Bool) (k n : ℕ) → only_if b (k * n) ≡ k * only_if b n
only_times true k n = refl
only_times false k n = sym (mul-zero k)

pub swapped : (k m n : ℕ) → m * (k * n) ≡ k * (m * n)
swapped k m n = omega arith

-- The greater of two products with one factor, and the lesser.
pub max_times : (k m n : ℕ) → max (k * m) (k * n) ≡ k * max m n
max_times k m n = elim (cases_lt m n) [
  | inl below ↦
      let more : k * m ≤ k * n = mul-le-mul_left k (omega (arith, below)) in
      let greater : max m n ≡ n = omega (arith, below) in
      omega (arith, more, ap (λ z. k * z) greater)
  | inr above ↦
      let more : k * n ≤ k * m = mul-le-mul_left k above in
      let greater : max m n ≡ m = omega (arith, above) in
      omega (arith, more, ap (λ z. k * z) greater)
]

pub min_times : (k m n : ℕ) → min (k * m) (k * n) ≡ k * min m n
min_times k m n =
    let both : k * (min m n + max m n) ≡ k * (m + n) = ap (λ z. k * z) (omega arith) in
    omega (arith, both, max_times k m n)

-- The greatest of such products, and of those that count; and the sum of these.
pub greatest_times : (k n : ℕ) (f : ℕ → ℕ) → greatest_below n (λ x. k * f x) ≡ k * greatest_below n f
greatest_times k zero f = sym (mul-zero k)
greatest_times k (suc n) f = (λ j. max (greatest_times k n f j) (k * f n)) ∙ max_times k (greatest_below n f) (f n)

pub greatest_of_times : (k n : ℕ) (test : ℕ → Bool) (f : ℕ → ℕ)
    → greatest_below n (λ x. only_if (test x) (k * f x)) ≡ k * greatest_below n (λ x. only_if (test x) (f x))
greatest_of_times k n test f =
    (λ j. greatest_below n (λ x. only_times (test x) k (f x) j)) ∙ greatest_times k n (λ x. only_if (test x) (f x))

pub sum_of_times : (k n : ℕ) (test : ℕ → Bool) (f : ℕ → ℕ)
    → sum_below n (λ x. only_if (test x) (k * f x)) ≡ k * sum_below n (λ x. only_if (test x) (f x))
sum_of_times k n test f =
    (λ j. sum_below n (λ x. only_times (test x) k (f x) j)) ∙ sum_below-times n k (λ x. only_if (test x) (f x))

-- The number at a place of a list, with each number multiplied by k.
pub each_at : (k : ℕ) (ns : List ℕ) (x : ℕ) → slice_index (times_each k ns) x ≡ k * slice_index ns x
each_at k [] x = sym (mul-zero k)
each_at k (n ∷ ns) zero = refl
each_at k (n ∷ ns) (suc x) = each_at k ns x
