-- The laws of counting the numbers below a bound that pass a test.
use Rattle.std.proofs.Common.{◌≡◌, ℕ, zero, suc, ◌+◌, ◌*◌, ◌<◌, ◌≤◌, ◌==◌, refl, sym, ap, ◌∙◌, arith, inl, inr, Bool}
use Rattle.std.proofs.Common.{true, false, not, ◌&&◌, ◌||◌}
use Rattle.std.proofs.lemmas.Bool.{cases_Bool, eq-eqb, ne_eqb}
use Rattle.number_laws.specs.Sums.{sum_below, flag, only_if}
use Rattle.number_laws.specs.Tests.{count_below}
use Rattle.number_laws.proofs.SumLaws.{sum_below-agree, sum_below-monotone, sum_below-some, sum_below-plus}
use Rattle.number_laws.proofs.SumLaws.{sum_below-split, sum_below-longer, sum_below-constant, sum_below-times_right}
use Rattle.number_laws.proofs.SumLaws.{sum_below-zero, sum_below-term, sum_below-one}

pub flag-at_most : (b : Bool) → flag b ≤ 1
flag-at_most true = omega arith
flag-at_most false = omega arith

pub flag-passes : (b : Bool) → 0 < flag b → b ≡ true
flag-passes true h = refl
flag-passes false h = absurd (omega arith)

pub flag-of_true : (b : Bool) → b ≡ true → flag b ≡ 1
flag-of_true b h = rw h refl

pub flag-of_false : (b : Bool) → b ≡ false → flag b ≡ 0
flag-of_false b h = rw h refl

flag-within : (a b : Bool) → (a ≡ true → b ≡ true) → flag a ≤ flag b
flag-within true b h = omega (arith, flag-of_true b (h refl))
flag-within false b h = omega arith

flag-parts : (a b : Bool) → flag a ≡ flag (a && b) + flag (a && not b)
flag-parts true true = refl
flag-parts true false = refl
flag-parts false b = refl

flag-either : (a b : Bool) → flag (a || b) ≤ flag a + flag b
flag-either true b = omega arith
flag-either false b = omega arith

-- Tests that agree below n have one count.
pub count_below-agree : (n : ℕ) (p q : ℕ → Bool) → ((k : ℕ) → k < n → p k ≡ q k) → count_below n p ≡ count_below n q
count_below-agree n p q h = sum_below-agree n (λ k. flag (p k)) (λ k. flag (q k)) (λ k l. ap flag (h k l))

-- A test that passes more has no less a count.
pub count_below-monotone : (n : ℕ) (p q : ℕ → Bool) → ((k : ℕ) → k < n → p k ≡ true → q k ≡ true) → count_below n p ≤ count_below n q
count_below-monotone n p q h = sum_below-monotone n (λ k. flag (p k)) (λ k. flag (q k)) (λ k l. flag-within (p k) (q k) (h k l))

-- At most all pass.
pub count_below-at_most : (n : ℕ) (p : ℕ → Bool) → count_below n p ≤ n
count_below-at_most zero p = omega arith
count_below-at_most (suc n) p = omega (arith, count_below-at_most n p, flag-at_most (p n))

pub count_below-none : (n : ℕ) (p : ℕ → Bool) → ((k : ℕ) → k < n → p k ≡ false) → count_below n p ≡ 0
count_below-none n p h = sum_below-zero n (λ k. flag (p k)) (λ k l. flag-of_false (p k) (h k l))

pub count_below-all : (n : ℕ) (p : ℕ → Bool) → ((k : ℕ) → k < n → p k ≡ true) → count_below n p ≡ n
count_below-all n p h =
    sum_below-agree n (λ k. flag (p k)) (λ k. 1) (λ k l. flag-of_true (p k) (h k l)) ∙ sum_below-constant n 1 ∙ omega arith

-- Where the count is above zero, one passes.
pub count_below-some : (n : ℕ) (p : ℕ → Bool) → 0 < count_below n p → (k : ℕ) × (k < n) × (p k ≡ true)
count_below-some n p h =
    let one : (k : ℕ) × (k < n) × (0 < flag (p k)) = sum_below-some n (λ k. flag (p k)) h in
    (one.0, one.1, flag-passes (p one.0) one.2)

-- Where one passes, the count is above zero.
pub count_below-from : (n : ℕ) (p : ℕ → Bool) (k : ℕ) → k < n → p k ≡ true → 0 < count_below n p
count_below-from n p k l h = omega (arith, sum_below-term n (λ i. flag (p i)) k l, flag-of_true (p k) h)

-- Those that pass p are those that pass q too and those that do not.
pub count_below-parts : (n : ℕ) (p q : ℕ → Bool) → count_below n p ≡ count_below n (λ k. p k && q k) + count_below n (λ k. p k && not (q k))
count_below-parts n p q =
    sum_below-agree n (λ k. flag (p k)) (λ k. flag (p k && q k) + flag (p k && not (q k))) (λ k l. flag-parts (p k) (q k))
    ∙ sum_below-plus n (λ k. flag (p k && q k)) (λ k. flag (p k && not (q k)))

pub count_below-either : (n : ℕ) (p q : ℕ → Bool) → count_below n (λ k. p k || q k) ≤ count_below n p + count_below n q
count_below-either n p q =
    omega (
      arith,
      sum_below-monotone n (λ k. flag (p k || q k)) (λ k. flag (p k) + flag (q k)) (λ k l. flag-either (p k) (q k)),
      sum_below-plus n (λ k. flag (p k)) (λ k. flag (q k)),
    )

pub count_below-split : (a b : ℕ) (p : ℕ → Bool) → count_below (a + b) p ≡ count_below a p + count_below b (λ k. p (a + k))
count_below-split a b p = sum_below-split a b (λ k. flag (p k))

pub count_below-longer : (a b : ℕ) (p : ℕ → Bool) → a ≤ b → count_below a p ≤ count_below b p
count_below-longer a b p h = sum_below-longer a b (λ k. flag (p k)) h

other_fails : (n : ℕ) (p : ℕ → Bool) → ((i k : ℕ) → i < suc n → k < suc n → p i ≡ true → p k ≡ true → i ≡ k)
    → p n ≡ true → (k : ℕ) → k < n → p k ≡ false
other_fails n p h here k l = elim (cases_Bool (p k)) [
  | inl passes ↦ absurd (omega (arith, h k n (omega arith) (omega arith) passes here))
  | inr fails ↦ fails
]

-- Where two that pass are always the same number, at most one passes.
pub count_below-one : (n : ℕ) (p : ℕ → Bool) → ((i k : ℕ) → i < n → k < n → p i ≡ true → p k ≡ true → i ≡ k) → count_below n p ≤ 1
count_below-one zero p h = omega arith
count_below-one (suc n) p h = elim (cases_Bool (p n)) [
  | inl here ↦ omega (arith, flag-at_most (p n), count_below-none n p (λ k l. other_fails n p h here k l))
  | inr away ↦ omega (arith, flag-of_false (p n) away, count_below-one n p (λ i k l m a b. h i k (omega arith) (omega arith) a b))
]

-- Take a sum whose terms are above 0 only where a test passes, and at most c. It is at most c for each number that passes.
pub sum_below-counted : (n c : ℕ) (p : ℕ → Bool) (f : ℕ → ℕ) → ((k : ℕ) → k < n → f k ≤ flag (p k) * c)
    → sum_below n f ≤ count_below n p * c
sum_below-counted n c p f h =
    omega (arith, sum_below-monotone n f (λ k. flag (p k) * c) h, sum_below-times_right n c (λ k. flag (p k)))

-- A count of numbers that all give the one answer.
pub count_below-same : (n : ℕ) (p : ℕ → Bool) (b : Bool) → ((k : ℕ) → k < n → p k ≡ b) → count_below n p ≡ only_if b n
count_below-same n p true h = count_below-all n p h
count_below-same n p false h = count_below-none n p h

-- One number below n is a given one that is below n.
pub count_below-equal : (n i : ℕ) → i < n → count_below n (λ k. i == k) ≡ 1
count_below-equal n i l = sum_below-one n (λ k. flag (i == k)) i l (λ k b other. away k other) ∙ here where
  away : (k : ℕ) → (k ≡ i → ⊥) → flag (i == k) ≡ 0
  away k other = rw (ne_eqb i k (λ e. other (sym e))) refl

  here : flag (i == i) ≡ 1
  here = rw (eq-eqb i i refl) refl
