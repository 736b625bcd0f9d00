-- The laws of sums of natural numbers below a bound.
use Rattle.std.proofs.Common.{◌≡◌, ℕ, zero, suc, ◌+◌, ◌*◌, ◌<◌, ◌≤◌, List, [], ◌∷◌, get_or, length, sum, sum_by, refl}
use Rattle.std.proofs.Common.{sym, ap, ◌∙◌, arith, inl, inr, Bool, true, false}
use Rattle.std.proofs.Math.Nat.{mul_comm}
use Rattle.std.proofs.lemmas.Bool.{cases_lt}
use Rattle.std.proofs.lemmas.List.Sums.{sum_by-cons, sum_by_from}
use Rattle.number_laws.specs.Sums.{sum_below, flag, only_if, collect_below}

-- Functions that agree below n have one sum.
pub sum_below-agree : (n : ℕ) (f g : ℕ → ℕ) → ((k : ℕ) → k < n → f k ≡ g k) → sum_below n f ≡ sum_below n g
sum_below-agree zero f g h = refl
sum_below-agree (suc n) f g h = omega (arith, sum_below-agree n f g (λ k l. h k (omega arith)), h n (omega arith))

-- A sum grows with its terms.
pub sum_below-monotone : (n : ℕ) (f g : ℕ → ℕ) → ((k : ℕ) → k < n → f k ≤ g k) → sum_below n f ≤ sum_below n g
sum_below-monotone zero f g h = omega arith
sum_below-monotone (suc n) f g h = omega (arith, sum_below-monotone n f g (λ k l. h k (omega arith)), h n (omega arith))

-- It grows strictly where one term does.
pub sum_below-strict : (n : ℕ) (f g : ℕ → ℕ) (i : ℕ) → ((k : ℕ) → k < n → f k ≤ g k) → i < n → f i < g i → sum_below n f < sum_below n g
sum_below-strict zero f g i h l s = absurd (omega arith)
sum_below-strict (suc n) f g i h l s = elim (cases_lt i n) [
  | inl below ↦ omega (arith, sum_below-strict n f g i (λ k m. h k (omega arith)) below s, h n (omega arith))
  | inr above ↦ let e : i ≡ n = omega arith in
      let t : f n < g n = rw (← e) s in omega (arith, sum_below-monotone n f g (λ k m. h k (omega arith)), t)
]

-- A sum of zeros is zero.
pub sum_below-zero : (n : ℕ) (f : ℕ → ℕ) → ((k : ℕ) → k < n → f k ≡ 0) → sum_below n f ≡ 0
sum_below-zero zero f h = refl
sum_below-zero (suc n) f h = omega (arith, sum_below-zero n f (λ k l. h k (omega arith)), h n (omega arith))

-- Each term of a sum that is zero is zero.
pub sum_below-no_term : (n : ℕ) (f : ℕ → ℕ) → sum_below n f ≡ 0 → (k : ℕ) → k < n → f k ≡ 0
sum_below-no_term zero f h k l = absurd (omega arith)
sum_below-no_term (suc n) f h k l = elim (cases_lt k n) [
  | inl below ↦ sum_below-no_term n f (omega arith) k below
  | inr above ↦ let e : k ≡ n = omega arith in rw e (omega arith)
]

-- A sum above zero has a term above zero.
pub sum_below-some : (n : ℕ) (f : ℕ → ℕ) → 0 < sum_below n f → (k : ℕ) × (k < n) × (0 < f k)
sum_below-some zero f h = absurd (omega arith)
sum_below-some (suc n) f h = elim (cases_lt 0 (f n)) [
  | inl here ↦ (n, omega arith, here)
  | inr none ↦ let back : (k : ℕ) × (k < n) × (0 < f k) = sum_below-some n f (omega arith) in (back.0, omega arith, back.2)
]

-- The sum of sums is the sum of both.
pub sum_below-plus : (n : ℕ) (f g : ℕ → ℕ) → sum_below n (λ k. f k + g k) ≡ sum_below n f + sum_below n g
sum_below-plus zero f g = refl
sum_below-plus (suc n) f g = omega (arith, sum_below-plus n f g)

times_plus : (c a b : ℕ) → c * (a + b) ≡ c * a + c * b
times_plus c a b = omega arith

-- A factor of each term is a factor of the sum.
pub sum_below-times : (n c : ℕ) (f : ℕ → ℕ) → sum_below n (λ k. c * f k) ≡ c * sum_below n f
sum_below-times zero c f = omega arith
sum_below-times (suc n) c f = omega (arith, sum_below-times n c f, times_plus c (sum_below n f) (f n))

-- The same with the factor on the right.
pub sum_below-times_right : (n c : ℕ) (f : ℕ → ℕ) → sum_below n (λ k. f k * c) ≡ sum_below n f * c
sum_below-times_right n c f =
    sum_below-agree n (λ k. f k * c) (λ k. c * f k) (λ k l. mul_comm (f k) c) ∙ sum_below-times n c f ∙ mul_comm c (sum_below n f)

-- n times one number is their product.
pub sum_below-constant : (n c : ℕ) → sum_below n (λ k. c) ≡ n * c
sum_below-constant zero c = omega arith
sum_below-constant (suc n) c = omega (arith, sum_below-constant n c)

-- Two sums may be exchanged.
pub sum_below-swap : (m n : ℕ) (f : ℕ → ℕ → ℕ) → sum_below m (λ r. sum_below n (λ c. f r c)) ≡ sum_below n (λ c. sum_below m (λ r. f r c))
sum_below-swap zero n f = sym (sum_below-zero n (λ c. 0) (λ k l. refl))
sum_below-swap (suc m) n f =
    ap (λ x. x + sum_below n (f m)) (sum_below-swap m n f) ∙ sym (sum_below-plus n (λ c. sum_below m (λ r. f r c)) (f m))

-- A sum splits at each bound below its own.
pub sum_below-split : (a b : ℕ) (f : ℕ → ℕ) → sum_below (a + b) f ≡ sum_below a f + sum_below b (λ k. f (a + k))
sum_below-split a zero f = let e : a + 0 ≡ a = omega arith in rw e (omega arith)
sum_below-split a (suc b) f = let e : a + suc b ≡ suc (a + b) = omega arith in rw e (omega (arith, sum_below-split a b f))

-- The first term may be taken off.
pub sum_below-first : (n : ℕ) (f : ℕ → ℕ) → sum_below (suc n) f ≡ f 0 + sum_below n (λ k. f (suc k))
sum_below-first zero f = omega arith
sum_below-first (suc n) f = omega (arith, sum_below-first n f)

-- A sum to a greater bound is no less.
pub sum_below-longer : (a b : ℕ) (f : ℕ → ℕ) → a ≤ b → sum_below a f ≤ sum_below b f
sum_below-longer a zero f h = let e : a ≡ 0 = omega arith in rw e (omega arith)
sum_below-longer a (suc b) f h = elim (cases_lt a (suc b)) [
  | inl below ↦ omega (arith, sum_below-longer a b f (omega arith))
  | inr above ↦ let e : a ≡ suc b = omega arith in rw e (omega arith)
]

-- No term passes the sum.
pub sum_below-term : (n : ℕ) (f : ℕ → ℕ) (k : ℕ) → k < n → f k ≤ sum_below n f
sum_below-term zero f k l = absurd (omega arith)
sum_below-term (suc n) f k l = elim (cases_lt k n) [
  | inl below ↦ omega (arith, sum_below-term n f k below)
  | inr above ↦ let e : k ≡ n = omega arith in rw e (omega arith)
]

-- Where all terms but one are zero the sum is that term.
pub sum_below-one : (n : ℕ) (f : ℕ → ℕ) (i : ℕ) → i < n → ((k : ℕ) → k < n → (k ≡ i → ⊥) → f k ≡ 0) → sum_below n f ≡ f i
sum_below-one zero f i l h = absurd (omega arith)
sum_below-one (suc n) f i l h = elim (cases_lt i n) [
  | inl below ↦ omega (arith, sum_below-one n f i below (λ k m. h k (omega arith)), h n (omega arith) (λ e. omega arith))
  | inr above ↦ let e : i ≡ n = omega arith in rw e (omega (arith, sum_below-zero n f (λ k m. h k (omega arith) (λ same. omega arith))))
]

length-cons : {X : Type 0} (x : X) (xs : List X) → length (x ∷ xs) ≡ suc (length xs)
length-cons x xs = omega arith

-- The values of a list's elements, summed by their places, are the sum over the list.
pub sum_below-list_by : {X : Type 0} (f : X → ℕ) (d : X) (xs : List X) → sum_below (length xs) (λ k. f (get_or xs k d)) ≡ sum_by f xs
sum_below-list_by f d [] = refl
sum_below-list_by f d (x ∷ xs) =
    ap (λ n. sum_below n (λ k. f (get_or (x ∷ xs) k d))) (length-cons x xs)
    ∙ (sum_below-first (length xs) (λ k. f (get_or (x ∷ xs) k d)) ∙ ap (λ n. f x + n) (sum_below-list_by f d xs) ∙ sym (sum_by-cons f x xs))

-- The numbers of a list, summed by their places, are the list's sum.
pub sum_below-list : (xs : List ℕ) → sum_below (length xs) (λ k. get_or xs k 0) ≡ sum xs
sum_below-list xs = omega (arith, sum_below-list_by (λ x. x) 0 xs, sum_by_from (λ x. x) 0 xs)

-- A sum and the term behind it are at most the sum to any greater bound.
pub sum_below-next : (n i : ℕ) (f : ℕ → ℕ) → i < n → sum_below i f + f i ≤ sum_below n f
sum_below-next n i f l = sum_below-longer (suc i) n f (omega arith)

-- A term that counts only if a test passes is at most the term, and a product with the test's flag.
pub only_if-times : (b : Bool) (n : ℕ) → only_if b n ≡ flag b * n
only_if-times true n = omega arith
only_if-times false n = omega arith

pub only_if-at_most : (b : Bool) (n : ℕ) → only_if b n ≤ n
only_if-at_most true n = omega arith
only_if-at_most false n = omega arith

-- What counts only where the test passes: all of it, or nothing.
pub only_if-true : (b : Bool) (n : ℕ) → b ≡ true → only_if b n ≡ n
only_if-true b n h = rw h refl

-- Nothing, where the test fails.
pub only_if-false : (b : Bool) (n : ℕ) → b ≡ false → only_if b n ≡ 0
only_if-false b n h = rw h refl

-- A sum that is at most c where some term isn't 0 is at most c.
pub sum_below-none_or_some : (n c : ℕ) (f : ℕ → ℕ) → ((u : ℕ) → u < n → 0 < f u → sum_below n f ≤ c) → sum_below n f ≤ c
sum_below-none_or_some n c f h = elim (cases_lt 0 (sum_below n f)) [
  | inl some ↦ let a : (u : ℕ) × (u < n) × (0 < f u) = sum_below-some n f some in h a.0 a.1 a.2
  | inr none ↦ omega arith
]

-- What counts only if a test passes may be added up first.
pub sum_below-only_if : (n : ℕ) (b : Bool) (f : ℕ → ℕ) → sum_below n (λ k. only_if b (f k)) ≡ only_if b (sum_below n f)
sum_below-only_if n true f = refl
sum_below-only_if n false f = sum_below-zero n (λ k. 0) (λ k l. refl)

-- The same lists of each number below n are collected to the same list.
pub collect_below-agree : {X : Type 0} (n : ℕ) (f g : ℕ → List X) → ((k : ℕ) → k < n → f k ≡ g k) → collect_below n f ≡ collect_below n g
collect_below-agree zero f g h = refl
collect_below-agree (suc n) f g h = rw (collect_below-agree n f g (λ k l. h k (omega arith)), h n (omega arith)) refl
