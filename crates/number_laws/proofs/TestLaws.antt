-- The laws of tests of the numbers below a bound: all of them, some of them, the first of them.
use Rattle.std.proofs.Common.{◌≡◌, ℕ, zero, suc, ◌<◌, ◌≤◌, refl, ap, ◌∙◌, arith, inl, inr, Bool, true, false, ◌||◌, ltb, cond, Some, None}
use Rattle.std.proofs.lemmas.Bool.{and_parts, and_from, and_cases, or_cases, cases_Bool, both_ways, ltb-true, ltb-false, lt-ltb, cases_lt, or_parts, or_left, or_right, le-ltb}
use Rattle.number_laws.specs.Tests.{all_below, any_below, first_below, found_below}

-- Where all below n pass, each below n passes.
pub all_below-each : (n : ℕ) (p : ℕ → Bool) → all_below n p ≡ true → (k : ℕ) → k < n → p k ≡ true
all_below-each zero p h k l = absurd (omega arith)
all_below-each (suc n) p h k l =
    let parts : (all_below n p ≡ true) × (p n ≡ true) = and_parts (all_below n p) (p n) h in
    elim (cases_lt k n) [
      | inl below ↦ all_below-each n p parts.0 k below
      | inr above ↦ let e : k ≡ n = omega arith in rw e parts.1
    ]

-- Where each below n passes, all do.
pub all_below-from : (n : ℕ) (p : ℕ → Bool) → ((k : ℕ) → k < n → p k ≡ true) → all_below n p ≡ true
all_below-from zero p h = refl
all_below-from (suc n) p h = and_from (all_below n p) (p n) (all_below-from n p (λ k l. h k (omega arith))) (h n (omega arith))

-- Where not all below n pass, one fails.
pub all_below-fails : (n : ℕ) (p : ℕ → Bool) → all_below n p ≡ false → (k : ℕ) × (k < n) × (p k ≡ false)
all_below-fails zero p h = cc
all_below-fails (suc n) p h = elim (and_cases (all_below n p) (p n) h) [
  | inl earlier ↦ let back : (k : ℕ) × (k < n) × (p k ≡ false) = all_below-fails n p earlier in (back.0, omega arith, back.2)
  | inr here ↦ (n, omega arith, here)
]

-- Where one below n fails, not all pass.
pub all_below-fails_from : (n : ℕ) (p : ℕ → Bool) (k : ℕ) → k < n → p k ≡ false → all_below n p ≡ false
all_below-fails_from n p k l h = elim (cases_Bool (all_below n p)) [
  | inl all ↦ absurd (both_ways (p k) h (all_below-each n p all k l))
  | inr fails ↦ fails
]

pub all_below-agree : (n : ℕ) (p q : ℕ → Bool) → ((k : ℕ) → k < n → p k ≡ q k) → all_below n p ≡ all_below n q
all_below-agree zero p q h = refl
all_below-agree (suc n) p q h = rw (all_below-agree n p q (λ k l. h k (omega arith)), h n (omega arith)) refl

-- Where one below n passes, some do.
pub any_below-from : (n : ℕ) (p : ℕ → Bool) (k : ℕ) → k < n → p k ≡ true → any_below n p ≡ true
any_below-from zero p k l h = absurd (omega arith)
any_below-from (suc n) p k l h = elim (cases_lt k n) [
  | inl below ↦ or_left (any_below n p) (p n) (any_below-from n p k below h)
  | inr above ↦ let e : n ≡ k = omega arith in or_right (any_below n p) (p n) (rw e h)
]

-- Where some below n pass, there is one.
pub any_below-some : (n : ℕ) (p : ℕ → Bool) → any_below n p ≡ true → (k : ℕ) × (k < n) × (p k ≡ true)
any_below-some zero p h = cc
any_below-some (suc n) p h = elim (or_cases (any_below n p) (p n) h) [
  | inl earlier ↦ let back : (k : ℕ) × (k < n) × (p k ≡ true) = any_below-some n p earlier in (back.0, omega arith, back.2)
  | inr here ↦ (n, omega arith, here)
]

-- Where none below n passes, each fails.
pub any_below-none : (n : ℕ) (p : ℕ → Bool) → any_below n p ≡ false → (k : ℕ) → k < n → p k ≡ false
any_below-none zero p h k l = absurd (omega arith)
any_below-none (suc n) p h k l =
    let parts : (any_below n p ≡ false) × (p n ≡ false) = or_parts (any_below n p) (p n) h in
    elim (cases_lt k n) [
      | inl below ↦ any_below-none n p parts.0 k below
      | inr above ↦ let e : k ≡ n = omega arith in rw e parts.1
    ]

pub any_below-none_from : (n : ℕ) (p : ℕ → Bool) → ((k : ℕ) → k < n → p k ≡ false) → any_below n p ≡ false
any_below-none_from zero p h = refl
any_below-none_from (suc n) p h = rw (any_below-none_from n p (λ k l. h k (omega arith)), h n (omega arith)) refl

pub any_below-agree : (n : ℕ) (p q : ℕ → Bool) → ((k : ℕ) → k < n → p k ≡ q k) → any_below n p ≡ any_below n q
any_below-agree zero p q h = refl
any_below-agree (suc n) p q h = rw (any_below-agree n p q (λ k l. h k (omega arith)), h n (omega arith)) refl

-- One step of the first place: where one was found, or the next passes, it stays.
first_kept : (n : ℕ) (p : ℕ → Bool) → (ltb (first_below n p) n || p n) ≡ true → first_below (suc n) p ≡ first_below n p
first_kept n p h = rw h refl

first_moved : (n : ℕ) (p : ℕ → Bool) → (ltb (first_below n p) n || p n) ≡ false → first_below (suc n) p ≡ suc n
first_moved n p h = rw h refl

-- The first place is within the bound.
pub first_below-at_most : (n : ℕ) (p : ℕ → Bool) → first_below n p ≤ n
first_below-at_most zero p = omega arith
first_below-at_most (suc n) p = elim (cases_Bool (ltb (first_below n p) n || p n)) [
  | inl kept ↦ omega (arith, first_kept n p kept, first_below-at_most n p)
  | inr moved ↦ omega (arith, first_moved n p moved)
]

-- Each number before the first place fails.
pub first_below-before : (n : ℕ) (p : ℕ → Bool) (k : ℕ) → k < first_below n p → p k ≡ false
first_below-before zero p k l = absurd (omega arith)
first_below-before (suc n) p k l = elim (cases_Bool (ltb (first_below n p) n || p n)) [
  | inl kept ↦ first_below-before n p k (omega (arith, first_kept n p kept))
  | inr moved ↦
      let none : (ltb (first_below n p) n ≡ false) × (p n ≡ false) = or_parts (ltb (first_below n p) n) (p n) moved in
      let far : n ≤ first_below n p = ltb-false (first_below n p) n none.0 in
      elim (cases_lt k n) [
        | inl below ↦ first_below-before n p k (omega arith)
        | inr above ↦ let e : k ≡ n = omega (arith, first_moved n p moved) in rw e none.1
      ]
]

-- A first place below the bound passes.
pub first_below-passes : (n : ℕ) (p : ℕ → Bool) → first_below n p < n → p (first_below n p) ≡ true
first_below-passes zero p l = absurd (omega arith)
first_below-passes (suc n) p l = elim (cases_Bool (ltb (first_below n p) n || p n)) [
  | inl kept ↦ rw (first_kept n p kept) (elim (or_cases (ltb (first_below n p) n) (p n) kept) [
    | inl earlier ↦ first_below-passes n p (ltb-true (first_below n p) n earlier)
    | inr here ↦ elim (cases_lt (first_below n p) n) [
      | inl below ↦ first_below-passes n p below
      | inr above ↦ let e : first_below n p ≡ n = omega (arith, first_below-at_most n p) in rw e here
    ]
  ])
  | inr moved ↦ absurd (omega (arith, first_moved n p moved))
]

-- A number that passes is no earlier than the first place.
pub first_below-least : (n : ℕ) (p : ℕ → Bool) (k : ℕ) → p k ≡ true → first_below n p ≤ k
first_below-least n p k h = elim (cases_lt k (first_below n p)) [
  | inl before ↦ absurd (both_ways (p k) (first_below-before n p k before) h)
  | inr after ↦ after
]

-- Where one below n passes, the first place is below n.
pub first_below-found : (n : ℕ) (p : ℕ → Bool) (k : ℕ) → k < n → p k ≡ true → first_below n p < n
first_below-found n p k l h = omega (arith, first_below-least n p k h)

-- One number alone is the first place.
pub first_below-is : (n : ℕ) (p : ℕ → Bool) (i : ℕ) → i ≤ n → ((k : ℕ) → k < i → p k ≡ false) → (i < n → p i ≡ true) → first_below n p ≡ i
first_below-is n p i l before here = elim (cases_lt (first_below n p) i) [
  | inl early ↦ absurd (both_ways (p (first_below n p)) (before (first_below n p) early) (first_below-passes n p (omega arith)))
  | inr late ↦ elim (cases_lt i n) [
    | inl below ↦ omega (arith, first_below-least n p i (here below))
    | inr end ↦ omega (arith, first_below-at_most n p)
  ]
]

pub first_below-agree : (n : ℕ) (p q : ℕ → Bool) → ((k : ℕ) → k < n → p k ≡ q k) → first_below n p ≡ first_below n q
first_below-agree n p q h =
    let most : first_below n q ≤ n = first_below-at_most n q in
    first_below-is n p (first_below n q) most
    (λ k l. h k (omega arith) ∙ first_below-before n q k l)
    (λ l. h (first_below n q) l ∙ first_below-passes n q l)

-- What is found is below n and passes.
pub found_below-is : (n : ℕ) (p : ℕ → Bool) (k : ℕ) → found_below n p ≡ Some k → (k < n) × (p k ≡ true)
found_below-is n p k h = elim (cases_Bool (ltb (first_below n p) n)) [
  | inl below ↦
      let found : Some (first_below n p) ≡ Some k = rw below at h in
      let e : first_below n p ≡ k = cc in
      let l : first_below n p < n = ltb-true _ _ below in
      rw (← e) (l, first_below-passes n p l)
  | inr none ↦ let x : None ≡ Some k = rw none at h in absurd (cc)
]

-- Where nothing is found, each fails.
pub found_below-none : (n : ℕ) (p : ℕ → Bool) → found_below n p ≡ None → (k : ℕ) → k < n → p k ≡ false
found_below-none n p h k l = elim (cases_Bool (ltb (first_below n p) n)) [
  | inl below ↦ let x : Some (first_below n p) ≡ None = rw below at h in absurd (cc)
  | inr none ↦ first_below-before n p k (omega (arith, ltb-false _ _ none))
]

-- What passes and has no earlier one that does is found.
pub found_below-first : (n : ℕ) (p : ℕ → Bool) (k : ℕ) → k < n → p k ≡ true → ((i : ℕ) → i < k → p i ≡ false) → found_below n p ≡ Some k
found_below-first n p k l here before =
    let e : first_below n p ≡ k = first_below-is n p k (omega arith) before (λ b. here) in
    rw (e, lt-ltb k n l) refl

-- Where each fails, nothing is found.
pub found_below-none_from : (n : ℕ) (p : ℕ → Bool) → ((i : ℕ) → i < n → p i ≡ false) → found_below n p ≡ None
found_below-none_from n p none =
    let e : first_below n p ≡ n = first_below-is n p n (omega arith) none (λ b. absurd (omega (arith, b))) in
    rw (e, le-ltb n n (omega arith)) refl

-- Where one alone passes, it is what is found.
pub found_below-one : (n : ℕ) (p : ℕ → Bool) (k : ℕ) → k < n → p k ≡ true → ((i : ℕ) → i < n → p i ≡ true → i ≡ k)
    → found_below n p ≡ Some k
found_below-one n p k l h one =
    let below : first_below n p < n = first_below-found n p k l h in
    let e : first_below n p ≡ k = one (first_below n p) below (first_below-passes n p below) in
    let t : ltb (first_below n p) n ≡ true = lt-ltb _ _ below in
    rw t (ap (λ i. Some i) e)

-- Tests that agree below n find the same.
pub found_below-agree : (n : ℕ) (p q : ℕ → Bool) → ((k : ℕ) → k < n → p k ≡ q k) → found_below n p ≡ found_below n q
found_below-agree n p q h = ap (λ i. cond (ltb i n) (Some i) None) (first_below-agree n p q h)
