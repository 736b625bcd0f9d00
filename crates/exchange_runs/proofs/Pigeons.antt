-- Of as many sets of the numbers below n as exceed 2^n two are one.
use Rattle.std.proofs.Common.{◌≡◌, ◌⊎◌, inl, inr, ℕ, zero, suc, ◌+◌, ◌*◌, ◌^◌, ◌<◌, ◌≤◌, Bool, true, false, refl, ap}
use Rattle.std.proofs.Common.{◌∙◌, sym, arith, if◌then◌else◌, nat_eq}
use Rattle.std.proofs.lemmas.Bool.{cases_eq, cases_lt, eq-eqb, ne_eqb}
use Rattle.std.proofs.Math.Nat.{pow-succ'}
use Rattle.number_laws.specs.Sums.{flag}
use Rattle.number_laws.proofs.CountLaws.{flag-at_most}

-- Are two of the numbers f 0 to f most the same?
abbrev pub HasTwice : (ℕ → ℕ) → ℕ → Type 0
HasTwice f most = (i : ℕ) × (j : ℕ) × (i < j) × (j ≤ most) × (f i ≡ f j)

-- One before the bound with the same number as it, or none.
one_before : (f : ℕ → ℕ) (x n : ℕ) → ((i : ℕ) × (i < n) × (f i ≡ x)) ⊎ ((i : ℕ) → i < n → f i ≡ x → ⊥)
one_before f x zero = inr (λ i l e. absurd (omega arith))
one_before f x (suc n) = elim (one_before f x n) [
  | inl there ↦ inl (there.0, omega (arith, there.1), there.2)
  | inr none ↦ elim (cases_eq (f n) x) [
    | inl here ↦ inl (n, omega arith, here)
    | inr away ↦ inr (λ i l e. elim (cases_lt i n) [
      | inl earlier ↦ none i earlier e
      | inr last ↦ let same : n ≡ i = omega arith in away (ap f same ∙ e)
    ])
  ]
]

-- f with the number x in place of each k
abbrev instead : (ℕ → ℕ) → ℕ → ℕ → ℕ → ℕ
instead f k x i = if nat_eq (f i) k then x else f i

instead-here : (f : ℕ → ℕ) (k x i : ℕ) → f i ≡ k → instead f k x i ≡ x
instead-here f k x i h = rw (eq-eqb (f i) k h) refl

instead-away : (f : ℕ → ℕ) (k x i : ℕ) → (f i ≡ k → ⊥) → instead f k x i ≡ f i
instead-away f k x i h = rw (ne_eqb (f i) k h) refl

instead_below : (f : ℕ → ℕ) (n i : ℕ) → f i < suc n → f (suc n) < suc n → (f i ≡ f (suc n) → ⊥) → instead f n (f (suc n)) i < n
instead_below f n i l last away = elim (cases_eq (f i) n) [
  | inl here ↦ rw (instead-here f n (f (suc n)) i here) (omega (arith, not_last (λ e. away (here ∙ sym e))))
  | inr other ↦ rw (instead-away f n (f (suc n)) i other) (omega arith)
]
  where
    not_last : (f (suc n) ≡ n → ⊥) → f (suc n) < n
    not_last h = elim (cases_eq (f (suc n)) n) [
      | inl is ↦ absurd (h is)
      | inr less ↦ omega arith
    ]

same_before : (f : ℕ → ℕ) (n i j : ℕ) → instead f n (f (suc n)) i ≡ instead f n (f (suc n)) j → (f i ≡ f (suc n) → ⊥)
    → (f j ≡ f (suc n) → ⊥) → f i ≡ f j
same_before f n i j e away_i away_j = elim (cases_eq (f i) n) [
  | inl here ↦ elim (cases_eq (f j) n) [
    | inl there ↦ here ∙ sym there
    | inr other ↦ absurd (away_j (sym (sym (instead-here f n (f (suc n)) i here) ∙ (e ∙ instead-away f n (f (suc n)) j other))))
  ]
  | inr other ↦ elim (cases_eq (f j) n) [
    | inl there ↦ absurd (away_i (sym (instead-away f n (f (suc n)) i other) ∙ (e ∙ instead-here f n (f (suc n)) j there)))
    | inr neither ↦ sym (instead-away f n (f (suc n)) i other) ∙ (e ∙ instead-away f n (f (suc n)) j neither)
  ]
]

-- One number more than there are below the bound.
pub pigeons : (most : ℕ) (f : ℕ → ℕ) → ((i : ℕ) → i ≤ most → f i < most) → HasTwice f most
pigeons zero f h = absurd (none (f 0) (h 0 (omega arith)))
  where
    none : (n : ℕ) → n < 0 → ⊥
    none n l = omega arith
pigeons (suc n) f h = elim (one_before f (f (suc n)) (suc n)) [
  | inl there ↦ (there.0, suc n, there.1, omega arith, there.2)
  | inr none ↦
      let fewer : HasTwice (instead f n (f (suc n))) n
      = pigeons n (instead f n (f (suc n))) (λ i l. instead_below f n i (h i (omega arith)) (h (suc n) (omega arith))
      (none i (omega arith))) in (
        fewer.0,
        fewer.1,
        fewer.2,
        omega (arith, fewer.3),
        same_before f n fewer.0 fewer.1 fewer.4 (none fewer.0 (omega (arith, fewer.2, fewer.3))) (none fewer.1 (omega (arith, fewer.3))),
      )
]

-- The numbers below n that pass f, written as one number of n binary digits.
abbrev pub code : ℕ → (ℕ → Bool) → ℕ
code zero f = 0
code (suc n) f = flag (f 0) + 2 * code n (λ k. f (suc k))

pub code_below : (n : ℕ) (f : ℕ → Bool) → code n f < 2 ^ n
code_below zero f = omega arith
code_below (suc n) f = rw (pow-succ' 2 n)
    (more (flag (f 0)) (code n (λ k. f (suc k))) (2 ^ n) (flag-at_most (f 0)) (code_below n (λ k. f (suc k))))
  where
    more : (a x y : ℕ) → a ≤ 1 → x < y → a + 2 * x < 2 * y
    more a x y h k = omega arith

digits : (a b : Bool) (x y : ℕ) → flag a + 2 * x ≡ flag b + 2 * y → (a ≡ b) × (x ≡ y)
digits true true x y e = (refl, omega arith)
digits true false x y e = absurd (omega arith)
digits false true x y e = absurd (omega arith)
digits false false x y e = (refl, omega arith)

-- Sets with one code are one.
pub code_same : (n : ℕ) (f g : ℕ → Bool) → code n f ≡ code n g → (k : ℕ) → k < n → f k ≡ g k
code_same zero f g e k l = absurd (omega arith)
code_same (suc n) f g e zero l = (digits (f 0) (g 0) (code n (λ i. f (suc i))) (code n (λ i. g (suc i))) e).0
code_same (suc n) f g e (suc k) l =
    code_same n (λ i. f (suc i)) (λ i. g (suc i)) (digits (f 0) (g 0) (code n (λ i. f (suc i))) (code n (λ i. g (suc i))) e).1 k
    (omega arith)
