-- The laws of sums split by slots: each number that counts has a slot.
use Rattle.std.proofs.Common.{◌≡◌, ℕ, ◌*◌, ◌<◌, ◌≤◌, ◌==◌, Bool, refl, sym, ◌∙◌, arith, inl, inr}
use Rattle.std.proofs.lemmas.Bool.{cases_lt, eq-eqb, ne_eqb}
use Rattle.number_laws.specs.Sums.{sum_below, flag, only_if}
use Rattle.number_laws.specs.Tests.{count_below}
use Rattle.number_laws.proofs.SumLaws.{sum_below-agree, sum_below-one, sum_below-swap, sum_below-zero, only_if-true}
use Rattle.number_laws.proofs.SumLaws.{only_if-false, only_if-at_most}
use Rattle.number_laws.proofs.CountLaws.{sum_below-counted}

slot_term : (m s x : ℕ) → s < m → sum_below m (λ k. only_if (s == k) x) ≡ x
slot_term m s x l =
    sum_below-one m (λ k. only_if (s == k) x) s l (λ k b other. only_if-false (s == k) x (ne_eqb s k (λ e. other (sym e))))
    ∙ only_if-true (s == s) x (eq-eqb s s refl)

-- What counts has a slot below m; what doesn't may have any.
one_slot : (m s x : ℕ) → (0 < x → s < m) → sum_below m (λ k. only_if (s == k) x) ≡ x
one_slot m s x within = elim (cases_lt 0 x) [
  | inl some ↦ slot_term m s x (within some)
  | inr none ↦
      let e : x ≡ 0 = omega arith in
      sum_below-zero m (λ k. only_if (s == k) x) (λ k l. omega (arith, only_if-at_most (s == k) x)) ∙ sym e
]

-- A sum is the sum over the slots of what has the slot. A term of 0 needs none.
pub sum_below-slots : (n m : ℕ) (slot f : ℕ → ℕ) → ((u : ℕ) → u < n → 0 < f u → slot u < m)
    → sum_below n f ≡ sum_below m (λ k. sum_below n (λ u. only_if (slot u == k) (f u)))
sum_below-slots n m slot f within =
    sum_below-agree n f (λ u. sum_below m (λ k. only_if (slot u == k) (f u))) (λ u l. sym (one_slot m (slot u) (f u) (within u l)))
    ∙ sum_below-swap n m (λ u k. only_if (slot u == k) (f u))

-- Where what has one slot sums to at most c if the slot passes a test, and to nothing if it doesn't, the whole is at
-- most c for each slot that passes.
pub sum_below-by_slot : (n m c : ℕ) (slot f : ℕ → ℕ) (p : ℕ → Bool) → ((u : ℕ) → u < n → 0 < f u → slot u < m)
    → ((k : ℕ) → k < m → sum_below n (λ u. only_if (slot u == k) (f u)) ≤ flag (p k) * c) → sum_below n f ≤ count_below m p * c
sum_below-by_slot n m c slot f p within most =
    let counted : sum_below m (λ k. sum_below n (λ u. only_if (slot u == k) (f u))) ≤ count_below m p * c =
    sum_below-counted m c p (λ k. sum_below n (λ u. only_if (slot u == k) (f u))) most in
    omega (arith, counted, sum_below-slots n m slot f within)
