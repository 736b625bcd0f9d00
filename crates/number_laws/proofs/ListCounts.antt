-- The laws of counting the elements of a list that pass a test.
use Rattle.std.proofs.Common.{◌≡◌, ℕ, zero, suc, ◌+◌, ◌<◌, Bool, true, false, cond, List, [], ◌∷◌, length, get_or, refl}
use Rattle.std.proofs.Common.{sym, ap, ◌∙◌, arith, count_by}
use Rattle.std.proofs.lemmas.List.Sums.{sum_by-cons}
use Rattle.number_laws.specs.Sums.{flag}
use Rattle.number_laws.specs.Tests.{count_below}
use Rattle.number_laws.proofs.SumLaws.{sum_below-first}

-- A count over a list has one more for a first element that passes.
pub count_by-first : {X : Type 0} (p : X → Bool) → (x : X) (xs : List X) → count_by p (x ∷ xs) ≡ flag (p x) + count_by p xs
count_by-first p x xs = sum_by-cons (λ y. cond (p y) 1 0) x xs ∙ ap (λ k. k + count_by p xs) (one (p x)) where
  one : (b : Bool) → cond b 1 0 ≡ flag b
  one true = refl
  one false = refl

-- A count over a list is one over its places.
pub count_by-places : {X : Type 0} (p : X → Bool) (d : X) → (xs : List X) → count_by p xs ≡ count_below (length xs) (λ k. p (get_or xs k d))
count_by-places p d [] = refl
count_by-places p d (x ∷ xs) = count_by-first p x xs ∙ ap (λ k. flag (p x) + k) (count_by-places p d xs)
    ∙ sym (sum_below-first (length xs) (λ k. flag (p (get_or (x ∷ xs) k d))))

-- A count over a list in which some element passes is not 0.
pub count_by-some : {X : Type 0} (p : X → Bool) → (xs : List X) (i : ℕ) (d : X) → i < length xs
    → p (get_or xs i d) ≡ true → 0 < count_by p xs
count_by-some p [] i d l h = absurd (omega arith)
count_by-some p (x ∷ xs) zero d l h = let one : flag (p x) ≡ 1 = rw h refl in omega (arith, count_by-first p x xs)
count_by-some p (x ∷ xs) (suc i) d l h = omega (arith, count_by-first p x xs, count_by-some p xs i d (omega arith) h)
