-- A test of all elements of a list, and of the one at a place.
use Rattle.std.proofs.Common.{◌≡◌, ℕ, zero, suc, ◌<◌, List, [], ◌∷◌, length, get_or, refl, arith, Bool, true}
use Rattle.std.specs.List.{list_all}
use Rattle.std.proofs.lemmas.Bool.{and_parts, and_from}

-- what passes at the default passes at every place
pub list_all-place : {X : Type 0} (p : X → Bool) (d : X) (xs : List X) → p d ≡ true → list_all p xs ≡ true → (i : ℕ)
    → p (get_or xs i d) ≡ true
list_all-place p d [] h all i = h
list_all-place p d (x ∷ xs) h all zero = (and_parts (p x) (list_all p xs) all).0
list_all-place p d (x ∷ xs) h all (suc i) = list_all-place p d xs h (and_parts (p x) (list_all p xs) all).1 i

-- what passes at each place below the length passes for all
pub list_all-from_places : {X : Type 0} (p : X → Bool) (d : X) (xs : List X)
    → ((i : ℕ) → i < length xs → p (get_or xs i d) ≡ true) → list_all p xs ≡ true
list_all-from_places p d [] h = refl
list_all-from_places p d (x ∷ xs) h =
    and_from (p x) (list_all p xs) (h zero (omega arith)) (list_all-from_places p d xs (λ i l. h (suc i) (omega arith)))

-- a test that all pass is passed at each place below the length
pub list_all-at : {X : Type 0} (p : X → Bool) (d : X) (xs : List X) → list_all p xs ≡ true → (i : ℕ) → i < length xs
    → p (get_or xs i d) ≡ true
list_all-at p d [] all i l = absurd (omega arith)
list_all-at p d (x ∷ xs) all zero l = (and_parts (p x) (list_all p xs) all).0
list_all-at p d (x ∷ xs) all (suc i) l = list_all-at p d xs (and_parts (p x) (list_all p xs) all).1 i (omega arith)
