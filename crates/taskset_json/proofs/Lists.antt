-- Laws of lists.
use Rattle.std.proofs.Common.{◌∙◌, ap, ◌≡◌, ℕ, zero, suc, ◌<◌, Bool, true, false, List, [], ◌∷◌, length, Some}
use Rattle.std.proofs.Common.{None, refl, get_or, arith}
use Rattle.std.proofs.lemmas.Bool.{lt-ltb, le-ltb}
use Rattle.std.specs.List.{position, position_or_len}

first_at : {X : Type 0} (p : X → Bool) (xs : List X) (q : ℕ) (d : X) → q < length xs
    → ((k : ℕ) → k < q → p (get_or xs k d) ≡ false) → p (get_or xs q d) ≡ true → position_or_len p xs ≡ q
first_at p [] q d below before hit = let never : ⊥ = omega arith in absurd never
first_at p (x ∷ xs) zero d below before hit = let e : p x ≡ true = hit in rw e
first_at p (x ∷ xs) (suc q) d below before hit =
    let e : p x ≡ false = before 0 (omega arith) in
    let again : position_or_len p xs ≡ q = first_at p xs q d (omega arith) (λ k less. before (suc k) (omega arith)) hit in
    rw e (omega (arith, again))

none_at : {X : Type 0} (p : X → Bool) (xs : List X) (d : X) → ((k : ℕ) → k < length xs → p (get_or xs k d) ≡ false)
    → position_or_len p xs ≡ length xs
none_at p [] d before = refl
none_at p (x ∷ xs) d before =
    let e : p x ≡ false = before 0 (omega arith) in
    let again : position_or_len p xs ≡ length xs = none_at p xs d (λ k less. before (suc k) (omega arith)) in
    rw e (omega (arith, again))

-- The test passes here, and not before.
pub position_here : {X : Type 0} (p : X → Bool) (xs : List X) (q : ℕ) (d : X) → q < length xs
    → ((k : ℕ) → k < q → p (get_or xs k d) ≡ false) → p (get_or xs q d) ≡ true → position p xs ≡ Some q
position_here p xs q d below before hit = rw (first_at p xs q d below before hit) (rw (lt-ltb q (length xs) below))

pub position_none : {X : Type 0} (p : X → Bool) (xs : List X) (d : X)
    → ((k : ℕ) → k < length xs → p (get_or xs k d) ≡ false) → position p xs ≡ None
position_none p xs d before = rw (none_at p xs d before, le-ltb (length xs) (length xs) (omega arith))

pub cons_same : {X : Type 0} {x y : X} {xs ys : List X} → x ≡ y → xs ≡ ys → x ∷ xs ≡ y ∷ ys
cons_same {y = y} {xs = xs} e f = ap (λ z. z ∷ xs) e ∙ ap (λ zs. y ∷ zs) f
