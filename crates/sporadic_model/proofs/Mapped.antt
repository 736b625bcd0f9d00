-- A list as contracts see it, `map f xs`, and the list of the parts.
use Rattle.std.proofs.Common.{◌≡◌, ℕ, zero, suc, ◌+◌, ◌<◌, cond, Option, Some, None, true, false, not, Bool, List, []}
use Rattle.std.proofs.Common.{◌∷◌, map, length, refl, ap, arith, ◌||◌}
use Rattle.std.specs.List.{list_any, position_or_len, position, find, slice_index_or}
use Rattle.std.specs.Option.{option_map}
use Rattle.std.proofs.lemmas.List.{length-map}

pub list_any-map : {A B : Type 0} (f : A → B) (p : B → Bool) → (xs : List A) → list_any p (map f xs) ≡ list_any (λ x. p (f x)) xs
list_any-map f p [] = refl
list_any-map f p (x ∷ xs) = ap (λ b. p (f x) || b) (list_any-map f p xs)

pub element-map : {A B : Type 0} (f : A → B) → (xs : List A) (i : ℕ) (d : A) (e : B) → i < length xs
    → slice_index_or (map f xs) i e ≡ f (slice_index_or xs i d)
element-map f [] i d e h = absurd (omega arith)
element-map f (x ∷ xs) zero d e h = refl
element-map f (x ∷ xs) (suc i) d e h = element-map f xs i d e (omega arith)

pub option_map-twice : {A B C : Type 0} (g : B → C) (f : A → B) → (o : Option A)
    → option_map g (option_map f o) ≡ option_map (λ x. g (f x)) o
option_map-twice g f None = refl
option_map-twice g f (Some x) = refl

pub find-map : {A B : Type 0} (f : A → B) (p : B → Bool) → (xs : List A) → find p (map f xs) ≡ option_map f (find (λ x. p (f x)) xs)
find-map f p [] = refl
find-map f p (x ∷ xs) =
    elim (p (f x)) as (λ b. cond b (Some (f x)) (find p (map f xs)) ≡ option_map f (cond b (Some x) (find (λ y. p (f y)) xs)))
    [ true ↦ refl | false ↦ find-map f p xs ]

pub position_or_len-map : {A B : Type 0} (f : A → B) (p : B → Bool) → (xs : List A)
    → position_or_len p (map f xs) ≡ position_or_len (λ x. p (f x)) xs
position_or_len-map f p [] = refl
position_or_len-map f p (x ∷ xs) = ap (λ n. cond (not (p (f x))) (1 + n) 0) (position_or_len-map f p xs)

pub position-map : {A B : Type 0} (f : A → B) (p : B → Bool) → (xs : List A) → position p (map f xs) ≡ position (λ x. p (f x)) xs
position-map f p xs = rw (position_or_len-map f p xs, length-map xs f) refl
