-- Laws of places, of what is found at them, and of properties that each element of a list has.
use Rattle.std.proofs.Common.{◌≡◌, ℕ, zero, suc, ◌+◌, ◌<◌, ◌↔◌, List, [], ◌∷◌, ◌++◌, length, replicate}
use Rattle.std.proofs.Common.{refl, sym, ◌∙◌, ap, subst, arith, inl, inr, Some, Ok, Err}
use Rattle.std.proofs.lemmas.Bool.{cases_lt, cases_eq}
use Rattle.std.proofs.lemmas.List.{get_or_push, get_or_append_left, get_or-set_same, get_or-set_other}
use Rattle.std.proofs.lemmas.List.{length-append, length-replicate, length-set}
use Rattle.std.proofs.lemmas.Option.{slice_get_within, slice_get_read, get_or_from_slice_get, same_Some, none-some}
use Rattle.std.specs.Prelude.{Option, None, Result, IfOk, IfSome, IsSome, Vec, slice_get, slice_set, slice_index_or}
use Rattle.std.specs.Option.{option_to_list, option_flatten}
use Rattle.std.specs.Global.{Global}
use Rattle.std.specs.declared.alloc.AllocError.{AllocError}
use Rattle.response_fixpoint.specs.Places.{AreEach, AreEachFound, AreBelow, ArePlaced, GivesPlaced, AreParts, places_with, parts_with}
use Rattle.response_fixpoint.specs.declared.places.Placed.{Placed}

-- An empty list asks for nothing.
pub each_none : {X : Type 0} (holds : ℕ → X → Type 0) (n : ℕ) (xs : List X) → length xs ≡ 0 → AreEach holds n xs
each_none holds n xs none = λ k x here. (let most = slice_get_within xs k x here in absurd (omega (arith, most, none)))

-- One more element may be added behind the others.
pub each_more : {X : Type 0} (holds : ℕ → X → Type 0) (n : ℕ) (xs : List X) (x : X) → AreEach holds n xs → holds (n + length xs) x
    → AreEach holds n (xs ++ x ∷ [])
each_more {X} holds n xs x old new = λ k y here.
    let most = slice_get_within (xs ++ x ∷ []) k y here in
    let grown = length-append xs (x ∷ []) in
    let at : slice_index_or (xs ++ x ∷ []) k y ≡ y = get_or_from_slice_get (xs ++ x ∷ []) k y y here in
    elim (cases_lt k (length xs)) [
      | inl before ↦
          let left : slice_index_or (xs ++ x ∷ []) k y ≡ slice_index_or xs k y = get_or_append_left xs (x ∷ []) y k before in
          old k y (slice_get_read xs (length xs) k y refl before (sym at ∙ left))
      | inr behind ↦
          let last : length xs ≡ k = omega (arith, behind, most, grown) in
          let seat : slice_index_or (xs ++ x ∷ []) k y ≡ x = get_or_push xs x y k last in
          subst (λ (z : X). holds (n + k) z) (sym seat ∙ at) (subst (λ (j : ℕ). holds (n + j) x) last new)
    ]

-- A property of each element is one of the first.
pub each_first : {X : Type 0} (holds : ℕ → X → Type 0) (n : ℕ) (xs rest : List X) (x : X) → xs ≡ x ∷ rest → AreEach holds n xs
    → holds n x
each_first holds n xs rest x same each =
    let first : n + 0 ≡ n = omega arith in
    subst (λ (k : ℕ). holds k x) first (each 0 x (ap (λ (ys : List _). slice_get ys 0) same))

-- And it is one of each other element, one place further on.
pub each_rest : {X : Type 0} (holds : ℕ → X → Type 0) (n : ℕ) (xs rest : List X) (x : X) → xs ≡ x ∷ rest → AreEach holds n xs
    → AreEach holds (n + 1) rest
each_rest holds n xs rest x same each = λ k y here.
    let next : n + suc k ≡ n + 1 + k = omega arith in
    subst (λ (i : ℕ). holds i y) next (each (suc k) y (ap (λ (ys : List _). slice_get ys (suc k)) same ∙ here))

-- A property of each element is one of the next, if there is one, and of those behind it.
pub next_first : {X : Type 0} (holds : ℕ → X → Type 0) (n : ℕ) (xs rest : List X) (first : Option X) → xs ≡ option_to_list first ++ rest
    → AreEach holds n xs → IfSome first (λ x. holds n x)
next_first holds n xs rest None same each = tt
next_first holds n xs rest (Some x) same each = each_first holds n xs rest x same each

pub next_rest : {X : Type 0} (holds : ℕ → X → Type 0) (n count : ℕ) (xs rest : List X) (first : Option X)
    → xs ≡ option_to_list first ++ rest → (IsSome first ↔ (0 < count)) → count ≡ length xs → AreEach holds n xs
    → AreEach holds (n + 1) rest
next_rest {X} holds n count xs rest None same some are each = λ k x here.
    let within : k < length rest = slice_get_within rest k x here in
    let none : length xs ≡ length rest = ap length same in
    let never : IsSome {T = X} None = some.1 (omega (arith, within, none, are)) in
    cc
next_rest holds n count xs rest (Some x) same some are each = each_rest holds n xs rest x same each

-- The same for what was found at places.
pub found_first : {X : Type 0} (holds : ℕ → X → Type 0) (n : ℕ) (places rest : List (Option X)) (first : Option (Option X))
    → places ≡ option_to_list first ++ rest → AreEachFound holds n places → IfSome (option_flatten first) (λ x. holds n x)
found_first holds n places rest None same each = tt
found_first holds n places rest (Some o) same each = each_first (λ i p. IfSome p (λ x. holds i x)) n places rest o same each

pub found_rest : {X : Type 0} (holds : ℕ → X → Type 0) (n count : ℕ) (places rest : List (Option X)) (first : Option (Option X))
    → places ≡ option_to_list first ++ rest → (IsSome first ↔ (0 < count)) → count ≡ length places → AreEachFound holds n places
    → AreEachFound holds (n + 1) rest
found_rest holds n count places rest first same some are each =
    next_rest (λ i p. IfSome p (λ x. holds i x)) n count places rest first same some are each

-- What was found for a task may be put at its place.
one_put : {X : Type 0} (holds : ℕ → X → Type 0) (i : ℕ) (places : List (Option X)) (x : X) → i < length places
    → AreEachFound holds 0 places → holds i x → AreEachFound holds 0 (slice_set places i (Some x))
one_put {X} holds i places x within old new = λ k o here.
    let v : Option X = Some x in
    let most = slice_get_within (slice_set places i v) k o here in
    let long = length-set places i v in
    let at : slice_index_or (slice_set places i v) k o ≡ o = get_or_from_slice_get (slice_set places i v) k o o here in
    elim (cases_eq k i) [
      | inl same ↦
          let put : slice_index_or (slice_set places i v) i o ≡ v = get_or-set_same places i v o within in
          let there : slice_index_or (slice_set places i v) i o ≡ o =
          subst (λ (j : ℕ). slice_index_or (slice_set places i v) j o ≡ o) same at in
          let place : i ≡ 0 + k = omega (arith, same) in
          let moved : holds (0 + k) x = subst (λ (j : ℕ). holds j x) place new in
          subst (λ (p : Option X). IfSome p (λ y. holds (0 + k) y)) (sym put ∙ there) moved
      | inr other ↦
          let kept : slice_index_or (slice_set places i v) k o ≡ slice_index_or places k o = get_or-set_other places i k v o other in
          let inside : k < length places = omega (arith, most, long) in
          old k o (slice_get_read places (length places) k o refl inside (sym at ∙ kept))
    ]

-- The first of what is found is put first.
pub first_put : {X : Type 0} (places : List (Option X)) (a : Placed X) (found : List (Placed X))
    → places_with places (a ∷ found) ≡ places_with (slice_set places a.task.0 (Some a.found)) found
unfolding places_with
first_put places a found = refl

-- If nothing was found, nothing is put.
pub none_put : {X : Type 0} (places : List (Option X)) (found : List (Placed X)) → length found ≡ 0 → places_with places found ≡ places
unfolding places_with
none_put places [] none = refl
none_put places (a ∷ found) none = absurd (omega (arith, none))

-- There are as many places as before.
pub put_length : {X : Type 0} (places : List (Option X)) (found : List (Placed X)) → length (places_with places found) ≡ length places
unfolding places_with
put_length places [] = refl
put_length places (a ∷ found) = put_length (slice_set places a.task.0 (Some a.found)) found ∙ length-set places a.task.0 (Some a.found)

-- The same for what the threads have found.
pub first_part : {X : Type 0} (places : List (Option X)) (found : Vec (Placed X) Global)
    (parts : List (Result (Vec (Placed X) Global) AllocError))
    → parts_with places (Ok found ∷ parts) ≡ parts_with (places_with places found.items) parts
unfolding parts_with
first_part places found parts = refl

pub none_part : {X : Type 0} (places : List (Option X)) (parts : List (Result (Vec (Placed X) Global) AllocError)) → length parts ≡ 0
    → parts_with places parts ≡ places
unfolding parts_with
none_part places [] none = refl
none_part places (part ∷ parts) none = absurd (omega (arith, none))

-- What one thread has found may be put at its places.
found_put : {X : Type 0} (holds : ℕ → X → Type 0) (n : ℕ) (places : List (Option X)) (found : List (Placed X)) → length places ≡ n
    → AreEachFound holds 0 places → ArePlaced holds n found → AreEachFound holds 0 (places_with places found)
unfolding places_with
found_put holds n places [] long old new = old
found_put holds n places (a ∷ found) long old new =
    let first : (a.task.0 < n) × holds a.task.0 a.found = new 0 a refl in
    found_put holds n (slice_set places a.task.0 (Some a.found)) found (length-set places a.task.0 (Some a.found) ∙ long)
    (one_put holds a.task.0 places a.found (omega (arith, first.0, long)) old first.1)
    (λ k x here. new (suc k) x here)

-- And so may what all threads have found.
pub parts_put : {X : Type 0} (holds : ℕ → X → Type 0) (n : ℕ) (places : List (Option X))
    (parts : List (Result (Vec (Placed X) Global) AllocError)) → length places ≡ n → AreEachFound holds 0 places
    → AreParts holds n parts
    → AreEachFound holds 0 (parts_with places parts)
unfolding parts_with
parts_put holds n places [] long old new = old
parts_put holds n places (Ok found ∷ parts) long old new =
    parts_put holds n (places_with places found.items) parts (put_length places found.items ∙ long)
    (found_put holds n places found.items long old (new 0 (Ok found) refl)) (λ k x here. new (suc k) x here)
parts_put holds n places (Err e ∷ parts) long old new = parts_put holds n places parts long old (λ k x here. new (suc k) x here)

none_there : {X : Type 0} (n k : ℕ) (o : Option X) → slice_get (replicate n None) k ≡ Some o → o ≡ None
none_there zero k o here = absurd (none-some o here)
none_there (suc n) zero o here = sym (same_Some None o here)
none_there (suc n) (suc k) o here = none_there n k o here

-- If nothing was found, nothing is asked for.
pub nothing_found : {X : Type 0} (holds : ℕ → X → Type 0) (n : ℕ) → AreEachFound holds 0 (replicate n None)
nothing_found holds n = λ k o here. rw (none_there n k o here) tt

-- With the result of one more task, what a thread has found keeps its property.
pub placed_more : {X : Type 0} (holds : ℕ → X → Type 0) (n : ℕ) (found : List (Placed X)) (a : Placed X) → ArePlaced holds n found
    → a.task.0 < n → holds a.task.0 a.found → ArePlaced holds n (found ++ a ∷ [])
placed_more holds n found a old task new = each_more (λ k b. (b.task.0 < n) × holds b.task.0 b.found) 0 found a old (task, new)

-- What the threads have found is for tasks that exist.
pub part_below : {X : Type 0} (holds : ℕ → X → Type 0) (n : ℕ) (part : Result (Vec (Placed X) Global) AllocError)
    → GivesPlaced holds n part → IfOk part (λ v. AreBelow n v.items)
part_below holds n (Ok v) placed = λ k a here. (placed k a here).0
part_below holds n (Err e) placed = tt

-- At the places of these each result has the property.
pub parts_found : {X : Type 0} (holds : ℕ → X → Type 0) (n : ℕ) (parts : List (Result (Vec (Placed X) Global) AllocError))
    (places : List (Option X)) → places ≡ parts_with (replicate n None) parts
    → AreParts holds n parts → AreEachFound holds 0 places
parts_found {X} holds n parts places same found =
    subst (λ (xs : List (Option X)). AreEachFound holds 0 xs) (sym same)
    (parts_put holds n (replicate n None) parts (length-replicate n None) (nothing_found holds n) found)

-- If there was memory for the places.
pub parts_given : {X : Type 0} (holds : ℕ → X → Type 0) (n : ℕ) (parts : List (Result (Vec (Placed X) Global) AllocError))
    (given : Result (Vec (Option X) Global) AllocError) → IfOk given (λ v. v.items ≡ parts_with (replicate n None) parts)
    → AreParts holds n parts
    → IfOk given (λ v. AreEachFound holds 0 v.items)
parts_given holds n parts (Ok v) same found = parts_found holds n parts v.items same found
parts_given holds n parts (Err e) same found = tt
