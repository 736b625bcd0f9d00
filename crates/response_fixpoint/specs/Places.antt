-- What the threads of a round have found, each result at the place of its task.
use Rattle.std.specs.Prelude.{◌≡◌, ℕ, ◌+◌, ◌<◌, List, [], ◌∷◌, Option, Some, Result, Ok, Err, Vec, slice_get, slice_set, IfOk, IfSome}
use Rattle.std.specs.declared.alloc.AllocError.{AllocError}
use Rattle.std.specs.Global.{Global}
use Rattle.response_fixpoint.specs.declared.places.Placed.{Placed}

-- Is this true of each element of a list and its place? The first element's place is n.
abbrev pub AreEach : {X : Type 0} → (ℕ → X → Type 0) → ℕ → List X → Type 0
AreEach holds n xs = (i : ℕ) (x : _) → slice_get xs i ≡ Some x → holds (n + i) x

-- Is it true of each place at which something was found?
abbrev pub AreEachFound : {X : Type 0} → (ℕ → X → Type 0) → ℕ → List (Option X) → Type 0
AreEachFound holds n places = AreEach (λ i o. IfSome o (λ x. holds i x)) n places

-- Was this found of tasks below n?
abbrev pub AreBelow : {X : Type 0} → ℕ → List (Placed X) → Type 0
AreBelow n found = (k : ℕ) (a : _) → slice_get found k ≡ Some a → a.task.0 < n

-- Is each task with a result below n, and is this true of its result?
abbrev pub ArePlaced : {X : Type 0} → (ℕ → X → Type 0) → ℕ → List (Placed X) → Type 0
ArePlaced holds n found = (k : ℕ) (a : _) → slice_get found k ≡ Some a → (a.task.0 < n) × holds a.task.0 a.found

-- Is this so of what a thread has found, if there was memory for it?
abbrev pub GivesPlaced : {X : Type 0} → (ℕ → X → Type 0) → ℕ → Result (Vec (Placed X) Global) AllocError → Type 0
GivesPlaced holds n part = IfOk part (λ v. ArePlaced holds n v.items)

-- And of what each thread has found?
abbrev pub AreParts : {X : Type 0} → (ℕ → X → Type 0) → ℕ → List (Result (Vec (Placed X) Global) AllocError) → Type 0
AreParts holds n parts = (k : ℕ) (part : _) → slice_get parts k ≡ Some part → GivesPlaced holds n part

-- Is it so of what all threads have found, if they could be started?
abbrev pub GivesParts : {X : Type 0} → (ℕ → X → Type 0) → ℕ → Result (Vec (Result (Vec (Placed X) Global) AllocError) Global) AllocError
    → Type 0
GivesParts holds n parts = IfOk parts (λ v. AreParts holds n v.items)

-- The places, once a thread's results are put at the places of their tasks.
unfoldable pub places_with : {X : Type 0} → List (Option X) → List (Placed X) → List (Option X)
places_with places [] = places
places_with places (a ∷ found) = places_with (slice_set places a.task.0 (Some a.found)) found

-- The places, once the results of all threads are put there.
unfoldable pub parts_with : {X : Type 0} → List (Option X) → List (Result (Vec (Placed X) Global) AllocError) → List (Option X)
parts_with places [] = places
parts_with places (Ok found ∷ parts) = parts_with (places_with places found.items) parts
parts_with places (Err e ∷ parts) = parts_with places parts
