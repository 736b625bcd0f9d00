-- Places that name the same jobs.
use Rattle.std.proofs.Common.{◌≡◌, ℕ, Bool, List, [], ◌∷◌, map, refl, ap, Option, Some, None}
use Rattle.std.specs.Bool.{Decides}
use Rattle.std.specs.Option.{option_eq}
use Rattle.std.specs.Cmp.Lexicographic.{pointwise}
use Rattle.std.proofs.lemmas.Slice.Eq.{slice_eq-Decides}
use Rattle.schedule_model.specs.declared.job.JobId.{JobId}
use Rattle.schedule_model.specs.Seen.{place_seen}

job_told : (a b : JobId) → a.0 ≡ b.0 → Some a ≡ Some b
job_told a b e = let job : ℕ → Option JobId = λ n. Some (record { 0 = n }) in ap job e

-- The job that a place names is told by its number.
place_told : (a b : Option JobId) → place_seen a ≡ place_seen b → a ≡ b
place_told None None e = refl
place_told None (Some b) e = let f : None ≡ Some b.0 = e in absurd (cc)
place_told (Some a) None e = let f : Some a.0 ≡ None = e in absurd (cc)
place_told (Some a) (Some b) e = let f : Some a.0 ≡ Some b.0 = e in job_told a b (cc)

-- So are those of a list of places.
places_told : (xs ys : List (Option JobId)) → map place_seen xs ≡ map place_seen ys → xs ≡ ys
places_told [] [] e = refl
places_told [] (y ∷ ys) e = absurd (cc)
places_told (x ∷ xs) [] e = absurd (cc)
places_told (x ∷ xs) (y ∷ ys) e =
    let heads : place_seen x ≡ place_seen y = cc in
    let tails : map place_seen xs ≡ map place_seen ys = cc in
    let one : x ≡ y = place_told x y heads in
    let rest : xs ≡ ys = places_told xs ys tails in
    rw (one, rest) refl

-- A test of jobs that tells whether they are equal does so of places,
place_decides : (E : JobId → JobId → Bool) → ((a b : JobId) → Decides (E a b) (a ≡ b)) → (a b : Option JobId)
    → Decides (option_eq E a b) (a ≡ b)
place_decides E h None None = (λ e. refl, λ e. refl)
place_decides E h None (Some b) = (λ e. absurd (cc), λ e. absurd (cc))
place_decides E h (Some a) None = (λ e. absurd (cc), λ e. absurd (cc))
place_decides E h (Some a) (Some b) = (λ e. ap (λ j. Some j) ((h a b).0 e), λ e. (h a b).1 (cc))

-- and of lists of places.
pub places_decide : (E : JobId → JobId → Bool) → ((a b : JobId) → Decides (E a b) (a ≡ b))
    → (xs ys : List (Option JobId)) (r : Bool) → r ≡ pointwise (option_eq E) xs ys
    → Decides r (map place_seen xs ≡ map place_seen ys)
places_decide E h xs ys r e =
    let same : Decides r (xs ≡ ys) = slice_eq-Decides (place_decides E h) xs ys r e in
    (λ t. ap (map place_seen) (same.0 t), λ m. same.1 (places_told xs ys m))
