-- The tests of a script over its segments in memory, and over the records that contracts see.
use Rattle.std.proofs.Common.{◌≡◌, ℕ, ◌<◌, ◌≤◌, ◌-◌, ◌==◌, ◌&&◌, not, Bool, true, false, List, [], ◌∷◌, map, length}
use Rattle.std.proofs.Common.{take, get_or, refl, sym, ◌∙◌, arith, inl, inr, Option, Some, None, is_some, option_map}
use Rattle.std.proofs.Common.{nat_lt, nat_le, cond}
use Rattle.std.specs.Option.{option_map_or}
use Rattle.std.specs.List.{list_all}
use Rattle.std.specs.Int.{is_in_range}
use Rattle.std.proofs.lemmas.Bool.{cases_Bool, both_ways, and_parts, and_from, ltb-true, leb-true, lt-ltb, eqb-true}
use Rattle.std.proofs.lemmas.List.Folds.{list_all-map, list_all_at}
use Rattle.std.proofs.lemmas.List.Sums.{sum_by-cons}
use Rattle.std.proofs.lemmas.List.{length-map, take-map}
use Rattle.sporadic_model.specs.declared.ids.ResourceId.{ResourceId}
use Rattle.sporadic_model.specs.declared.limits.TheConstants.{MOST_TICKS}
use Rattle.schedule_model.specs.JobDef.{SegmentDef, asks_for, number_of_requests}
use Rattle.schedule_model.specs.LawfulJobs.{is_segment, is_script, is_resource_in}
use Rattle.schedule_model.specs.JobLists.{is_listed_segment, is_listed_script}
use Rattle.schedule_model.specs.Seen.{segment_seen}
use Rattle.schedule_model.specs.declared.job.Segment.{Segment}

-- If each element of a list passes a test, so does the one at a place.
pub list_all-each : {X : Type 0} (p : X → Bool) → (xs : List X) (i : ℕ) (d : X) → i < length xs → list_all p xs ≡ true
    → p (get_or xs i d) ≡ true
list_all-each p xs i d l h = elim (cases_Bool (p (get_or xs i d))) [
  | inl passes ↦ passes
  | inr fails ↦ absurd (both_ways (list_all p xs) (list_all_at p xs i d l fails) h)
]

is_some-map : {A B : Type 0} (f : A → B) → (o : Option A) → is_some (option_map f o) ≡ is_some o
is_some-map f None = refl
is_some-map f (Some r) = refl

requests-seen : (xs : List Segment) → list_all (λ s. is_some s.request) (map segment_seen xs) ≡ list_all (λ s. is_some s.request) xs
requests-seen [] = refl
requests-seen (s ∷ xs) = rw (is_some-map {B = ℕ × ℕ} (λ (r : ResourceId × ℕ). (r.0.0, r.1)) s.request, requests-seen xs) refl

-- A script in memory passes if its records do.
pub is_listed_script-seen : (xs : List Segment) → is_listed_script (map segment_seen xs)
    ≡ (not (length xs == 0) && (list_all (λ s. is_listed_segment (segment_seen s)) xs
    && list_all (λ s. is_some s.request) (take (length xs - 1) xs)))
is_listed_script-seen xs =
    rw (
      length-map xs segment_seen,
      take-map segment_seen (length xs - 1) xs,
      list_all-map is_listed_segment segment_seen xs,
      requests-seen (take (length xs - 1) xs),
    ) refl

-- A script in memory: what its three tests answer, together.
pub is_listed_script-from : (xs : List Segment) (b c d : Bool) → (length xs == 0) ≡ b
    → list_all (λ s. is_listed_segment (segment_seen s)) xs ≡ c
    → list_all (λ s. is_some s.request) (take (length xs - 1) xs) ≡ d
    → is_listed_script (map segment_seen xs) ≡ (not b && (c && d))
is_listed_script-from xs b c d e f g = is_listed_script-seen xs ∙ rw (e, f, g) refl

-- If each segment's record passes a test, so does that of the one at a place.
pub segment-each : (p : SegmentDef → Bool) → (xs : List Segment) (i : ℕ) (d : Segment) → i < length xs
    → list_all p (map segment_seen xs) ≡ true → p (segment_seen (get_or xs i d)) ≡ true
segment-each p xs i d l h = list_all-each (λ (s : Segment). p (segment_seen s)) xs i d l (sym (list_all-map p segment_seen xs) ∙ h)

-- The resource that a segment requests is in range if all are.
pub resource_at-each : (n : ℕ) (xs : List Segment) (i : ℕ) (d : Segment) → i < length xs
    → list_all (is_resource_in n) (map segment_seen xs) ≡ true → is_resource_in n (segment_seen (get_or xs i d)) ≡ true
resource_at-each n xs i d l h = segment-each (is_resource_in n) xs i d l h

resource_in-more : (m n : ℕ) (o : Option (ℕ × ℕ)) → m ≤ n → option_map_or (λ r. nat_lt r.0 m) o true ≡ true
    → option_map_or (λ r. nat_lt r.0 n) o true ≡ true
resource_in-more m n None l h = refl
resource_in-more m n (Some r) l h = lt-ltb r.0 n (omega (arith, ltb-true r.0 m h))

-- A script that requests some of the first resources requests some of these and further ones.
pub resources-more : (m n : ℕ) (script : List SegmentDef) → m ≤ n → list_all (is_resource_in m) script ≡ true
    → list_all (is_resource_in n) script ≡ true
resources-more m n [] l h = refl
resources-more m n (s ∷ script) l h =
    let parts : (is_resource_in m s ≡ true) × (list_all (is_resource_in m) script ≡ true) = and_parts _ _ h in
    and_from _ _ (resource_in-more m n s.request l parts.0) (resources-more m n script l parts.1)

asks_for-past : (n q : ℕ) (o : Option (ℕ × ℕ)) → n ≤ q → option_map_or (λ r. nat_lt r.0 n) o true ≡ true
    → option_map_or (λ r. r.0 == q) o false ≡ false
asks_for-past n q None l h = refl
asks_for-past n q (Some r) l h =
    let below : r.0 < n = ltb-true _ _ h in
    elim (cases_Bool (r.0 == q)) [
      | inl same ↦ let e : r.0 ≡ q = eqb-true _ _ same in absurd (omega arith)
      | inr other ↦ other
    ]

-- A script doesn't request a resource past those that it names.
pub number_of_requests-past : (n q : ℕ) (script : List SegmentDef) → n ≤ q → list_all (is_resource_in n) script ≡ true
    → number_of_requests script q ≡ 0
number_of_requests-past n q [] l h = refl
number_of_requests-past n q (s ∷ script) l h =
    let parts : (is_resource_in n s ≡ true) × (list_all (is_resource_in n) script ≡ true) =
    and_parts (is_resource_in n s) (list_all (is_resource_in n) script) h in
    let here : asks_for q s ≡ false = asks_for-past n q s.request l parts.0 in
    sum_by-cons (λ (r : SegmentDef). cond (asks_for q r) 1 0) s script ∙ rw (here, number_of_requests-past n q script l parts.1) refl

-- A number from 1 on is above 0.
pub from_one : (n : ℕ) → is_in_range 1 MOST_TICKS n ≡ true → nat_lt 0 n ≡ true
from_one n h = let parts : (nat_le 1 n ≡ true) × (nat_le n MOST_TICKS ≡ true) = and_parts _ _ h in
    lt-ltb 0 n (omega (arith, leb-true _ _ parts.0))

from_one_where : (o : Option (ℕ × ℕ)) → option_map_or (λ r. is_in_range 1 MOST_TICKS r.1) o true ≡ true
    → option_map_or (λ r. nat_lt 0 r.1) o true ≡ true
from_one_where None h = refl
from_one_where (Some r) h = from_one r.1 h

segments_from : (script : List SegmentDef) → list_all is_listed_segment script ≡ true → list_all is_segment script ≡ true
segments_from [] h = refl
segments_from (s ∷ script) h =
    let parts : (is_listed_segment s ≡ true) × (list_all is_listed_segment script ≡ true) =
    and_parts (is_listed_segment s) (list_all is_listed_segment script) h in
    let numbers : (is_in_range 1 MOST_TICKS s.local ≡ true)
    × (option_map_or (λ r. is_in_range 1 MOST_TICKS r.1) s.request true ≡ true) = and_parts _ _ parts.0 in
    and_from (is_segment s) (list_all is_segment script)
    (and_from _ _ (from_one s.local numbers.0) (from_one_where s.request numbers.1)) (segments_from script parts.1)

-- What it says if a list takes a script.
pub listed_script-parts : (script : List SegmentDef) → is_listed_script script ≡ true
    → (not (length script == 0) ≡ true)
    × (list_all is_listed_segment script ≡ true)
    × (list_all (λ s. is_some s.request) (take (length script - 1) script) ≡ true)
listed_script-parts script h =
    let some : (not (length script == 0) ≡ true)
    × ((list_all is_listed_segment script && list_all (λ s. is_some s.request) (take (length script - 1) script))
    ≡ true) = and_parts (not (length script == 0))
    (list_all is_listed_segment script && list_all (λ s. is_some s.request) (take (length script - 1) script)) h in
    let rest : (list_all is_listed_segment script ≡ true)
    × (list_all (λ s. is_some s.request) (take (length script - 1) script) ≡ true) = and_parts
    (list_all is_listed_segment script) (list_all (λ s. is_some s.request) (take (length script - 1) script)) some.1 in
    (some.0, rest.0, rest.1)

-- A script that a list takes is a script.
pub script_from : (script : List SegmentDef) → is_listed_script script ≡ true → is_script script ≡ true
script_from script h =
    let parts = listed_script-parts script h in
    and_from (not (length script == 0))
    (list_all is_segment script && list_all (λ s. is_some s.request) (take (length script - 1) script)) parts.0
    (and_from (list_all is_segment script) (list_all (λ s. is_some s.request) (take (length script - 1) script))
    (segments_from script parts.1) parts.2)
