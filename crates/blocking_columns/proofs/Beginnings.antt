-- Where a walk along columns in order stops, later columns begin.
use Rattle.std.proofs.Common.{◌≡◌, ℕ, ◌+◌, ◌<◌, ◌≤◌, List, length, arith, inl, inr}
use Rattle.std.proofs.Math.ListN.{get_or}
use Rattle.std.proofs.lemmas.Bool.{cases_lt}
use Rattle.std.proofs.lemmas.List.{get_or_default}
use Rattle.std.proofs.lemmas.List.Elements.{AllWithin-more}
use Rattle.std.specs.List.{AllWithin}
use Rattle.blocking_columns.specs.declared.columns.Fragment.{Fragment}
use Rattle.blocking_columns.specs.ColumnDef.{AreKnown}
use Rattle.blocking_columns.specs.Stretches.{slot, slot_of, AreInOrder, BeginsAt}

one_more_below : (s : ℕ) (cs : List Fragment) (p : ℕ) (e : Fragment) → p < length cs → slot_of (get_or cs p e) < s
    → AllWithin (λ c. slot_of c < s) cs 0 p → AllWithin (λ c. slot_of c < s) cs 0 (p + 1)
one_more_below s cs p e l here before = AllWithin-more (λ c. slot_of c < s) cs 0 p before (λ d. rw (get_or_default cs p d e l) here)

-- The first column that isn't below the slot s begins what isn't.
pub begins_here : (s : ℕ) (cs : List Fragment) (p : ℕ) (e : Fragment) → AreInOrder cs → p < length cs → s ≤ slot_of (get_or cs p e)
    → AllWithin (λ c. slot_of c < s) cs 0 p → BeginsAt s cs p
begins_here s cs p e order l here before = record {
  within = omega arith;
  before = before;
  behind = λ k d a b.
      let up : slot_of (get_or cs p d) ≤ slot_of (get_or cs k d) = order p k d a b in
      let first : s ≤ slot_of (get_or cs p d) = rw (get_or_default cs p d e l) here in
      omega (arith, up, first);
}

-- A column of task x stands before the next task's.
pub task_more : (n m x : ℕ) (cs : List Fragment) (p : ℕ) (e : Fragment) → AreKnown n m cs → m ≤ 4294967296
    → p < length cs → (get_or cs p e).task.0 ≡ x
    → AllWithin (λ c. slot_of c < slot (x + 1) 0) cs 0 p → AllWithin (λ c. slot_of c < slot (x + 1) 0) cs 0 (p + 1)
task_more n m x cs p e known few l same before =
    let q : (get_or cs p e).resource.0 < m = (known p e l).1 in
    one_more_below (slot (x + 1) 0) cs p e l (omega (arith, q, same)) before

-- The first column from where those of task x begin that is of another task begins the later tasks'.
pub task_stops : (n m x a : ℕ) (cs : List Fragment) (p : ℕ) (e : Fragment) → AreKnown n m cs → m ≤ 4294967296
    → AreInOrder cs → BeginsAt (slot x 0) cs a → a ≤ p
    → p < length cs → ((get_or cs p e).task.0 ≡ x → ⊥) → AllWithin (λ c. slot_of c < slot (x + 1) 0) cs 0 p → BeginsAt (slot (x + 1) 0) cs p
task_stops n m x a cs p e known few order from later l other before =
    let q : (get_or cs p e).resource.0 < m = (known p e l).1 in
    let here : slot x 0 ≤ slot_of (get_or cs p e) = from.behind p e later l in
    begins_here (slot (x + 1) 0) cs p e order l (elim (cases_lt x (get_or cs p e).task.0) [
      | inl above ↦ omega (arith, above)
      | inr not_above ↦ absurd (other (omega (arith, not_above, here, q)))
    ]) before

-- A column of requests of q by x, at the place where these begin, stands before the next resource's.
pub requests_begun : (x q p : ℕ) (cs : List Fragment) → BeginsAt (slot x q) cs p → AllWithin (λ c. slot_of c ≡ slot x q) cs p (p + 1)
    → AllWithin (λ c. slot_of c < slot x (q + 1)) cs 0 (p + 1)
requests_begun x q p cs from here j d a b = elim (cases_lt j p) [
  | inl before ↦
      let low : slot_of (get_or cs j d) < slot x q = from.before j d a before in
      omega (arith, low)
  | inr not_before ↦
      let there : slot_of (get_or cs j d) ≡ slot x q = here j d (omega (arith, not_before)) b in
      omega (arith, there)
]

-- The same of one resource of the task.
pub requests_more : (x q : ℕ) (cs : List Fragment) (p : ℕ) (e : Fragment) → p < length cs → (get_or cs p e).task.0 ≡ x
    → (get_or cs p e).resource.0 ≡ q
    → AllWithin (λ c. slot_of c < slot x (q + 1)) cs 0 p → AllWithin (λ c. slot_of c < slot x (q + 1)) cs 0 (p + 1)
requests_more x q cs p e l same_task same_resource before =
    one_more_below (slot x (q + 1)) cs p e l (omega (arith, same_task, same_resource)) before

pub requests_stop : (n m x q a : ℕ) (cs : List Fragment) (p : ℕ) (e : Fragment) → AreKnown n m cs → m ≤ 4294967296
    → q < m → AreInOrder cs → BeginsAt (slot x q) cs a → a ≤ p
    → p < length cs → ((get_or cs p e).task.0 ≡ x → (get_or cs p e).resource.0 ≡ q → ⊥)
    → AllWithin (λ c. slot_of c < slot x (q + 1)) cs 0 p → BeginsAt (slot x (q + 1)) cs p
requests_stop n m x q a cs p e known few within order from later l other before =
    let r : (get_or cs p e).resource.0 < m = (known p e l).1 in
    let here : slot x q ≤ slot_of (get_or cs p e) = from.behind p e later l in
    begins_here (slot x (q + 1)) cs p e order l (elim (cases_lt (slot x q) (slot_of (get_or cs p e))) [
      | inl above ↦ omega (arith, above)
      | inr not_above ↦ absurd (other (omega (arith, not_above, here, r)) (omega (arith, not_above, here, r)))
    ]) before
