-- Who is named in a row: running jobs and their columns, holders, and jobs that are ready.
use Rattle.std.proofs.Common.{◌≡◌, ◌⊎◌, ℕ, zero, suc, ◌<◌, true, List, [], ◌∷◌, length, get_or, refl, inl, inr, Option, Some, None}
use Rattle.std.specs.List.{list_any}
use Rattle.std.proofs.lemmas.Bool.{and_parts, and_from, or_cases, or_left, or_right, eq-eqb}
use Rattle.schedule_model.specs.RowDef.{RowDef, Trace, is_job, running_on, holder_in, runs_in}
use Rattle.schedule_model.specs.Phase.{Phase, phase_of}
use Rattle.schedule_model.specs.Phase.Phase.{Local, Asking, Finished}
use Rattle.schedule_model.specs.Activity.{is_active, is_active_local, holds_by, is_ready_holder, is_ready}
pub use Rattle.schedule_model.proofs.RuleTests.{job_named}
use Rattle.schedule_laws.proofs.ActiveJobs.{active_listed, ActiveLocal, active_local_is}

-- A place that names j passes for j.
pub named_job : (j : ℕ) (o : Option ℕ) → o ≡ Some j → is_job j o ≡ true
named_job j o e = rw e (eq-eqb j j refl)

place_any : (places : List (Option ℕ)) (c j : ℕ) → get_or places c None ≡ Some j → list_any (is_job j) places ≡ true
place_any [] c j e = absurd (cc)
place_any (o ∷ places) zero j e = or_left (is_job j o) (list_any (is_job j) places) (named_job j o e)
place_any (o ∷ places) (suc c) j e = or_right (is_job j o) (list_any (is_job j) places) (place_any places c j e)

pub any_place : (places : List (Option ℕ)) (j : ℕ) → list_any (is_job j) places ≡ true → (c : ℕ) × (get_or places c None ≡ Some j)
any_place [] j h = absurd (cc)
any_place (o ∷ places) j h = elim (or_cases (is_job j o) (list_any (is_job j) places) h) [
  | inl here ↦ (0, job_named j o here)
  | inr later ↦ let back : (c : ℕ) × (get_or places c None ≡ Some j) = any_place places j later in (suc back.0, back.1)
]

-- A job runs in a row if it is in some column.
pub runs_from : (row : RowDef) (k j : ℕ) → running_on row k ≡ Some j → runs_in row j ≡ true
unfolding runs_in
runs_from row zero j e = absurd (cc)
runs_from row (suc c) j e = place_any row.running c j e

-- A job that runs in a row is in some column.
pub runs_where : (row : RowDef) (j : ℕ) → runs_in row j ≡ true → (k : ℕ) × (running_on row k ≡ Some j)
unfolding runs_in
runs_where row j h = let a : (c : ℕ) × (get_or row.running c None ≡ Some j) = any_place row.running j h in (suc a.0, a.1)

-- What it is to be a ready holder, and to be ready.
pub record ReadyHolder (w : Trace) (t j : ℕ) : Type 0 where
  pub active : is_active w t j ≡ true
  pub number : ℕ
  pub resource : ℕ
  pub phase : phase_of w t j ≡ Asking number resource
  pub holds : holder_in (w.row t) resource ≡ Some j

-- What holds what it requests is in a request, and is the resource's holder.
pub holds_true : (holder : ℕ → Option ℕ) (j : ℕ) (p : Phase) → holds_by holder j p ≡ true
    → (m : ℕ) × (q : ℕ) × (p ≡ Asking m q) × (holder q ≡ Some j)
holds_true holder j (Asking m q) h = (m, q, refl, job_named j (holder q) h)
holds_true holder j Local h = absurd (cc)
holds_true holder j Finished h = absurd (cc)

-- A holder that is in a request of the resource holds what it requests.
pub holds_from : (holder : ℕ → Option ℕ) (j : ℕ) (p : Phase) (m q : ℕ) → p ≡ Asking m q → holder q ≡ Some j → holds_by holder j p ≡ true
holds_from holder j p m q e h = rw e (named_job j (holder q) h)

-- A ready holder is active, in a request, and holds its resource.
pub ready_holder_is : (w : Trace) (t j : ℕ) → is_ready_holder w t j ≡ true → ReadyHolder w t j
unfolding is_ready_holder
ready_holder_is w t j h =
    let parts : (is_active w t j ≡ true) × (holds_by (holder_in (w.row t)) j (phase_of w t j) ≡ true) = and_parts _ _ h in
    let a : (m : ℕ) × (q : ℕ) × (phase_of w t j ≡ Asking m q) × (holder_in (w.row t) q ≡ Some j) =
    holds_true (holder_in (w.row t)) j (phase_of w t j) parts.1 in
    record { active = parts.0; number = a.0; resource = a.1; phase = a.2; holds = a.3 }

-- An active job in a request that holds its resource is a ready holder.
pub ready_holder_from : (w : Trace) (t j m q : ℕ) → is_active w t j ≡ true → phase_of w t j ≡ Asking m q
    → holder_in (w.row t) q ≡ Some j → is_ready_holder w t j ≡ true
unfolding is_ready_holder
ready_holder_from w t j m q a e h = and_from _ _ a (holds_from (holder_in (w.row t)) j (phase_of w t j) m q e h)

-- A ready job is an active Local job, or a ready holder.
pub ready_is : (w : Trace) (t j : ℕ) → is_ready w t j ≡ true → (is_active_local w t j ≡ true) ⊎ (is_ready_holder w t j ≡ true)
unfolding is_ready
ready_is w t j h = or_cases (is_active_local w t j) (is_ready_holder w t j) h

-- An active Local job is ready.
pub ready_local : (w : Trace) (t j : ℕ) → is_active_local w t j ≡ true → is_ready w t j ≡ true
unfolding is_ready
ready_local w t j h = or_left (is_active_local w t j) (is_ready_holder w t j) h

-- A ready holder is ready.
pub ready_holding : (w : Trace) (t j : ℕ) → is_ready_holder w t j ≡ true → is_ready w t j ≡ true
unfolding is_ready
ready_holding w t j h = or_right (is_active_local w t j) (is_ready_holder w t j) h

-- A ready job is active.
pub ready_active : (w : Trace) (t j : ℕ) → is_ready w t j ≡ true → is_active w t j ≡ true
ready_active w t j h = elim (ready_is w t j h) [
  | inl local ↦ let a : ActiveLocal w t j = active_local_is w t j local in a.active
  | inr holds ↦ let a : ReadyHolder w t j = ready_holder_is w t j holds in a.active
]

-- A ready job is in the list.
pub ready_listed : (w : Trace) (t j : ℕ) → is_ready w t j ≡ true → j < length w.jobs
ready_listed w t j h = active_listed w t j (ready_active w t j h)
