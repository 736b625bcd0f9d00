-- What the rules give where there is a job that may run or that requests: something runs, someone holds.
use Rattle.std.proofs.Common.{◌≡◌, ℕ, ◌<◌, true, length, refl, Option, Some, None}
use Rattle.std.proofs.lemmas.Bool.{both_ways}
use Rattle.number_laws.proofs.TestLaws.{any_below-from}
use Rattle.schedule_model.specs.RowDef.{Trace, running_on, holder_in}
use Rattle.schedule_model.specs.Activity.{processor_of, is_requester, is_active_local, is_ready}
use Rattle.schedule_model.specs.SharedRules as shared
use Rattle.schedule_model.specs.SharedRules.{Ranks}
use Rattle.schedule_model.specs.DpcpRules as distributed
use Rattle.schedule_model.specs.DpcpRules.{has_request_at, has_requests}
use Rattle.schedule_laws.proofs.ActiveJobs.{active_listed, requester_listed, ActiveLocal, active_local_is}
use Rattle.schedule_laws.proofs.Rows.{ready_listed}

-- Where a job is ready its processor runs something.
pub ready_busy : (w : Trace) (t j : ℕ) → shared.KeepsIdle w t → is_ready w t j ≡ true
    → (r : ℕ) × (running_on (w.row t) (processor_of w j) ≡ Some r)
ready_busy w t j idle h = go (running_on (w.row t) (processor_of w j)) refl where
  go : (o : Option ℕ) → running_on (w.row t) (processor_of w j) ≡ o → (r : ℕ) × (running_on (w.row t) (processor_of w j) ≡ Some r)
  go None e = absurd (both_ways (is_ready w t j) (idle (processor_of w j) e j (ready_listed w t j h) refl) h)
  go (Some r) e = (r, e)

-- What is requested is held.
pub requested_held : (o : Ranks) (w : Trace) (t q j : ℕ) → shared.KeepsGrant o w t → is_requester w t q j ≡ true
    → (i : ℕ) × (holder_in (w.row t) q ≡ Some i)
requested_held o w t q j grant h = go (holder_in (w.row t) q) refl where
  go : (p : Option ℕ) → holder_in (w.row t) q ≡ p → (i : ℕ) × (holder_in (w.row t) q ≡ Some i)
  go None e = absurd (both_ways (is_requester w t q j) (grant.free q e j (requester_listed w t q j h)) h)
  go (Some i) e = (i, e)

-- Under DPCP: where a processor has a request, or an active Local job of its tasks, it runs something.
pub requests_busy : (w : Trace) (t k : ℕ) → distributed.KeepsIdle w t → has_requests w t k ≡ true
    → (r : ℕ) × (running_on (w.row t) k ≡ Some r)
requests_busy w t k idle h = go (running_on (w.row t) k) refl where
  go : (o : Option ℕ) → running_on (w.row t) k ≡ o → (r : ℕ) × (running_on (w.row t) k ≡ Some r)
  go None e = absurd (both_ways (has_requests w t k) (idle.requests k e) h)
  go (Some r) e = (r, e)

-- Where a task of the processor has an active Local job, it runs something.
pub locals_busy : (w : Trace) (t j : ℕ) → distributed.KeepsIdle w t → is_active_local w t j ≡ true
    → (r : ℕ) × (running_on (w.row t) (processor_of w j) ≡ Some r)
locals_busy w t j idle h = go (running_on (w.row t) (processor_of w j)) refl where
  listed : j < length w.jobs
  listed = let a : ActiveLocal w t j = active_local_is w t j h in active_listed w t j a.active

  go : (o : Option ℕ) → running_on (w.row t) (processor_of w j) ≡ o → (r : ℕ) × (running_on (w.row t) (processor_of w j) ≡ Some r)
  go None e = absurd (both_ways (is_active_local w t j) (idle.locals (processor_of w j) e j listed refl) h)
  go (Some r) e = (r, e)

-- A request at a processor is one of its requests.
pub request_among : (w : Trace) (t k j : ℕ) → j < length w.jobs → has_request_at w t k j ≡ true → has_requests w t k ≡ true
unfolding has_requests
request_among w t k j l h = any_below-from (length w.jobs) (has_request_at w t k) j l h
