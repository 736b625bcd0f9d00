-- The rules of a row where a request runs on its resource's home. Keep is that of SharedRules, and Grant that of DPCP. Priority is written
-- over the order in which holders run. Under DPCP that is the order of tasks.
use Rattle.std.specs.Prelude.{◌≡◌, ◌≢◌, ℕ, ◌<◌, ◌≤◌, ◌==◌, ◌&&◌, ◌||◌, not, Bool, true, false, nat_le, length, None, Some, unwrap_or}
use Rattle.std.specs.Option.{option_map_or}
use Rattle.number_laws.specs.Tests.{all_below, any_below}
use Rattle.sporadic_model.specs.Homes.{home_in}
use Rattle.sporadic_model.specs.Users.{ceiling_of}
use Rattle.schedule_model.specs.RowDef.{Trace, running_on, holder_in, held_before}
use Rattle.schedule_model.specs.Phase.{Phase, is_local, is_asking, phase_of}
use Rattle.schedule_model.specs.Phase.Phase.{Asking}
use Rattle.schedule_model.specs.Activity.{task_of, processor_of, is_active, is_requester, is_active_local, holds_by}
use Rattle.schedule_model.specs.Activity.{EachJobOf, NoLocalIsHigher}

-- The processor that runs the requests of resource q, or 0 if q has no home. No processor has the number 0. A set suits these rules if each
-- resource has a home (`EachHasHome`).
abbrev pub home_of : Trace → ℕ → ℕ
home_of w q = home_in w.set q

-- The highest task that uses resource q. If none does, it is the number of tasks, which is below all of them.
abbrev pub ceiling_rank : Trace → ℕ → ℕ
ceiling_rank w q = unwrap_or (ceiling_of w.set q) (length w.set.tasks)

-- Is the phase a request that runs at processor k?
abbrev pub is_at : Trace → ℕ → Phase → Bool
is_at w k (Asking n q) = home_of w q == k
is_at w k _ = false

-- Has job j a request at processor k, at tick t?
unfoldable pub has_request_at : Trace → ℕ → ℕ → ℕ → Bool
has_request_at w t k j = is_active w t j && is_at w k (phase_of w t j)

-- Has some job a request at processor k?
unfoldable pub has_requests : Trace → ℕ → ℕ → Bool
has_requests w t k = any_below (length w.jobs) (has_request_at w t k)

-- Is job j's request at processor k, and does j hold its resource in this row?
unfoldable pub holds_at : Trace → ℕ → ℕ → ℕ → Bool
holds_at w t k j = has_request_at w t k j && holds_by (holder_in (w.row t)) j (phase_of w t j)

-- Is resource q kept at this row: does its holder in the row before still request it?
unfoldable pub is_kept : Trace → ℕ → ℕ → Bool
is_kept w t q = option_map_or (λ j. is_requester w t q j) (held_before w t q) false

-- Does job j wait at processor k: has it a request there, and didn't it hold the resource in the row before?
unfoldable pub waits_at : Trace → ℕ → ℕ → ℕ → Bool
waits_at w t k j = has_request_at w t k j && not (holds_by (held_before w t) j (phase_of w t j))

-- Among the requests that wait at processor k, is job j's of the highest task?
unfoldable pub is_first_waiting : Trace → ℕ → ℕ → ℕ → Bool
is_first_waiting w t k j =
    waits_at w t k j && all_below (length w.jobs) (λ i. not (waits_at w t k i) || nat_le (task_of w j) (task_of w i))

-- Is task x barred at processor k: is it no higher than the ceiling of some resource that is kept there?
unfoldable pub is_barred : Trace → ℕ → ℕ → ℕ → Bool
is_barred w t k x = any_below (length w.set.resources) (λ q. (home_of w q == k) && (is_kept w t q && nat_le (ceiling_rank w q) x))

-- May job j's request at processor k be granted: is it the first that waits there, and not barred?
unfoldable pub is_granted : Trace → ℕ → ℕ → ℕ → Bool
is_granted w t k j = is_first_waiting w t k j && not (is_barred w t k (task_of w j))

-- Run: a running job is active. If it is Local, it is in the column of its task's processor. If it is in a request, it is in the column of
-- the resource's home, and holds the resource.
pub record KeepsRun (w : Trace) (t : ℕ) : Type 0 where
  pub active : (k j : ℕ) → running_on (w.row t) k ≡ Some j → is_active w t j ≡ true
  pub local : (k j : ℕ) → running_on (w.row t) k ≡ Some j → is_local (phase_of w t j) ≡ true → k ≡ processor_of w j
  pub request : (k j q : ℕ) → running_on (w.row t) k ≡ Some j → is_asking q (phase_of w t j) ≡ true
      → (k ≡ home_of w q) × (holder_in (w.row t) q ≡ Some j)

-- Grant: a named holder requests the resource. The first request that waits at a processor is granted exactly if it isn't barred. There is
-- no other new holder.
pub record KeepsGrant (w : Trace) (t : ℕ) : Type 0 where
  pub requests : (q j : ℕ) → holder_in (w.row t) q ≡ Some j → is_requester w t q j ≡ true
  pub new : (q j : ℕ) → holder_in (w.row t) q ≡ Some j → held_before w t q ≢ Some j → is_granted w t (home_of w q) j ≡ true
  pub granted : (q j : ℕ) → j < length w.jobs → is_requester w t q j ≡ true → is_granted w t (home_of w q) j ≡ true
      → holder_in (w.row t) q ≡ Some j

-- Idle: a processor that runs nothing has no request at it, and no active Local job of its tasks.
pub record KeepsIdle (w : Trace) (t : ℕ) : Type 0 where
  pub requests : (k : ℕ) → running_on (w.row t) k ≡ None → has_requests w t k ≡ false
  pub locals : (k : ℕ) → running_on (w.row t) k ≡ None → EachJobOf w k (λ i. is_active_local w t i ≡ false)

-- Does processor k run a job that goes first among those that hold a resource there?
pub record RunsFirstHolder (rank : Trace → ℕ → ℕ → ℕ) (w : Trace) (t k : ℕ) : Type 0 where
  pub runner : ℕ
  pub runs : running_on (w.row t) k ≡ Some runner
  pub holds : holds_at w t k runner ≡ true
  pub first : (i : ℕ) → i < length w.jobs → holds_at w t k i ≡ true → rank w t runner ≤ rank w t i

-- Priority: if requests are at a processor, it runs a holder there that goes first. If none are, it runs an active Local job of the highest
-- task that has one.
pub record KeepsPriority (rank : Trace → ℕ → ℕ → ℕ) (w : Trace) (t : ℕ) : Type 0 where
  pub requests : (k : ℕ) → has_requests w t k ≡ true → RunsFirstHolder rank w t k
  pub locals : (k r : ℕ) → running_on (w.row t) k ≡ Some r → has_requests w t k ≡ false → NoLocalIsHigher w t k r
