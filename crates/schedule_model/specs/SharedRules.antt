-- The five rules of a row where a request runs on its own task's processor. MPCP and FMLP+ differ only in the order in which they grant
-- requests and run holders. So the rules are written once, over these orders.
use Rattle.std.specs.Prelude.{◌≡◌, ◌≢◌, ℕ, ◌<◌, ◌≤◌, true, false, length, None, Some}
use Rattle.schedule_model.specs.RowDef.{Trace, running_on, holder_in, held_before}
use Rattle.schedule_model.specs.Activity.{processor_of, is_requester, is_ready_holder, is_ready, EachJobOf, NoLocalIsHigher}

-- The two orders of a protocol: in which it grants requests, and in which it runs holders. Each gives a number to a job that is in a
-- request at a tick. A lower number goes first.
pub record Ranks : Type 0 where
  pub grant : Trace → ℕ → ℕ → ℕ
  pub run : Trace → ℕ → ℕ → ℕ

-- Run: a running job is ready. It is in the column of its task's processor, and in no other.
pub record KeepsRun (w : Trace) (t : ℕ) : Type 0 where
  pub ready : (k j : ℕ) → running_on (w.row t) k ≡ Some j → is_ready w t j ≡ true
  pub column : (k j : ℕ) → running_on (w.row t) k ≡ Some j → k ≡ processor_of w j

-- Keep: the holder in the row before, if it still requests the resource, holds it.
abbrev pub KeepsKeep : Trace → ℕ → Type 0
KeepsKeep w t = (q j : ℕ) → held_before w t q ≡ Some j → is_requester w t q j ≡ true → holder_in (w.row t) q ≡ Some j

-- Grant: a named holder requests the resource. A new holder is one that goes first among its requesters. A resource without a holder has no
-- requester.
pub record KeepsGrant (o : Ranks) (w : Trace) (t : ℕ) : Type 0 where
  pub requests : (q j : ℕ) → holder_in (w.row t) q ≡ Some j → is_requester w t q j ≡ true
  pub first : (q j : ℕ) → holder_in (w.row t) q ≡ Some j → held_before w t q ≢ Some j
      → (i : ℕ) → i < length w.jobs → is_requester w t q i ≡ true → o.grant w t j ≤ o.grant w t i
  pub free : (q : ℕ) → holder_in (w.row t) q ≡ None → (i : ℕ) → i < length w.jobs → is_requester w t q i ≡ false

-- Idle: a processor that runs nothing has no ready job.
abbrev pub KeepsIdle : Trace → ℕ → Type 0
KeepsIdle w t = (k : ℕ) → running_on (w.row t) k ≡ None → EachJobOf w k (λ i. is_ready w t i ≡ false)

-- Priority: if a processor that runs a job has ready holders, it runs one that goes first among them. If it has none, no active Local job
-- there is of a higher task than the running one.
pub record KeepsPriority (o : Ranks) (w : Trace) (t : ℕ) : Type 0 where
  pub holders : (k r : ℕ) → running_on (w.row t) k ≡ Some r → EachJobOf w k (λ i. is_ready_holder w t i ≡ true
      → (is_ready_holder w t r ≡ true) × (o.run w t r ≤ o.run w t i))
  pub locals : (k r : ℕ) → running_on (w.row t) k ≡ Some r → EachJobOf w k (λ i. is_ready_holder w t i ≡ false) → NoLocalIsHigher w t k r
