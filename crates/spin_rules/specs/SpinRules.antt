-- The five rules of a row under spin locks. A job that waits for a resource keeps its processor busy, and a job in a request isn't
-- preempted. Run, Keep and Grant are rules of SharedRules. Requests are granted in the order of issue.
use Rattle.std.specs.Prelude.{◌≡◌, ℕ, ◌==◌, ◌&&◌, not, Bool, true, false, length, None, Some}
use Rattle.number_laws.specs.Tests.{any_below}
use Rattle.schedule_model.specs.RowDef.{Trace, running_on, holder_in}
use Rattle.schedule_model.specs.Phase.{is_local, phase_of}
use Rattle.schedule_model.specs.Activity.{processor_of, is_active, issue_tick_of, holds_by, is_ready}
use Rattle.schedule_model.specs.Activity.{EachJobOf, NoLocalIsHigher}
use Rattle.schedule_model.specs.SharedRules.{KeepsRun, KeepsGrant}
use Rattle.schedule_model.specs.Ranks.{fmlp_plus}
use Rattle.schedule_model.specs.Protocols.{five_rules}
use Rattle.schedule_model.specs.Keeping.{KeepsRow}
use Rattle.schedule_model.specs.Chosen.{IsSized, GrantsHighest}
use Rattle.schedule_model.specs.declared.rule.Rule.{Rule}

-- Is job j in a request at tick t: active, and not Local?
unfoldable pub is_in_request : Trace → ℕ → ℕ → Bool
is_in_request w t j = is_active w t j && not (is_local (phase_of w t j))

-- Does job j spin at tick t: is it in a request, without holding the resource in this row?
unfoldable pub spins : Trace → ℕ → ℕ → Bool
spins w t j = is_in_request w t j && not (holds_by (holder_in (w.row t)) j (phase_of w t j))

-- Does a job of the tasks of processor k spin at tick t?
unfoldable pub has_spinner : Trace → ℕ → ℕ → Bool
has_spinner w t k = any_below (length w.jobs) (λ i. (processor_of w i == k) && spins w t i)

-- Idle: a processor that runs nothing has no ready job, or a job there spins.
abbrev pub KeepsIdle : Trace → ℕ → Type 0
KeepsIdle w t = (k : ℕ) → running_on (w.row t) k ≡ None → has_spinner w t k ≡ false → EachJobOf w k (λ i. is_ready w t i ≡ false)

-- Priority: if a job of a processor's tasks is in a request, the processor runs no other job. If none is, no active Local job there is of a
-- higher task than the running one.
pub record KeepsPriority (w : Trace) (t : ℕ) : Type 0 where
  pub requests : (k r : ℕ) → running_on (w.row t) k ≡ Some r → EachJobOf w k (λ i. is_in_request w t i ≡ true → r ≡ i)
  pub locals : (k r : ℕ) → running_on (w.row t) k ≡ Some r → EachJobOf w k (λ i. is_in_request w t i ≡ false) → NoLocalIsHigher w t k r

-- The rules of spin locks.
abbrev pub spin_rule : Rule → Trace → ℕ → Type 0
spin_rule r = five_rules KeepsRun (KeepsGrant fmlp_plus) KeepsIdle KeepsPriority r

-- Where the rules leave several rows, this one is chosen. Among the requesters of a resource whose requests were issued at one tick, the
-- one of the highest task becomes the holder. The rules settle all else.
pub record IsSpinChoice (w : Trace) (t : ℕ) : Type 0 where
  pub sized : IsSized w.set (w.row t)
  pub keeps : KeepsRow spin_rule w t
  pub grants : GrantsHighest issue_tick_of w t
