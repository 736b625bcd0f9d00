-- Where the rules leave several rows, one of them is chosen. Each new holder and each running job is of the highest task that the rules
-- allow there.
use Rattle.std.specs.Prelude.{◌≡◌, ◌≢◌, ℕ, ◌<◌, ◌≤◌, true, length, Some}
use Rattle.sporadic_model.specs.SetDef.{SetDef}
use Rattle.schedule_model.specs.RowDef.{Trace, RowDef, running_on, holder_in, held_before}
use Rattle.schedule_model.specs.Activity.{task_of, processor_of, is_requester, is_ready_holder}
use Rattle.schedule_model.specs.SharedRules.{Ranks}
use Rattle.schedule_model.specs.Protocols.{shared_rule, dpcp_rule}
use Rattle.schedule_model.specs.Keeping.{KeepsRow}

-- Has the row one place per processor and one per resource?
pub record IsSized (set : SetDef) (row : RowDef) : Type 0 where
  pub processors : length row.running ≡ set.processors
  pub resources : length row.holders ≡ length set.resources

-- Among the requesters of a resource that go equally first, is the new holder of the highest task?
abbrev pub GrantsHighest : (Trace → ℕ → ℕ → ℕ) → Trace → ℕ → Type 0
GrantsHighest rank w t = (q j : ℕ) → holder_in (w.row t) q ≡ Some j → held_before w t q ≢ Some j
    → (i : ℕ) → i < length w.jobs → is_requester w t q i ≡ true → rank w t i ≡ rank w t j → task_of w j ≤ task_of w i

-- The chosen row of a shared-memory protocol with these orders. Among the requesters of a resource that go equally first, the one of the
-- highest task becomes the holder. Among the ready holders on a processor that go equally first, the one of the highest task runs. The
-- rules settle all else.
pub record IsSharedChoice (o : Ranks) (w : Trace) (t : ℕ) : Type 0 where
  pub sized : IsSized w.set (w.row t)
  pub keeps : KeepsRow (shared_rule o) w t
  pub grants : GrantsHighest o.grant w t
  pub runs : (k r : ℕ) → running_on (w.row t) k ≡ Some r → is_ready_holder w t r ≡ true
      → (i : ℕ) → i < length w.jobs → processor_of w i ≡ k → is_ready_holder w t i ≡ true → o.run w t i ≡ o.run w t r
      → task_of w r ≤ task_of w i

-- The rules of DPCP leave at most one row.
pub record IsDpcpChoice (w : Trace) (t : ℕ) : Type 0 where
  pub sized : IsSized w.set (w.row t)
  pub keeps : KeepsRow dpcp_rule w t
