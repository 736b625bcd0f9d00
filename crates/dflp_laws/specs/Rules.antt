-- The rules of the distributed FIFO protocol. A request runs on its resource's home, as under DPCP. Requests are granted, and holders run,
-- in the order of issue.
use Rattle.std.specs.Prelude.{◌≡◌, ℕ, ◌<◌, ◌≤◌, true, length, Some}
use Rattle.schedule_model.specs.RowDef.{Trace, running_on}
use Rattle.schedule_model.specs.Activity.{task_of, issue_tick_of}
use Rattle.schedule_model.specs.SharedRules.{KeepsGrant}
use Rattle.schedule_model.specs.DpcpRules.{holds_at, KeepsRun, KeepsIdle, KeepsPriority}
use Rattle.schedule_model.specs.Protocols.{five_rules}
use Rattle.schedule_model.specs.Ranks.{fmlp_plus}
use Rattle.schedule_model.specs.Keeping.{KeepsRow}
use Rattle.schedule_model.specs.Chosen.{IsSized, GrantsHighest}
use Rattle.schedule_model.specs.declared.rule.Rule.{Rule}

-- Run and Idle are those of DPCP. Priority is that of DPCP, with the order of issue in place of that of tasks. Grant is that of FMLP+,
-- which names no processor.
abbrev pub dflp_rule : Rule → Trace → ℕ → Type 0
dflp_rule r = five_rules KeepsRun (KeepsGrant fmlp_plus) KeepsIdle (KeepsPriority issue_tick_of) r

-- Where the rules leave several rows, this one is chosen. Among the requests of a resource that were issued at one tick, that of the
-- highest task is granted. Among the holders at a processor whose requests were issued at one tick, the one of the highest task runs.
pub record IsDflpChoice (w : Trace) (t : ℕ) : Type 0 where
  pub sized : IsSized w.set (w.row t)
  pub keeps : KeepsRow dflp_rule w t
  pub grants : GrantsHighest issue_tick_of w t
  pub runs : (k r : ℕ) → running_on (w.row t) k ≡ Some r → holds_at w t k r ≡ true
      → (i : ℕ) → i < length w.jobs → holds_at w t k i ≡ true → issue_tick_of w t i ≡ issue_tick_of w t r → task_of w r ≤ task_of w i
