-- The laws of `BlockingProtocol` for the distributed FIFO protocol, and that its rows run requests at homes, in the order of issue.
use Rattle.std.proofs.Common.{ℕ, sym, ◌∙◌, refl}
use Rattle.schedule_model.specs.declared.rule.Rule.TheVariants as rule
use Rattle.schedule_model.specs.RowDef.{Trace}
use Rattle.schedule_model.specs.Phase.{phase_of}
use Rattle.schedule_model.specs.Activity.{issue_tick_of}
use Rattle.schedule_model.specs.SharedRules.{KeepsGrant}
use Rattle.schedule_model.specs.DpcpRules.{KeepsRun}
use Rattle.schedule_model.specs.Ranks.{fmlp_plus}
use Rattle.schedule_model.specs.Keeping.{KeepsRow, KeepsBefore}
use Rattle.schedule_model.specs.BlockedTicks.{is_dpcp_interference}
use Rattle.schedule_model.specs.ProtocolLaws.{IsSoundRow}
use Rattle.schedule_laws.specs.Agreement.{RunsActiveBefore}
use Rattle.schedule_laws.proofs.ActiveJobs.{active_listed, requester_listed}
use Rattle.schedule_laws.proofs.DpcpLaws.{column_is, dpcp_higher}
use Rattle.charge_laws.proofs.DpcpCharging.{RunsAtHomes, RunsAtHomesBefore, at_homes}
use Rattle.row_laws.proofs.Fifo.{GrantsByIssue}
use Rattle.dflp_laws.specs.Rules.{dflp_rule, IsDflpChoice}

-- A row that keeps the rules is sound.
pub dflp_sound_row : (w : Trace) (t : ℕ) → KeepsRow dflp_rule w t → IsSoundRow is_dpcp_interference w t
dflp_sound_row w t keeps =
    let run : KeepsRun w t = keeps rule.Run in
    let grant : KeepsGrant fmlp_plus w t = keeps rule.Grant in
    record {
      running_listed = λ k j e. active_listed w t j (run.active k j e);
      holders_listed = λ q j e. requester_listed w t q j (grant.requests q j e);
      active = λ k j e. run.active k j e;
      one_column = λ k l j e f. column_is w t k j run e (phase_of w t j) refl ∙ sym (column_is w t l j run f (phase_of w t j) refl);
      interfering = λ j h. dpcp_higher w t j h;
    }

-- A chosen row keeps the rules.
pub dflp_chosen_keeps : (w : Trace) (t : ℕ) → IsDflpChoice w t → KeepsRow dflp_rule w t
dflp_chosen_keeps w t chosen = chosen.keeps

-- Requests run at their homes, whichever holder runs.
pub dflp_at_homes : (w : Trace) (t : ℕ) → KeepsRow dflp_rule w t → RunsAtHomes w t
dflp_at_homes w t keeps = at_homes issue_tick_of w t (keeps rule.Run) (keeps rule.Idle) (keeps rule.Priority)

pub homes_before : (w : Trace) (n : ℕ) → KeepsBefore dflp_rule w n → RunsAtHomesBefore w n
homes_before w n keeps t l = dflp_at_homes w t (keeps t l)

-- Running jobs are active, and resources are granted in the order of issue.
pub dflp_runs_active : (w : Trace) (n : ℕ) → KeepsBefore dflp_rule w n → RunsActiveBefore w n
dflp_runs_active w n keeps t k j l e = let run : KeepsRun w t = keeps t l rule.Run in run.active k j e

pub grants_by_issue : (w : Trace) (n : ℕ) → KeepsBefore dflp_rule w n → GrantsByIssue w n
grants_by_issue w n keeps t l = keeps t l rule.Grant
