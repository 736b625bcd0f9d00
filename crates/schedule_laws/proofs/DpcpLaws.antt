-- The laws of `BlockingProtocol` for DPCP.
use Rattle.std.proofs.Common.{◌≡◌, ℕ, ◌&&◌, true, false, refl, sym, ◌∙◌, Option, Some, None}
use Rattle.std.specs.Option.{option_map_or}
use Rattle.std.proofs.lemmas.Bool.{and_parts, eq-eqb}
use Rattle.sporadic_model.specs.SetDef.{is_higher_local}
use Rattle.schedule_model.specs.declared.rule.Rule.TheVariants as rule
use Rattle.schedule_model.specs.RowDef.{Trace, running_on, runs_in}
use Rattle.schedule_model.specs.Phase.{Phase, is_local, is_finished, phase_of}
use Rattle.schedule_model.specs.Phase.Phase.{Local, Asking, Finished}
use Rattle.schedule_model.specs.Activity.{task_of, processor_of, is_active}
use Rattle.schedule_model.specs.DpcpRules.{KeepsRun, KeepsGrant, home_of}
use Rattle.schedule_model.specs.Protocols.{dpcp_rule}
use Rattle.schedule_model.specs.Keeping.{KeepsRow, KeepsBefore}
use Rattle.schedule_model.specs.Chosen.{IsDpcpChoice}
use Rattle.schedule_model.specs.BlockedTicks.{is_executing, is_delayed, runs_higher_local, is_dpcp_interference, is_blocked}
use Rattle.schedule_model.specs.ProtocolLaws.{IsOneOfThree, HasHigherRunner, IsSoundRow}
use Rattle.schedule_laws.specs.Agreement.{RunsActiveBefore}
use Rattle.schedule_laws.proofs.ActiveJobs.{Active, active_is, active_listed, requester_listed}
use Rattle.schedule_laws.proofs.SharedLaws.{three_flags}

-- Each active tick is one of executing, interference and blocked, and no other tick is.
pub dpcp_one_of_three : (w : Trace) (t j : ℕ) → IsOneOfThree is_dpcp_interference w t j
unfolding is_executing is_blocked is_dpcp_interference is_delayed
dpcp_one_of_three w t j = three_flags (is_active w t j) (runs_in (w.row t) j) (runs_higher_local w t j)

-- A Local job of a higher task of j's processor that runs there.
pub record HigherLocalRunner (w : Trace) (t j : ℕ) : Type 0 where
  pub runner : ℕ
  pub runs : running_on (w.row t) (processor_of w j) ≡ Some runner
  pub higher : is_higher_local w.set (task_of w j) (task_of w runner) ≡ true
  pub local : is_local (phase_of w t runner) ≡ true

runner_of : (w : Trace) (t j : ℕ) (o : Option ℕ) → running_on (w.row t) (processor_of w j) ≡ o
    → option_map_or (λ r. is_higher_local w.set (task_of w j) (task_of w r) && is_local (phase_of w t r)) o false ≡ true
    → HigherLocalRunner w t j
runner_of w t j None e h = absurd (cc)
runner_of w t j (Some r) e h =
    let parts : (is_higher_local w.set (task_of w j) (task_of w r) ≡ true) × (is_local (phase_of w t r) ≡ true) =
    and_parts (is_higher_local w.set (task_of w j) (task_of w r)) (is_local (phase_of w t r)) h in
    record { runner = r; runs = e; higher = parts.0; local = parts.1 }

-- Where a tick is interference, a Local job of a higher task of the job's processor runs there.
pub dpcp_interfering : (w : Trace) (t j : ℕ) → is_dpcp_interference w t j ≡ true → HigherLocalRunner w t j
unfolding is_dpcp_interference runs_higher_local
dpcp_interfering w t j h = runner_of w t j (running_on (w.row t) (processor_of w j)) refl (and_parts _ _ h).1

pub dpcp_higher : (w : Trace) (t j : ℕ) → is_dpcp_interference w t j ≡ true → HasHigherRunner w t j
dpcp_higher w t j h = let r : HigherLocalRunner w t j = dpcp_interfering w t j h in
    record { runner = r.runner; runs = r.runs; higher = r.higher }

-- The processor at which a job runs: its own where it is Local, the home of what it requests where it is in a request.
abbrev pub column_of : Trace → ℕ → Phase → ℕ
column_of w j (Asking m q) = home_of w q
column_of w j _ = processor_of w j

pub column_is : (w : Trace) (t k j : ℕ) → KeepsRun w t → running_on (w.row t) k ≡ Some j → (p : Phase) → phase_of w t j ≡ p
    → k ≡ column_of w j p
column_is w t k j run e Local h = run.local k j e (rw h refl)
column_is w t k j run e (Asking m q) h = (run.request k j q e (rw h (eq-eqb q q refl))).0
column_is w t k j run e Finished h =
    let a : Active w t j = active_is w t j (run.active k j e) in
    let x : is_finished (phase_of w t j) ≡ true = rw h refl in
    let y : is_finished (phase_of w t j) ≡ false = a.unfinished in
    absurd (cc)

-- A row that keeps the rules is sound.
pub dpcp_sound_row : (w : Trace) (t : ℕ) → KeepsRow dpcp_rule w t → IsSoundRow is_dpcp_interference w t
dpcp_sound_row w t keeps =
    let run : KeepsRun w t = keeps rule.Run in
    let grant : KeepsGrant w t = keeps rule.Grant in
    record {
      running_listed = λ k j e. active_listed w t j (run.active k j e);
      holders_listed = λ q j e. requester_listed w t q j (grant.requests q j e);
      active = λ k j e. run.active k j e;
      one_column = λ k l j e f. column_is w t k j run e (phase_of w t j) refl ∙ sym (column_is w t l j run f (phase_of w t j) refl);
      interfering = λ j h. dpcp_higher w t j h;
    }

-- A chosen row keeps the rules.
pub dpcp_chosen_keeps : (w : Trace) (t : ℕ) → IsDpcpChoice w t → KeepsRow dpcp_rule w t
dpcp_chosen_keeps w t chosen = chosen.keeps

-- In rows that keep the rules running jobs are active.
pub dpcp_runs_active : (w : Trace) (n : ℕ) → KeepsBefore dpcp_rule w n → RunsActiveBefore w n
dpcp_runs_active w n keeps t k j l e = let run : KeepsRun w t = keeps t l rule.Run in run.active k j e
