-- The laws of `BlockingProtocol` for protocols whose requests run on their own task's processor, whatever the order of
-- their grants and runs, and so for MPCP and FMLP+.
use Rattle.std.proofs.Common.{◌≡◌, ℕ, ◌+◌, ◌&&◌, not, Bool, true, false, refl, sym, ◌∙◌, Option, Some, None}
use Rattle.std.specs.Option.{option_map_or}
use Rattle.std.proofs.lemmas.Bool.{and_parts}
use Rattle.number_laws.specs.Sums.{flag}
use Rattle.sporadic_model.specs.SetDef.{is_higher_local}
use Rattle.schedule_model.specs.declared.rule.Rule.TheVariants as rule
use Rattle.schedule_model.specs.RowDef.{Trace, running_on, runs_in}
use Rattle.schedule_model.specs.Activity.{task_of, processor_of, is_active}
use Rattle.schedule_model.specs.SharedRules.{Ranks, KeepsRun, KeepsGrant}
use Rattle.schedule_model.specs.Protocols.{shared_rule}
use Rattle.schedule_model.specs.Keeping.{KeepsRow, KeepsBefore}
use Rattle.schedule_model.specs.Chosen.{IsSharedChoice}
use Rattle.schedule_model.specs.BlockedTicks.{is_executing, is_delayed, runs_higher, is_shared_interference, is_blocked}
use Rattle.schedule_model.specs.ProtocolLaws.{IsOneOfThree, HasHigherRunner, IsSoundRow}
use Rattle.schedule_laws.specs.Agreement.{RunsActiveBefore}
use Rattle.schedule_laws.proofs.ActiveJobs.{requester_listed}
use Rattle.schedule_laws.proofs.Rows.{ready_active, ready_listed}

-- A tick is active and runs, or it is active and doesn't, with or without what interferes.
pub three_flags : (a r h : Bool) → flag (a && r) + flag ((a && not r) && h) + flag ((a && not r) && not ((a && not r) && h)) ≡ flag a
three_flags true true true = refl
three_flags true true false = refl
three_flags true false true = refl
three_flags true false false = refl
three_flags false r h = refl

-- Each active tick is one of executing, interference and blocked, and no other tick is.
pub shared_one_of_three : (w : Trace) (t j : ℕ) → IsOneOfThree is_shared_interference w t j
unfolding is_executing is_blocked is_shared_interference is_delayed
shared_one_of_three w t j = three_flags (is_active w t j) (runs_in (w.row t) j) (runs_higher w t j)

runner_of : (w : Trace) (t j : ℕ) (o : Option ℕ) → running_on (w.row t) (processor_of w j) ≡ o
    → option_map_or (λ r. is_higher_local w.set (task_of w j) (task_of w r)) o false ≡ true → HasHigherRunner w t j
runner_of w t j None e h = absurd (cc)
runner_of w t j (Some r) e h = record { runner = r; runs = e; higher = h }

-- Where a tick is interference, a job of a higher task of the job's processor runs there.
pub shared_interfering : (w : Trace) (t j : ℕ) → is_shared_interference w t j ≡ true → HasHigherRunner w t j
unfolding is_shared_interference runs_higher
shared_interfering w t j h = runner_of w t j (running_on (w.row t) (processor_of w j)) refl (and_parts _ _ h).1

-- A row that keeps the rules is sound.
pub shared_sound_row : (o : Ranks) (w : Trace) (t : ℕ) → KeepsRow (shared_rule o) w t → IsSoundRow is_shared_interference w t
shared_sound_row o w t keeps =
    let run : KeepsRun w t = keeps rule.Run in
    let grant : KeepsGrant o w t = keeps rule.Grant in
    record {
      running_listed = λ k j e. ready_listed w t j (run.ready k j e);
      holders_listed = λ q j e. requester_listed w t q j (grant.requests q j e);
      active = λ k j e. ready_active w t j (run.ready k j e);
      one_column = λ k l j e f. run.column k j e ∙ sym (run.column l j f);
      interfering = λ j h. shared_interfering w t j h;
    }

-- A chosen row keeps the rules.
pub shared_chosen_keeps : (o : Ranks) (w : Trace) (t : ℕ) → IsSharedChoice o w t → KeepsRow (shared_rule o) w t
shared_chosen_keeps o w t chosen = chosen.keeps

-- In rows that keep the rules running jobs are active.
pub shared_runs_active : (o : Ranks) (w : Trace) (n : ℕ) → KeepsBefore (shared_rule o) w n → RunsActiveBefore w n
shared_runs_active o w n keeps t k j l e = let run : KeepsRun w t = keeps t l rule.Run in ready_active w t j (run.ready k j e)
