-- Tests of the active job of each task, and what a machine says of such a job, against a schedule that it shows.
use Rattle.std.proofs.Common.{◌≡◌, ℕ, ◌<◌, Bool, true, length, refl, sym, ap, ◌∙◌, Option, Some, None}
use Rattle.std.specs.Option.{option_map_or}
use Rattle.number_laws.proofs.TestLaws.{all_below-each, all_below-from}
use Rattle.schedule_model.specs.RowDef.{RowDef, holder_in}
use Rattle.schedule_model.specs.Activity.{is_active, is_active_local, is_ready_holder, is_ready}
use Rattle.schedule_model.specs.SharedRules.{Ranks}
use Rattle.schedule_laws.proofs.ActiveJobs.{active_listed, requester_from}
use Rattle.schedule_laws.proofs.Rows.{ReadyHolder, ready_holder_is}
use Rattle.phase_machine.specs.MachineDef.{MachineDef, task_in, under}
use Rattle.phase_machine.specs.Now.{current_now}
use Rattle.phase_machine.specs.Shows.{Shows}
use Rattle.phase_machine.proofs.Lawful.{task_listed}
use Rattle.phase_machine.proofs.Facts.{phase_shown, current_shown, current_from}
use Rattle.phase_machine.specs.Order.{GivesRanks}
use Rattle.phase_machine.specs.Now.{is_local_now, holds_now, may_run_now}
use Rattle.shared_rules.specs.RowTests.{current_passes, each_current}

-- An active job is of a task of the set.
pub task_below : (m : MachineDef) (rows : ℕ → RowDef) (j : ℕ) → Shows m rows → is_active (under m rows) m.tick j ≡ true
    → task_in m.list.jobs j < length m.list.set.tasks
task_below m rows j shows a = task_listed m.list j shows.machine.lawful (active_listed (under m rows) m.tick j a)

-- Where the active job of each task passes, each active job does.
pub each_is : (m : MachineDef) (rows : ℕ → RowDef) (p : ℕ → Bool) (i : ℕ) → Shows m rows → each_current m p ≡ true
    → is_active (under m rows) m.tick i ≡ true → p i ≡ true
unfolding each_current
each_is m rows p i shows h a =
    let passes : current_passes m p (task_in m.list.jobs i) ≡ true =
    all_below-each (length m.list.set.tasks) (current_passes m p) h (task_in m.list.jobs i) (task_below m rows i shows a) in
    sym (ap (λ o. option_map_or p o true) (current_from m rows i shows a)) ∙ passes

-- And where each active job passes, the active job of each task does.
pub each_from : (m : MachineDef) (rows : ℕ → RowDef) (p : ℕ → Bool) → Shows m rows
    → ((i : ℕ) → is_active (under m rows) m.tick i ≡ true → p i ≡ true) → each_current m p ≡ true
unfolding each_current
each_from m rows p shows h = all_below-from (length m.list.set.tasks) (current_passes m p) (λ x l. at_task x l (current_now m x) refl) where
  at_task : (x : ℕ) → x < length m.list.set.tasks → (o : Option ℕ) → current_now m x ≡ o → current_passes m p x ≡ true
  at_task x l None e = ap (λ o. option_map_or p o true) e
  at_task x l (Some i) e = ap (λ o. option_map_or p o true) e ∙ h i (current_shown m rows x i shows l e).0

-- What the machine says of an active job.
pub local_shown : (m : MachineDef) (rows : ℕ → RowDef) (j : ℕ) → Shows m rows → is_active (under m rows) m.tick j ≡ true
    → is_local_now m j ≡ is_active_local (under m rows) m.tick j
unfolding is_active_local
local_shown m rows j shows a = rw (a, phase_shown m rows j shows (active_listed (under m rows) m.tick j a)) refl

pub holds_shown : (m : MachineDef) (rows : ℕ → RowDef) (j : ℕ) → Shows m rows → is_active (under m rows) m.tick j ≡ true
    → holds_now m (holder_in (rows m.tick)) j ≡ is_ready_holder (under m rows) m.tick j
unfolding is_ready_holder
holds_shown m rows j shows a = rw (a, phase_shown m rows j shows (active_listed (under m rows) m.tick j a)) refl

pub may_run_shown : (m : MachineDef) (rows : ℕ → RowDef) (j : ℕ) → Shows m rows → is_active (under m rows) m.tick j ≡ true
    → may_run_now m (holder_in (rows m.tick)) j ≡ is_ready (under m rows) m.tick j
unfolding is_ready
may_run_shown m rows j shows a = rw (local_shown m rows j shows a, holds_shown m rows j shows a) refl

-- The number in the order of running holders, of a ready holder.
pub run_given : (o : Ranks) (grants runs : MachineDef → ℕ → ℕ) (m : MachineDef) (rows : ℕ → RowDef) (j : ℕ)
    → GivesRanks o grants runs → Shows m rows
    → is_ready_holder (under m rows) m.tick j ≡ true → runs m j ≡ o.run (under m rows) m.tick j
run_given o grants runs m rows j gives shows h =
    let r : ReadyHolder (under m rows) m.tick j = ready_holder_is (under m rows) m.tick j h in
    gives.run m rows shows r.resource j (requester_from (under m rows) m.tick r.resource j r.number r.active r.phase)
