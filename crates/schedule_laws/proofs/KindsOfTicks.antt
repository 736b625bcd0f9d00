-- What a tick is for a job: executing, delayed, blocked, and what a higher task is.
use Rattle.std.proofs.Common.{◌≡◌, ℕ, ◌<◌, not, Bool, true, false, ltb}
use Rattle.std.proofs.lemmas.Bool.{and_parts, and_from, not-true, not_from_false, ltb-true, lt-ltb, eqb-true, eq-eqb}
use Rattle.sporadic_model.specs.SetDef.{SetDef, task_at, is_higher_local}
use Rattle.schedule_model.specs.RowDef.{Trace, runs_in}
use Rattle.schedule_model.specs.Activity.{is_active}
use Rattle.schedule_model.specs.BlockedTicks.{is_executing, is_delayed, is_blocked}

-- A job that is active and doesn't run, and one that is blocked where these ticks are interference.
pub record Delayed (w : Trace) (t j : ℕ) : Type 0 where
  pub active : is_active w t j ≡ true
  pub waits : runs_in (w.row t) j ≡ false

-- A delayed job is active and doesn't run.
pub delayed_is : (w : Trace) (t j : ℕ) → is_delayed w t j ≡ true → Delayed w t j
unfolding is_delayed
delayed_is w t j h = let parts : (is_active w t j ≡ true) × (not (runs_in (w.row t) j) ≡ true) = and_parts _ _ h in
    record { active = parts.0; waits = not-true _ parts.1 }

-- An active job that doesn't run is delayed.
pub delayed_from : (w : Trace) (t j : ℕ) → is_active w t j ≡ true → runs_in (w.row t) j ≡ false → is_delayed w t j ≡ true
unfolding is_delayed
delayed_from w t j a h = and_from _ _ a (not_from_false _ h)

pub record Blocked (interferes : Trace → ℕ → ℕ → Bool) (w : Trace) (t j : ℕ) : Type 0 where
  pub active : is_active w t j ≡ true
  pub waits : runs_in (w.row t) j ≡ false
  pub free : interferes w t j ≡ false

-- A blocked job is active, doesn't run, and isn't interfered with.
pub blocked_is : (interferes : Trace → ℕ → ℕ → Bool) (w : Trace) (t j : ℕ) → is_blocked interferes w t j ≡ true → Blocked interferes w t j
unfolding is_blocked
blocked_is interferes w t j h =
    let parts : (is_delayed w t j ≡ true) × (not (interferes w t j) ≡ true) = and_parts _ _ h in
    let d : Delayed w t j = delayed_is w t j parts.0 in
    record { active = d.active; waits = d.waits; free = not-true _ parts.1 }

-- An active job that doesn't run and isn't interfered with is blocked.
pub blocked_from : (interferes : Trace → ℕ → ℕ → Bool) (w : Trace) (t j : ℕ) → is_active w t j ≡ true
    → runs_in (w.row t) j ≡ false → interferes w t j ≡ false → is_blocked interferes w t j ≡ true
unfolding is_blocked
blocked_from interferes w t j a h f = and_from _ _ (delayed_from w t j a h) (not_from_false _ f)

-- A job that executes.
pub record Executing (w : Trace) (t j : ℕ) : Type 0 where
  pub active : is_active w t j ≡ true
  pub runs : runs_in (w.row t) j ≡ true

-- A job that executes is active and runs.
pub executing_is : (w : Trace) (t j : ℕ) → is_executing w t j ≡ true → Executing w t j
unfolding is_executing
executing_is w t j h = let parts : (is_active w t j ≡ true) × (runs_in (w.row t) j ≡ true) = and_parts _ _ h in
    record { active = parts.0; runs = parts.1 }

-- An active job that runs executes.
pub executing_from : (w : Trace) (t j : ℕ) → is_active w t j ≡ true → runs_in (w.row t) j ≡ true → is_executing w t j ≡ true
unfolding is_executing
executing_from w t j a h = and_from _ _ a h

-- A higher task of a task's processor.
pub record HigherLocal (set : SetDef) (i h : ℕ) : Type 0 where
  pub higher : h < i
  pub processor : (task_at set h).processor ≡ (task_at set i).processor

-- A higher local task is higher, and on the same processor.
pub higher_local_is : (set : SetDef) (i h : ℕ) → is_higher_local set i h ≡ true → HigherLocal set i h
higher_local_is set i h e =
    let parts : (ltb h i ≡ true) × _ = and_parts _ _ e in
    record { higher = ltb-true h i parts.0; processor = eqb-true _ _ parts.1 }

-- A higher task on the same processor is a higher local one.
pub higher_local_from : (set : SetDef) (i h : ℕ) → h < i → (task_at set h).processor ≡ (task_at set i).processor
    → is_higher_local set i h ≡ true
higher_local_from set i h l e = and_from _ _ (lt-ltb h i l) (eq-eqb _ _ e)
