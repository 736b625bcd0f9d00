-- In which window are the ticks of a job counted, and which jobs have ended within theirs?
use Rattle.std.specs.Prelude.{◌≡◌, ℕ, ◌+◌, ◌<◌, ◌≤◌, length, min}
use Rattle.sporadic_model.specs.SetDef.{SetDef, task_at, latest_bound}
use Rattle.schedule_model.specs.JobDef.{job_of}
use Rattle.schedule_model.specs.RowDef.{Trace}
use Rattle.schedule_model.specs.Phase.{phase_of}
use Rattle.schedule_model.specs.Phase.Phase.{Finished}
use Rattle.schedule_model.specs.Activity.{task_of}

-- By when is job j to be finished? By its release plus its task's bound.
abbrev pub bound_end : Trace → (ℕ → ℕ) → ℕ → ℕ
bound_end w bound j = (job_of w.jobs j).release + bound (task_of w j)

-- The end of job j's window in a schedule of n rows: the ticks of the window are before it. Nothing is counted past the rows. No tick
-- before the job's release is blocked, interference or charged.
abbrev pub window_end : Trace → (ℕ → ℕ) → ℕ → ℕ → ℕ
window_end w bound n j = min (bound_end w bound j) n

-- Is each job whose release plus bound is at most r finished by its own release plus its bound?
abbrev pub EndedBy : Trace → (ℕ → ℕ) → ℕ → Type 0
EndedBy w bound r = (l : ℕ) → l < length w.jobs → bound_end w bound l ≤ r → phase_of w (bound_end w bound l) l ≡ Finished

-- The same of each job whose release plus bound is less than e, and lies within n rows.
abbrev pub EndedWithin : Trace → (ℕ → ℕ) → ℕ → ℕ → Type 0
EndedWithin w bound e n =
    (l : ℕ) → l < length w.jobs → bound_end w bound l < e → bound_end w bound l ≤ n → phase_of w (bound_end w bound l) l ≡ Finished

-- The same of each job whose release plus bound is less than e, however many rows there are.
abbrev pub EndedBefore : Trace → (ℕ → ℕ) → ℕ → Type 0
EndedBefore w bound e = (l : ℕ) → l < length w.jobs → bound_end w bound l < e → phase_of w (bound_end w bound l) l ≡ Finished

-- Are these bounds that an analysis gives: for each task of the set from 1 to its latest bound?
pub record AreBounds (set : SetDef) (bound : ℕ → ℕ) : Type 0 where
  pub from : (x : ℕ) → x < length set.tasks → 1 ≤ bound x
  pub latest : (x : ℕ) → x < length set.tasks → bound x ≤ latest_bound (task_at set x)
