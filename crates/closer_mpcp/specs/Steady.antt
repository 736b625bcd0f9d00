-- Up to how many ticks as many jobs of a task run as in one tick. In each, x is the task.
use Rattle.std.specs.Prelude.{◌≡◌, ℕ, ◌<◌, ◌≤◌, length}
use Rattle.sporadic_model.specs.SetDef.{SetDef}
use Rattle.blocking_columns.specs.Windows.{jobs_during}
use Rattle.closer_mpcp.specs.declared.steady.Steady.{Steady}

-- Can as many jobs run in each span from one tick up to this many as in one tick?
abbrev pub JobsStay : SetDef → (ℕ → ℕ) → ℕ → ℕ → Type 0
JobsStay set bounds x ticks = (w : ℕ) → 1 ≤ w → w ≤ ticks → jobs_during set bounds w x ≡ jobs_during set bounds 1 x

-- Is it so of each task?
abbrev pub AllJobsStay : SetDef → (ℕ → ℕ) → ℕ → Type 0
AllJobsStay set bounds ticks = (x : ℕ) → x < length set.tasks → JobsStay set bounds x ticks

-- Is it said how many jobs can run in one tick, and up to how many ticks no more can?
pub record IsSteady (set : SetDef) (bounds : ℕ → ℕ) (x : ℕ) (steady : Steady) : Type 0 where
  pub one : steady.jobs ≡ jobs_during set bounds 1 x
  pub stay : JobsStay set bounds x steady.ticks

-- Do equally many run at the bounds r and s, if it is for any ticks at all?
pub record IsCommonOf (set : SetDef) (r s : ℕ → ℕ) (x ticks : ℕ) : Type 0 where
  pub earlier : JobsStay set r x ticks
  pub now : JobsStay set s x ticks
  pub one : 1 ≤ ticks → jobs_during set r 1 x ≡ jobs_during set s 1 x

-- Is it so of each task?
abbrev pub AreCommon : SetDef → (ℕ → ℕ) → (ℕ → ℕ) → ℕ → Type 0
AreCommon set r s ticks = (x : ℕ) → x < length set.tasks → IsCommonOf set r s x ticks
