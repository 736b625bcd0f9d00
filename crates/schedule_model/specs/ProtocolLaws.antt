-- What follows from each protocol's rules: the three kinds of ticks, and what is true of the jobs that a row names.
use Rattle.std.specs.Prelude.{◌≡◌, ℕ, ◌+◌, ◌<◌, Bool, true, length, Some}
use Rattle.number_laws.specs.Sums.{flag}
use Rattle.sporadic_model.specs.SetDef.{is_higher_local}
use Rattle.schedule_model.specs.RowDef.{Trace, running_on, holder_in}
use Rattle.schedule_model.specs.Activity.{task_of, processor_of, is_active}
use Rattle.schedule_model.specs.BlockedTicks.{is_executing, is_blocked}

-- A tick at which a job is active is exactly one of three for it: the job executes, the tick is interference, or it is blocked. A tick at
-- which the job isn't active is none of them.
abbrev pub IsOneOfThree : (Trace → ℕ → ℕ → Bool) → Trace → ℕ → ℕ → Type 0
IsOneOfThree interferes w t j =
    flag (is_executing w t j) + flag (interferes w t j) + flag (is_blocked interferes w t j) ≡ flag (is_active w t j)

-- Does a job of a higher task of j's processor run on that processor?
pub record HasHigherRunner (w : Trace) (t j : ℕ) : Type 0 where
  pub runner : ℕ
  pub runs : running_on (w.row t) (processor_of w j) ≡ Some runner
  pub higher : is_higher_local w.set (task_of w j) (task_of w runner) ≡ true

-- In a row that keeps the rules each named job is in the list. Each running job is active, and is in one column only. Where the tick is
-- interference for a job, a job of a higher task of its processor runs there.
pub record IsSoundRow (interferes : Trace → ℕ → ℕ → Bool) (w : Trace) (t : ℕ) : Type 0 where
  pub running_listed : (k j : ℕ) → running_on (w.row t) k ≡ Some j → j < length w.jobs
  pub holders_listed : (q j : ℕ) → holder_in (w.row t) q ≡ Some j → j < length w.jobs
  pub active : (k j : ℕ) → running_on (w.row t) k ≡ Some j → is_active w t j ≡ true
  pub one_column : (k l j : ℕ) → running_on (w.row t) k ≡ Some j → running_on (w.row t) l ≡ Some j → k ≡ l
  pub interfering : (j : ℕ) → interferes w t j ≡ true → HasHigherRunner w t j
