-- Which row is possible at a tick, whatever the protocol?
use Rattle.std.specs.Prelude.{◌≡◌, ℕ, ◌<◌, true, length, Some}
use Rattle.schedule_model.specs.RowDef.{Trace, running_on, holder_in}
use Rattle.schedule_model.specs.Activity.{is_active}
use Rattle.schedule_model.specs.Chosen.{IsSized}

-- The row at tick t has the set's sizes, and names only jobs of the list.
pub record FitsJobs (w : Trace) (t : ℕ) : Type 0 where
  pub sized : IsSized w.set (w.row t)
  pub running : (k j : ℕ) → running_on (w.row t) k ≡ Some j → j < length w.jobs
  pub holders : (q j : ℕ) → holder_in (w.row t) q ≡ Some j → j < length w.jobs

-- The row at tick t can be taken after the rows before it. It fits the jobs, and each running job is active and in one column only. So the
-- phase of each job before the row tells its phase after it.
pub record CanBeTaken (w : Trace) (t : ℕ) : Type 0 where
  pub fits : FitsJobs w t
  pub active : (k j : ℕ) → running_on (w.row t) k ≡ Some j → is_active w t j ≡ true
  pub one_column : (k l j : ℕ) → running_on (w.row t) k ≡ Some j → running_on (w.row t) l ≡ Some j → k ≡ l

-- Each row before tick n can be taken after those before it.
abbrev pub CanBeTakenBefore : Trace → ℕ → Type 0
CanBeTakenBefore w n = (t : ℕ) → t < n → CanBeTaken w t
