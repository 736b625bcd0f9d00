-- What is measured of a schedule. For each task: how many jobs finished, their greatest response, and the greatest blocking of its jobs.
use Rattle.std.specs.Prelude.{ℕ, zero, suc, ◌-◌, ◌==◌, ◌&&◌, Bool, max, length, if◌then◌else◌, Option, None, Some}
use Rattle.number_laws.specs.Sums.{only_if}
use Rattle.number_laws.specs.Tests.{count_below, first_below}
use Rattle.schedule_model.specs.JobDef.{job_of}
use Rattle.schedule_model.specs.RowDef.{Trace}
use Rattle.schedule_model.specs.Phase.{is_finished, phase_of}
use Rattle.schedule_model.specs.Activity.{task_of}
use Rattle.schedule_model.specs.BlockedTicks.{is_blocked}

-- The greatest of f 0, .., f (n - 1), and 0 if n is 0.
abbrev pub greatest_below : ℕ → (ℕ → ℕ) → ℕ
greatest_below zero f = 0
greatest_below (suc n) f = max (greatest_below n f) (f n)

-- Is job j finished after n rows?
unfoldable pub has_finished : Trace → ℕ → ℕ → Bool
has_finished w n j = is_finished (phase_of w n j)

-- At which tick is job j first finished? It is the tick after the last one at which the job runs.
unfoldable pub finish_of : Trace → ℕ → ℕ → ℕ
finish_of w n j = first_below n (λ t. is_finished (phase_of w t j))

-- The response of job j, if it finished within n rows: the ticks from its release until it is finished.
unfoldable pub response_of : Trace → ℕ → ℕ → ℕ
response_of w n j = finish_of w n j - (job_of w.jobs j).release

-- At how many of n ticks was job j blocked? The first argument says which ticks are interference.
unfoldable pub blocking_of : (Trace → ℕ → ℕ → Bool) → Trace → ℕ → ℕ → ℕ
blocking_of interferes w n j = count_below n (λ t. is_blocked interferes w t j)

-- The measures of a task.
pub record MeasuresDef : Type 0 where
  pub finished : ℕ
  pub response : Option ℕ
  pub blocking : ℕ

-- Is job j of task x, and finished after n rows?
unfoldable pub counts_for : Trace → ℕ → ℕ → ℕ → Bool
counts_for w n x j = (task_of w j == x) && has_finished w n j

-- How many jobs of task x finished within n rows?
unfoldable pub finished_jobs : Trace → ℕ → ℕ → ℕ
finished_jobs w n x = count_below (length w.jobs) (counts_for w n x)

-- What is measured of task x over n rows? The first argument says which ticks are interference. The response is the longest of a finished
-- job. The blocking is the greatest of any job, finished or not.
unfoldable pub measures_of : (Trace → ℕ → ℕ → Bool) → Trace → ℕ → ℕ → MeasuresDef
measures_of interferes w n x = record {
  finished = finished_jobs w n x;
  response = if finished_jobs w n x == 0 then None
      else Some (greatest_below (length w.jobs) (λ j. only_if (counts_for w n x j) (response_of w n j)));
  blocking = greatest_below (length w.jobs) (λ j. only_if (task_of w j == x) (blocking_of interferes w n j));
}
