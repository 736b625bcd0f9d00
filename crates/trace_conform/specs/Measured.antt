-- The measures of a task, from the counts of its jobs and from the machine at the end.
use Rattle.std.specs.Prelude.{◌≡◌, ℕ, ◌-◌, ◌<◌, ◌==◌, ◌&&◌, Bool, List, length, slice_index_or, None, Some, if◌then◌else◌}
use Rattle.number_laws.specs.Sums.{only_if}
use Rattle.number_laws.specs.Tests.{count_below}
use Rattle.schedule_model.specs.JobDef.{job_of}
use Rattle.schedule_model.specs.Phase.{is_finished}
use Rattle.schedule_model.specs.Measures.{MeasuresDef, greatest_below}
use Rattle.phase_machine.specs.MachineDef.{MachineDef, task_in}
use Rattle.phase_machine.specs.Now.{phase_now}
use Rattle.schedule_answers.specs.declared.judged.TaskMeasure.{TaskMeasure}
use Rattle.schedule_answers.specs.TaskAnswers.{no_measure, measure_seen}
use Rattle.trace_conform.specs.declared.counts.JobCount.{JobCount}
use Rattle.trace_conform.specs.Counts.{count_at}

-- Is job j of task x, and finished?
unfoldable pub counts_now : MachineDef → ℕ → ℕ → Bool
counts_now m x j = (task_in m.list.jobs j == x) && is_finished (phase_now m j)

-- The response of job j, if it is of task x and finished, and else 0.
unfoldable pub response_now : MachineDef → List JobCount → ℕ → ℕ → ℕ
response_now m counts x j = only_if (counts_now m x j) ((count_at counts j).end - (job_of m.list.jobs j).release)

-- The blocking of job j, if it is of task x, and else 0.
unfoldable pub blocking_now : MachineDef → List JobCount → ℕ → ℕ → ℕ
blocking_now m counts x j = only_if (task_in m.list.jobs j == x) (count_at counts j).blocked

-- The measures of task x.
unfoldable pub measures_now : MachineDef → List JobCount → ℕ → MeasuresDef
measures_now m counts x = record {
  finished = count_below (length m.list.jobs) (counts_now m x);
  response = if count_below (length m.list.jobs) (counts_now m x) == 0 then None
      else Some (greatest_below (length m.list.jobs) (response_now m counts x));
  blocking = greatest_below (length m.list.jobs) (blocking_now m counts x);
}

-- Is j one of the machine's jobs, and is there a count for each of them?
pub record HasCount (m : MachineDef) (counts : List JobCount) (j : ℕ) : Type 0 where
  pub listed : j < length m.list.jobs
  pub size : length counts ≡ length m.list.jobs

-- Are these the measures of each task?
pub record MeasuresEach (m : MachineDef) (counts : List JobCount) (measures : List TaskMeasure) : Type 0 where
  pub size : length measures ≡ length m.list.set.tasks
  pub each : (x : ℕ) → x < length m.list.set.tasks → measure_seen (slice_index_or measures x no_measure) ≡ measures_now m counts x
