-- How the places of tasks move when a row is taken a number of times.
use Rattle.std.specs.Prelude.{◌≡◌, ℕ, ◌+◌, ◌<◌, ◌≤◌, ◌==◌, true, false, if◌then◌else◌, length, List, Option, None, Some, slice_index_or}
use Rattle.std.specs.List.{list_any}
use Rattle.schedule_model.specs.JobDef.{JobDef, JobsDef, job_of, segment_ticks}
use Rattle.schedule_model.specs.RowDef.{is_job}
use Rattle.phase_machine.specs.declared.place.ScriptPlace.{ScriptPlace}
use Rattle.phase_machine.specs.MachineDef.{IsNext, IsPlace, segment_in, task_in, no_place}

-- The issue tick after this many more ticks of the place's segment, at tick `after`. If the request begins then, it is that tick.
abbrev pub issued_after : List JobDef → ℕ → ℕ → ScriptPlace → ℕ
issued_after jobs after more p = if p.ticks + more == (segment_in jobs p.job p.segment).local then after else p.issued

-- The place of task x after its job has executed this many more ticks of the segment, at tick `after`. It is further in the segment, at the
-- next segment, or at the task's next job.
pub record StepsTo (jobs : List JobDef) (after more x : ℕ) (p n : ScriptPlace) : Type 0 where
  pub further : p.ticks + more < segment_ticks (segment_in jobs p.job p.segment)
      → n ≡ record { job = p.job; segment = p.segment; ticks = p.ticks + more; issued = issued_after jobs after more p }
  pub next : segment_ticks (segment_in jobs p.job p.segment) ≤ p.ticks + more → p.segment + 1 < length (job_of jobs p.job).script
      → n ≡ record { job = p.job; segment = p.segment + 1; ticks = 0; issued = p.issued }
  pub over : segment_ticks (segment_in jobs p.job p.segment) ≤ p.ticks + more → length (job_of jobs p.job).script ≤ p.segment + 1
      → IsNext jobs x (p.job + 1) n.job × (n.segment ≡ 0) × (n.ticks ≡ 0)

-- The place of task x after this many rows with these running jobs. It moves if the task's job runs, and else stays.
pub record MovesTo (jobs : List JobDef) (after more : ℕ) (running : List (Option ℕ)) (x : ℕ) (p n : ScriptPlace) : Type 0 where
  pub runs : list_any (is_job p.job) running ≡ true → StepsTo jobs after more x p n
  pub stays : list_any (is_job p.job) running ≡ false → n ≡ p

-- Has each task a place in the list?
pub record ArePlaces (list : JobsDef) (places : List ScriptPlace) : Type 0 where
  pub size : length places ≡ length list.set.tasks
  pub each : (x : ℕ) → x < length list.set.tasks → IsPlace list.jobs x (slice_index_or places x no_place)

-- Is each of these running jobs listed, in one column only, and the job of its task's place?
pub record AreCurrent (jobs : List JobDef) (places : List ScriptPlace) (running : List (Option ℕ)) : Type 0 where
  pub listed : (c j : ℕ) → slice_index_or running c None ≡ Some j → j < length jobs
  pub current : (c j : ℕ) → slice_index_or running c None ≡ Some j → (slice_index_or places (task_in jobs j) no_place).job ≡ j
  pub one_column : (c d j : ℕ) → slice_index_or running c None ≡ Some j → slice_index_or running d None ≡ Some j → c ≡ d
