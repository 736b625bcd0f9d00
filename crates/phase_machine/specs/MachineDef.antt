-- A machine as mathematics sees it: how far each task is, and which job held which resource in the last row.
use Rattle.std.specs.Prelude.{◌≡◌, ℕ, ◌<◌, ◌≤◌, List, length, Option, None, Some, slice_index_or}
use Rattle.sporadic_model.specs.declared.limits.TheConstants.{MOST_TICKS}
use Rattle.schedule_model.specs.JobDef.{SegmentDef, JobDef, JobsDef, job_of, segment_ticks, no_segment}
use Rattle.schedule_model.specs.LawfulJobs.{AreLawfulJobs}
use Rattle.schedule_model.specs.JobLists.{IsJobList}
use Rattle.sporadic_model.specs.Accepted.{TaskNumbers}
use Rattle.schedule_model.specs.RowDef.{RowDef, Trace}
use Rattle.phase_machine.specs.declared.place.ScriptPlace.{ScriptPlace}

-- The jobs of a machine, the number of rows that it took, the place of each task, the holder of each resource in the last row, and for each
-- task its next job to be released.
pub record MachineDef : Type 0 where
  pub list : JobsDef
  pub tick : ℕ
  pub places : List ScriptPlace
  pub holders : List (Option ℕ)
  pub coming : List ℕ

-- What a look-up past the end gives.
abbrev pub no_place : ScriptPlace
no_place = record { job = 0; segment = 0; ticks = 0; issued = 0 }

-- The place of task x.
abbrev pub place_of : MachineDef → ℕ → ScriptPlace
place_of m x = slice_index_or m.places x no_place

-- The task's next job to be released, or the number of jobs if none is left.
abbrev pub coming_of : MachineDef → ℕ → ℕ
coming_of m x = slice_index_or m.coming x 0

-- The task of job j.
abbrev pub task_in : List JobDef → ℕ → ℕ
task_in jobs j = (job_of jobs j).task

-- Segment number n of job j.
abbrev pub segment_in : List JobDef → ℕ → ℕ → SegmentDef
segment_in jobs j n = slice_index_or (job_of jobs j).script n no_segment

-- The machine's jobs with these rows as a trace.
abbrev pub under : MachineDef → (ℕ → RowDef) → Trace
under m rows = record { set = m.list.set; jobs = m.list.jobs; row = rows }

-- Is j the first job of task x from number `from` on, or the number of jobs if there is none?
pub record IsNext (jobs : List JobDef) (x from j : ℕ) : Type 0 where
  pub from_on : from ≤ j
  pub most : j ≤ length jobs
  pub own : j < length jobs → task_in jobs j ≡ x
  pub first : (e : ℕ) → from ≤ e → e < j → task_in jobs e ≡ x → ⊥

-- A place of task x. Its job is one of the task, inside one of its segments. Or it is the end of the list.
pub record IsPlace (jobs : List JobDef) (x : ℕ) (p : ScriptPlace) : Type 0 where
  pub most : p.job ≤ length jobs
  pub own : p.job < length jobs → task_in jobs p.job ≡ x
  pub segment : p.job < length jobs → p.segment < length (job_of jobs p.job).script
  pub ticks : p.job < length jobs → p.ticks < segment_ticks (segment_in jobs p.job p.segment)

-- Is j the task's first job that is released after the tick, or the number of jobs if there is none?
pub record IsComing (jobs : List JobDef) (tick x j : ℕ) : Type 0 where
  pub most : j ≤ length jobs
  pub own : j < length jobs → task_in jobs j ≡ x
  pub later : j < length jobs → tick < (job_of jobs j).release
  pub earlier : (e : ℕ) → e < j → task_in jobs e ≡ x → (job_of jobs e).release ≤ tick

-- The same for the first job that is released at the tick or after it.
pub record IsDue (jobs : List JobDef) (tick x j : ℕ) : Type 0 where
  pub most : j ≤ length jobs
  pub own : j < length jobs → task_in jobs j ≡ x
  pub later : j < length jobs → tick ≤ (job_of jobs j).release
  pub earlier : (e : ℕ) → e < j → task_in jobs e ≡ x → (job_of jobs e).release ≤ tick

-- What is true of every machine, whatever rows it took. Its jobs are lawful and of an accepted set. Each task has its place and its next
-- job to be released. The holders are listed jobs.
pub record IsMachine (m : MachineDef) : Type 0 where
  pub lawful : AreLawfulJobs m.list
  pub numbers : (x : ℕ) → x < length m.list.set.tasks → TaskNumbers m.list.set x
  pub places_length : length m.places ≡ length m.list.set.tasks
  pub holders_length : length m.holders ≡ length m.list.set.resources
  pub coming_length : length m.coming ≡ length m.list.set.tasks
  pub place : (x : ℕ) → x < length m.list.set.tasks → IsPlace m.list.jobs x (place_of m x)
  pub coming : (x : ℕ) → x < length m.list.set.tasks → IsComing m.list.jobs m.tick x (coming_of m x)
  pub named : (q j : ℕ) → slice_index_or m.holders q None ≡ Some j → j < length m.list.jobs

-- The limits that every machine keeps too: those of its list, and at most 10^9 rows.
pub record IsWithinLimits (m : MachineDef) : Type 0 where
  pub list : IsJobList m.list
  pub most : m.tick ≤ MOST_TICKS
