-- What functions on jobs, on places of tasks and on columns of a row are given, and what they answer.
use Rattle.std.specs.Prelude.{◌≡◌, ℕ, ◌+◌, ◌<◌, ◌≤◌, true, false, Bool, List, length, Option, Some, None, IfSome, slice_index_or}
use Rattle.sporadic_model.specs.declared.limits.TheConstants.{MOST_TICKS}
use Rattle.sporadic_model.specs.Accepted.{TaskNumbers}
use Rattle.schedule_model.specs.declared.job.JobId.{JobId}
use Rattle.schedule_model.specs.declared.job.Segment.{Segment}
use Rattle.schedule_model.specs.JobDef.{SegmentDef, JobDef, JobsDef, job_of, segment_ticks}
use Rattle.schedule_model.specs.LawfulJobs.{is_resource_in, AreLawfulJobs}
use Rattle.schedule_model.specs.JobLists.{IsJobList, is_listed_segment}
use Rattle.schedule_model.specs.RowDef.{RowDef}
use Rattle.schedule_model.specs.Fitting.{fits_row}
use Rattle.schedule_model.specs.Phase.{Phase as PhaseDef}
use Rattle.schedule_model.specs.Seen.{segment_seen, place_seen}
use Rattle.phase_machine.specs.declared.phase.Phase.{Phase}
use Rattle.phase_machine.specs.declared.place.ScriptPlace.{ScriptPlace}
use Rattle.phase_machine.specs.MachineDef.{MachineDef, IsPlace, IsComing, IsDue, place_of, segment_in, task_in, no_place}
use Rattle.phase_machine.specs.Seen.{phase_seen, NamesResource}
use Rattle.phase_machine.specs.Shows.{ArePlacesAtFirst}
use Rattle.phase_machine.specs.Stretch.{left_at}
use Rattle.phase_machine.specs.Least.{IsLeastOf}
use Rattle.phase_machine.specs.Steps.{StepsTo, MovesTo, ArePlaces, AreCurrent}

-- Are the jobs of the list lawful and within its limits, and has each task of its set its numbers in their ranges?
pub record KeepsItsRules (list : JobsDef) : Type 0 where
  pub lawful : AreLawfulJobs list
  pub listed : IsJobList list
  pub numbers : (x : ℕ) → x < length list.set.tasks → TaskNumbers list.set x

-- Is x the task of job j, and one of the set?
pub record IsTaskOf (list : JobsDef) (j x : ℕ) : Type 0 where
  pub value : x ≡ task_in list.jobs j
  pub within : x < length list.set.tasks

-- Is j a listed job, and n the number of a segment of its script?
pub record IsInScript (jobs : List JobDef) (j n : ℕ) : Type 0 where
  pub listed : j < length jobs
  pub within : n < length (job_of jobs j).script

-- Are q and j a resource of the set and a listed job?
pub record IsRequestOf (list : JobsDef) (q j : ℕ) : Type 0 where
  pub resource : q < length list.set.resources
  pub listed : j < length list.jobs

-- Are they, and is the holder o a listed job, if there is one?
pub record IsRequestBeside (list : JobsDef) (q j : ℕ) (o : Option JobId) : Type 0 where
  pub request : IsRequestOf list q j
  pub holder : IfSome o (λ h. h.0 < length list.jobs)

-- Is this segment number n of job j, as a list of jobs may have it?
pub record IsSegmentAt (list : JobsDef) (j n : ℕ) (answer : Segment) : Type 0 where
  pub value : segment_seen answer ≡ segment_in list.jobs j n
  pub listed : is_listed_segment (segment_seen answer) ≡ true
  pub resource : is_resource_in (length list.set.resources) (segment_seen answer) ≡ true

-- Is n how many segments job j has: at least one, and at most a million?
pub record IsSegmentCountOf (jobs : List JobDef) (j n : ℕ) : Type 0 where
  pub value : n ≡ length (job_of jobs j).script
  pub some : 1 ≤ n
  pub most : n ≤ 1000000

-- Is n how many ticks the segment takes, at least one?
pub record IsTicksOf (s : SegmentDef) (n : ℕ) : Type 0 where
  pub value : n ≡ segment_ticks s
  pub some : 1 ≤ n

-- Is j a listed job, and its task at place p?
pub record IsJobAt (jobs : List JobDef) (j : ℕ) (p : ScriptPlace) : Type 0 where
  pub listed : j < length jobs
  pub place : IsPlace jobs (task_in jobs j) p

-- Is the answer this phase, with a resource of the set if it names one?
pub record IsPhase (list : JobsDef) (phase : PhaseDef) (answer : Phase) : Type 0 where
  pub value : phase_seen answer ≡ phase
  pub within : NamesResource (length list.set.resources) answer

-- Does the answer name this job, a listed one, or none?
pub record NamesJob (list : JobsDef) (named : Option ℕ) (answer : Option JobId) : Type 0 where
  pub value : place_seen answer ≡ named
  pub within : IfSome answer (λ j. j.0 < length list.jobs)

-- Is p the place of job j's task?
pub record IsPlaceOf (m : MachineDef) (j : ℕ) (p : ScriptPlace) : Type 0 where
  pub value : p ≡ place_of m (task_in m.list.jobs j)
  pub place : IsPlace m.list.jobs (task_in m.list.jobs j) p

-- Are these the places of all tasks before the first row?
pub record AreFirstPlaces (list : JobsDef) (places : List ScriptPlace) : Type 0 where
  pub len : length places ≡ length list.set.tasks
  pub each : ArePlacesAtFirst list.jobs (length list.set.tasks) places

-- Is each of these its task's first job that is released after the tick?
pub record AreComing (list : JobsDef) (tick : ℕ) (coming : List ℕ) : Type 0 where
  pub len : length coming ≡ length list.set.tasks
  pub each : (x : ℕ) → x < length list.set.tasks → IsComing list.jobs tick x (slice_index_or coming x 0)

-- The same for the first job that is released at the tick or after it.
pub record AreDue (list : JobsDef) (tick : ℕ) (coming : List ℕ) : Type 0 where
  pub len : length coming ≡ length list.set.tasks
  pub each : (x : ℕ) → x < length list.set.tasks → IsDue list.jobs tick x (slice_index_or coming x 0)

-- Can the job at place p of task x execute this many ticks?
pub record CanStep (jobs : List JobDef) (more x : ℕ) (p : ScriptPlace) : Type 0 where
  pub listed : p.job < length jobs
  pub place : IsPlace jobs x p
  pub most : more ≤ MOST_TICKS

-- Is j a listed job, and the one at its task's place in this list of places?
pub record IsCurrentJob (list : JobsDef) (places : List ScriptPlace) (j : ℕ) : Type 0 where
  pub len : length places ≡ length list.set.tasks
  pub listed : j < length list.jobs
  pub place : IsPlace list.jobs (task_in list.jobs j) (slice_index_or places (task_in list.jobs j) no_place)
  pub current : (slice_index_or places (task_in list.jobs j) no_place).job ≡ j

-- Does the place of job j's task step on, and does each other stay?
pub record StepsAlone (list : JobsDef) (after more j : ℕ) (places next : List ScriptPlace) : Type 0 where
  pub len : length next ≡ length places
  pub own : StepsTo list.jobs after more (task_in list.jobs j)
      (slice_index_or places (task_in list.jobs j) no_place) (slice_index_or next (task_in list.jobs j) no_place)
  pub others : (x : ℕ) → (x ≡ task_in list.jobs j → ⊥) → slice_index_or next x no_place ≡ slice_index_or places x no_place

-- Has each task a place in p, and are the jobs in these columns the ones at their tasks' places?
pub record RunFromPlaces (list : JobsDef) (p : List ScriptPlace) (columns : List (Option ℕ)) : Type 0 where
  pub places : ArePlaces list p
  pub running : AreCurrent list.jobs p columns

-- Is `next` where the places are once these jobs have run this many ticks?
pub record AreMoved (list : JobsDef) (after more : ℕ) (running : List (Option ℕ)) (places next : List ScriptPlace) : Type 0 where
  pub len : length next ≡ length places
  pub moved : (x : ℕ) → x < length list.set.tasks
      → MovesTo list.jobs after more running x (slice_index_or places x no_place) (slice_index_or next x no_place)

-- Is the place one inside a segment of a listed job?
pub record IsInSegment (jobs : List JobDef) (p : ScriptPlace) : Type 0 where
  pub listed : p.job < length jobs
  pub segment : p.segment < length (job_of jobs p.job).script
  pub ticks : p.ticks < segment_ticks (segment_in jobs p.job p.segment)

-- Is n how many ticks are left of the phase of the place's job, at least one?
pub record IsLeftAt (jobs : List JobDef) (p : ScriptPlace) (n : ℕ) : Type 0 where
  pub value : n ≡ left_at jobs p
  pub some : 1 ≤ n

-- Is job j released n ticks after this one, at least one tick? If no job has the number, n is 10^9.
pub record IsAheadBy (jobs : List JobDef) (tick j n : ℕ) : Type 0 where
  pub release : j < length jobs → (job_of jobs j).release ≡ tick + n
  pub none : length jobs ≤ j → n ≡ MOST_TICKS
  pub some : 1 ≤ n

-- Is n the least of `most` and of these numbers, and at least 1?
pub record IsLeastSome (most : ℕ) (among : ℕ → Type 0) (n : ℕ) : Type 0 where
  pub some : 1 ≤ n
  pub least : IsLeastOf most among n

-- Does the answer say whether this holds?
pub record Tells (answer : Bool) (fact : Type 0) : Type 0 where
  pub holds : answer ≡ true → fact
  pub fails : answer ≡ false → fact → ⊥

-- Does one of the first c columns run the job?
abbrev pub RunsBefore : List (Option JobId) → ℕ → JobId → Type 0
RunsBefore running c j = (b : ℕ) × (b < c) × (slice_index_or running b None ≡ Some j)

-- Do the columns run listed jobs only?
abbrev pub RunListed : JobsDef → List (Option JobId) → Type 0
RunListed list running = (c : ℕ) (j : JobId) → slice_index_or running c None ≡ Some j → j.0 < length list.jobs

-- Is there a column c, and do the columns run listed jobs only?
pub record IsColumnOf (list : JobsDef) (running : List (Option JobId)) (c : ℕ) : Type 0 where
  pub column : c < length running
  pub listed : RunListed list running

-- Has the row the sizes of the jobs' set, and does it name only listed jobs?
abbrev pub is_row_for : JobsDef → RowDef → Bool
is_row_for list row = fits_row list.set.processors (length list.set.resources) (length list.jobs) row
