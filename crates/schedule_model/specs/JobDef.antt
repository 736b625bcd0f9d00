-- Jobs as mathematics sees them: plain numbers and lists. Tasks, resources and jobs are named by their positions, counted from 0. All times
-- are ticks.
use Rattle.std.specs.Prelude.{ℕ, ◌+◌, ◌==◌, Bool, false, List, [], Option, None, slice_index_or, sum_by, count_by}
use Rattle.std.specs.Option.{option_map_or}
use Rattle.sporadic_model.specs.SetDef.{SetDef}

-- A segment of a script: local ticks, and then a request of a resource for a number of ticks, or none.
pub record SegmentDef : Type 0 where
  pub local : ℕ
  pub request : Option (ℕ × ℕ)

-- A job: its task, the ticks of its arrival and of its release, and its script. A job's deadline counts from its arrival. From its release
-- it may run, and its response counts from there.
pub record JobDef : Type 0 where
  pub task : ℕ
  pub arrival : ℕ
  pub release : ℕ
  pub script : List SegmentDef

-- A task set and jobs of its tasks, in the order in which they are listed.
pub record JobsDef : Type 0 where
  pub set : SetDef
  pub jobs : List JobDef

-- What a look-up past the end gives: a job without a segment, or a segment of no ticks.
abbrev pub no_job : JobDef
no_job = record { task = 0; arrival = 0; release = 0; script = [] }

abbrev pub no_segment : SegmentDef
no_segment = record { local = 0; request = None }

-- Job number j of the list.
abbrev pub job_of : List JobDef → ℕ → JobDef
job_of jobs j = slice_index_or jobs j no_job

-- How many ticks does the segment's request take? 0 if it has none.
abbrev pub request_ticks : SegmentDef → ℕ
request_ticks s = option_map_or (λ r. r.1) s.request 0

-- How many ticks does the segment take in all?
abbrev pub segment_ticks : SegmentDef → ℕ
segment_ticks s = s.local + request_ticks s

-- Does the segment request resource q?
abbrev pub asks_for : ℕ → SegmentDef → Bool
asks_for q s = option_map_or (λ r. r.0 == q) s.request false

-- The ticks of a script in all, those of them outside its requests, and how often it requests resource q.
abbrev pub total_ticks : List SegmentDef → ℕ
total_ticks script = sum_by segment_ticks script

abbrev pub local_ticks : List SegmentDef → ℕ
local_ticks script = sum_by (λ s. s.local) script

abbrev pub number_of_requests : List SegmentDef → ℕ → ℕ
number_of_requests script q = count_by (asks_for q) script
