-- How jobs are kept in small form: all segments one after another in three lists of numbers, and a record for each job.
use Rattle.std.specs.Prelude.{◌≡◌, ℕ, suc, ◌+◌, ◌-◌, ◌<◌, ◌≤◌, ◌==◌, true, length, List, [], ◌∷◌, ◌++◌, take, drop, Some, None, if◌then◌else◌}
use Rattle.std.specs.Prelude.{Bool, map, Result, Ok, Err, Vec, vec_len, vec_capacity}
use Rattle.std.specs.Global.{Global}
use Rattle.std.specs.List.{list_all}
use Rattle.std.specs.Option.{option_map_or}
use Rattle.sporadic_model.specs.declared.limits.TheConstants.{MOST_RESOURCES, MOST_TICKS}
use Rattle.schedule_model.specs.JobDef.{SegmentDef, JobDef}
use Rattle.schedule_model.specs.LawfulJobs.{is_resource_in}
use Rattle.schedule_model.specs.JobLists.{segment_count, is_listed_segment}
use Rattle.schedule_model.specs.Seen.{segment_seen}
use Rattle.schedule_model.specs.declared.limits.TheConstants.{MOST_JOBS, MOST_SEGMENTS}
use Rattle.schedule_model.specs.declared.job.Segment.{Segment}
use Rattle.schedule_model.specs.declared.kept_jobs.KeptJob.{KeptJob}

-- The resource that the segment requests, and 0 if it requests none.
abbrev pub requested : SegmentDef → ℕ
requested s = option_map_or (λ r. r.0) s.request 0

-- The segment with these local ticks, and a request of this many ticks of this resource. With 0 ticks there is no request.
abbrev pub kept_segment : ℕ → ℕ → ℕ → SegmentDef
kept_segment local ticks resource = record { local = local; request = if ticks == 0 then None else Some (resource, ticks) }

-- The segments that three lists keep: their local ticks, the ticks of their requests, and the resources.
abbrev pub kept_segments : List ℕ → List ℕ → List ℕ → List SegmentDef
kept_segments (l ∷ locals) (t ∷ ticks) (q ∷ resources) = kept_segment l t q ∷ kept_segments locals ticks resources
kept_segments _ _ _ = []

-- The segments from one place up to another.
abbrev pub between : ℕ → ℕ → List SegmentDef → List SegmentDef
between from end segments = take (end - from) (drop from segments)

-- Are there segments from the one place up to the other, and is the other one within the limit of a list?
pub record HasBetween (from end : ℕ) (segments : List SegmentDef) : Type 0 where
  pub order : from ≤ end
  pub within : end ≤ length segments
  pub most : end ≤ MOST_SEGMENTS

-- The job of a record whose segments begin at `from`.
abbrev pub kept_job : List SegmentDef → ℕ → KeptJob → JobDef
kept_job segments from job = record {
  task = job.task.0;
  arrival = job.arrival;
  release = job.release;
  script = between from job.end segments;
}

-- The jobs of the records. The segments of the first begin at `from`. Those of each further job begin where those of the one before end.
abbrev pub kept_jobs : List SegmentDef → ℕ → List KeptJob → List JobDef
kept_jobs segments from [] = []
kept_jobs segments from (job ∷ jobs) = kept_job segments from job ∷ kept_jobs segments job.end jobs

-- Where do the segments of job number j begin, if those of the first begin at `from`?
abbrev pub start_of : ℕ → List KeptJob → ℕ → ℕ
start_of from (job ∷ jobs) (suc j) = start_of job.end jobs j
start_of from _ _ = from

-- The segments of the first job begin at `from`. No job's segments end before they begin, and those of the last job end at `last`.
abbrev pub Rise : ℕ → List KeptJob → ℕ → Type 0
Rise from [] last = from ≡ last
Rise from (job ∷ jobs) last = (from ≤ job.end) × Rise job.end jobs last

-- Do the segments fit their small form? Their numbers are in their ranges, and their resources among the most that a set may have.
pub record FitSmallForm (script : List SegmentDef) : Type 0 where
  pub listed : list_all is_listed_segment script ≡ true
  pub resources : list_all (is_resource_in MOST_RESOURCES) script ≡ true

-- Has the list room for a number of each segment, and do all segments pass the test?
pub record CanTake {A : Type 0} (test : SegmentDef → Bool) (numbers : Vec A Global) (script : List Segment) : Type 0 where
  pub room : vec_len numbers + length script ≤ vec_capacity numbers
  pub each : list_all test (map segment_seen script) ≡ true

-- What is in a list after these were to be put at its end: all of them too, or none if memory was refused.
abbrev pub AllOrNone : {T E A : Type 0} → Result T E → List A → List A → List A → Type 0
AllOrNone (Ok _) before after more = after ≡ before ++ more
AllOrNone (Err _) before after more = after ≡ before

-- Can the job be kept behind these jobs? Its numbers fit their small form, and there is room for it and its segments.
pub record FitsBehind (jobs : List JobDef) (job : JobDef) : Type 0 where
  pub listed : list_all is_listed_segment job.script ≡ true
  pub resources : list_all (is_resource_in MOST_RESOURCES) job.script ≡ true
  pub arrival : job.arrival ≤ MOST_TICKS
  pub release : job.release ≤ MOST_TICKS
  pub fewer : length jobs < MOST_JOBS
  pub room : segment_count jobs + length job.script ≤ MOST_SEGMENTS
