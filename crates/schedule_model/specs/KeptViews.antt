-- What a contract sees of kept segments and of kept jobs, and what their types keep true.
use Rattle.std.specs.Prelude.{◌≡◌, ◌≤◌, List, length}
use Rattle.schedule_model.specs.JobDef.{SegmentDef, JobDef}
use Rattle.schedule_model.specs.Kept.{kept_segments, kept_jobs, Rise}
use Rattle.schedule_model.specs.declared.limits.TheConstants.{MOST_JOBS, MOST_SEGMENTS}
use Rattle.schedule_model.specs.declared.kept_segments.KeptSegments.TheInside.{Inside as SegmentsInside}
use Rattle.schedule_model.specs.declared.kept_jobs.KeptJobs.TheInside.{Inside as JobsInside}

abbrev pub segments_view : SegmentsInside → List SegmentDef
segments_view s = kept_segments s.locals.items s.ticks.items s.resources.items

-- The three lists have the same length.
pub record AreSegmentsKept (s : SegmentsInside) : Type 0 where
  pub ticks : length s.ticks.items ≡ length s.locals.items
  pub resources : length s.resources.items ≡ length s.locals.items

abbrev pub kept_view : JobsInside → List JobDef
kept_view l = kept_jobs l.segments 0 l.jobs.items

-- Ends never fall, the last one is the number of segments, and the list is within its limits.
pub record AreJobsKept (l : JobsInside) : Type 0 where
  pub ends : Rise 0 l.jobs.items (length l.segments)
  pub jobs : length l.jobs.items ≤ MOST_JOBS
  pub segments : length l.segments ≤ MOST_SEGMENTS
