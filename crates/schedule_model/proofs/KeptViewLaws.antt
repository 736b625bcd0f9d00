-- What holds of the parts of kept segments and of kept jobs.
use Rattle.std.proofs.Common.{◌≡◌, ℕ, ◌<◌, ◌≤◌, arith, length, get_or}
use Rattle.schedule_model.specs.JobLists.{segment_count}
use Rattle.schedule_model.specs.Kept.{start_of}
use Rattle.schedule_model.specs.KeptViews.{segments_view, AreSegmentsKept, kept_view, AreJobsKept}
use Rattle.schedule_model.specs.declared.kept_jobs.KeptJob.{KeptJob}
use Rattle.schedule_model.specs.declared.kept_jobs.KeptJobs.TheInside.{Inside as JobsInside}
use Rattle.schedule_model.specs.declared.kept_segments.KeptSegments.TheInside.{Inside as SegmentsInside}
use Rattle.schedule_model.proofs.KeptJobLaws.{kept_jobs-length, kept_jobs-count, Rise-at}
use Rattle.schedule_model.proofs.KeptSegmentLaws.{kept_segments-length}

pub segments_view-length : (s : SegmentsInside) → AreSegmentsKept s → length (segments_view s) ≡ length s.locals.items
segments_view-length s kept = kept_segments-length s.locals.items s.ticks.items s.resources.items kept.ticks kept.resources

pub kept_view-length : (l : JobsInside) → length (kept_view l) ≡ length l.jobs.items
kept_view-length l = kept_jobs-length l.segments 0 l.jobs.items

pub kept_view-count : (l : JobsInside) → AreJobsKept l → segment_count (kept_view l) ≡ length l.segments
kept_view-count l kept =
    omega (arith, kept_jobs-count l.segments 0 l.jobs.items (length l.segments) kept.ends (omega arith))

-- The segments of each job are in order, among all.
pub kept_view-at : (l : JobsInside) (j : ℕ) (d : KeptJob) → AreJobsKept l → j < length (kept_view l)
    → (start_of 0 l.jobs.items j ≤ (get_or l.jobs.items j d).end) × ((get_or l.jobs.items j d).end ≤ length l.segments)
kept_view-at l j d kept within =
    Rise-at 0 l.jobs.items (length l.segments) j d kept.ends (omega (arith, kept_view-length l))
