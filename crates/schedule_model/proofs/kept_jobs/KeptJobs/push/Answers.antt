use Rattle.std.proofs.Common.{◌≡◌, ◌+◌, ◌∙◌, ◌++◌, [], ◌∷◌, ap, arith, length, map, List}
use Rattle.std.proofs.lemmas.List.{length-append}
use Rattle.schedule_model.specs.JobDef.{SegmentDef, JobDef}
use Rattle.schedule_model.specs.JobLists.{segment_count}
use Rattle.schedule_model.specs.Kept.{kept_jobs, Rise}
use Rattle.schedule_model.specs.Seen.{job_seen, segment_seen}
use Rattle.schedule_model.specs.declared.job.Segment.{Segment}
use Rattle.schedule_model.specs.declared.kept_jobs.KeptJob.{KeptJob}
use Rattle.schedule_model.proofs.KeptJobLaws.{kept_jobs-more, Rise-more}
use Rattle.schedule_model.proofs.KeptViewLaws.{kept_view-length, kept_view-count}
use Rattle.schedule_model.proofs.kept_jobs.KeptJobs.push.Goals as goal

pub invariant_of-self-2 : goal.invariant_of-self-2
invariant_of-self-2 c =
    let inside = c.self.inside in
    let more : List SegmentDef = (job_seen c.args.job.now).script in
    let kept : KeptJob = record {
      task = c.args.job.now.task;
      arrival = c.args.job.now.arrival;
      release = c.args.job.now.release;
      end = c.len.result;
    } in
    let segments : c.append.new.self ≡ inside.segments ++ more =
    c.in_ok-append.ensures ∙ ap (λ (ss : List Segment). inside.segments ++ map segment_seen ss) c.deref.ensures.value in
    let end : c.len.result ≡ length inside.segments + length more =
    c.len.ensures ∙ ap length segments ∙ length-append inside.segments more in
    let jobs : c.push_reserved.new.self.items ≡ inside.jobs.items ++ kept ∷ [] =
    c.push_reserved.ensures.items ∙ ap (λ (js : List KeptJob). js ++ kept ∷ []) c.in_ok-reserve.ensures.items in
    let rises : Rise 0 (inside.jobs.items ++ kept ∷ []) c.len.result =
    Rise-more 0 inside.jobs.items (length inside.segments) kept c.self.invariant.ends (omega (arith, end)) in
    record {
      ends = rw (jobs, ← c.len.ensures) rises;
      jobs = omega (
        arith,
        ap length jobs,
        length-append inside.jobs.items (kept ∷ []),
        kept_view-length inside,
        ap length c.self.view_is,
        c.requires.fewer,
      );
      segments = omega (arith, end, c.len.ensures, kept_view-count inside c.self.invariant, ap segment_count c.self.view_is, c.requires.room);
    }

pub returns : goal.returns
returns c =
    let inside = c.self.inside in
    let more : List SegmentDef = (job_seen c.args.job.now).script in
    let kept : KeptJob = record {
      task = c.args.job.now.task;
      arrival = c.args.job.now.arrival;
      release = c.args.job.now.release;
      end = c.len.result;
    } in
    let segments : c.append.new.self ≡ inside.segments ++ more =
    c.in_ok-append.ensures ∙ ap (λ (ss : List Segment). inside.segments ++ map segment_seen ss) c.deref.ensures.value in
    let end : c.len.result ≡ length inside.segments + length more =
    c.len.ensures ∙ ap length segments ∙ length-append inside.segments more in
    let jobs : c.push_reserved.new.self.items ≡ inside.jobs.items ++ kept ∷ [] =
    c.push_reserved.ensures.items ∙ ap (λ (js : List KeptJob). js ++ kept ∷ []) c.in_ok-reserve.ensures.items in
    let made : kept_jobs (inside.segments ++ more) 0 (inside.jobs.items ++ kept ∷ [])
    ≡ kept_jobs inside.segments 0 inside.jobs.items ++ job_seen c.args.job.now ∷ [] =
    kept_jobs-more inside.segments more 0 inside.jobs.items kept c.self.invariant.ends end in
    rw (segments, jobs) (made ∙ ap (λ (js : List JobDef). js ++ job_seen c.args.job.now ∷ []) c.self.view_is)
