use Rattle.std.proofs.Common.{◌≡◌, ◌<◌, ◌∙◌, sym, ap, arith, length, List}
use Rattle.schedule_model.specs.JobDef.{JobDef, job_of}
use Rattle.schedule_model.specs.Kept.{kept_job, kept_jobs, start_of}
use Rattle.schedule_model.specs.KeptViews.{kept_view}
use Rattle.schedule_model.specs.declared.kept_jobs.KeptJob.{KeptJob}
use Rattle.schedule_model.proofs.KeptJobLaws.{kept_jobs-at}
use Rattle.schedule_model.proofs.KeptViewLaws.{kept_view-length, kept_view-at}
use Rattle.schedule_model.proofs.kept_jobs.KeptJobs.job.Goals as goal

pub index-kept-requires : goal.index-kept-requires
index-kept-requires c = omega (arith, kept_view-length c.self.inside, ap length c.self.view_is)

pub start_of-requires : goal.start_of-requires
start_of-requires c = omega (arith, kept_view-length c.self.inside, ap length c.self.view_is, ap length c.deref.ensures.value)

pub new-requires : goal.new-requires
new-requires c =
    let inside = c.self.inside in
    let j = c.args.j in
    let within : j < length (kept_view inside) = omega (arith, ap length c.self.view_is) in
    let start : c.start_of.result ≡ start_of 0 inside.jobs.items j =
    c.start_of.ensures ∙ ap (λ (js : List KeptJob). start_of 0 js j) c.deref.ensures.value in
    let bounds = kept_view-at inside j c.index-kept.result.now c.self.invariant within in
    let end = ap (λ (k : KeptJob). k.end) c.index-kept.ensures in
    record {
      order = omega (arith, bounds.0, start, end);
      within = omega (arith, bounds.1, end);
      most = omega (arith, bounds.1, c.self.invariant.segments, end);
    }

pub returns : goal.returns
returns c =
    let inside = c.self.inside in
    let j = c.args.j in
    let kept = c.index-kept.result.now in
    let within : j < length inside.jobs.items = omega (arith, kept_view-length inside, ap length c.self.view_is) in
    let start : c.start_of.result ≡ start_of 0 inside.jobs.items j =
    c.start_of.ensures ∙ ap (λ (js : List KeptJob). start_of 0 js j) c.deref.ensures.value in
    let there : job_of (kept_jobs inside.segments 0 inside.jobs.items) j ≡ kept_job inside.segments c.start_of.result kept =
    rw (← c.index-kept.ensures, ← start) at (kept_jobs-at inside.segments 0 inside.jobs.items j kept within) in
    rw (c.from.ensures, c.from-2.ensures, c.new.ensures) (
    sym there ∙ ap (λ (js : List JobDef). job_of js j) c.self.view_is
    )
