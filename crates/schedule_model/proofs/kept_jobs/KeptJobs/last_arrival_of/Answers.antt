use Rattle.std.proofs.Common.{◌∙◌, ap, List, []}
use Rattle.schedule_model.specs.JobDef.{JobDef}
use Rattle.schedule_model.specs.JobLists.{last_arrival}
use Rattle.schedule_model.specs.Kept.{kept_jobs}
use Rattle.schedule_model.specs.declared.kept_jobs.KeptJob.{KeptJob}
use Rattle.schedule_model.proofs.KeptJobLaws.{last_arrival-scripts}
use Rattle.schedule_model.proofs.kept_jobs.KeptJobs.last_arrival_of.Goals as goal

pub returns : goal.returns
returns c =
    let inside = c.self.inside in
    let x = c.args.x.0 in
    c.last_arrival_among.ensures
    ∙ ap (λ (js : List KeptJob). last_arrival (kept_jobs [] 0 js) x) c.deref.ensures.value
    ∙ last_arrival-scripts [] inside.segments 0 0 inside.jobs.items x
    ∙ ap (λ (js : List JobDef). last_arrival js x) c.self.view_is
