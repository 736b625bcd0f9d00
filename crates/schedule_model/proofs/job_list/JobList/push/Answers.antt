use Rattle.std.proofs.Common.{◌≡◌, ◌<◌, ◌∙◌, sym, subst, None, List, length, true}
use Rattle.std.specs.List.{list_all}
use Rattle.schedule_model.specs.JobDef.{JobDef, JobsDef}
use Rattle.schedule_model.specs.LawfulJobs.{AreLawfulJobs, is_resource_in}
use Rattle.schedule_model.specs.JobLists.{IsJobList, first_refusal, with_job}
use Rattle.schedule_model.specs.ListViews.{jobs_view}
use Rattle.schedule_model.specs.Seen.{job_seen}
use Rattle.schedule_model.proofs.JobListLaws.{lawful_more, listed_more, fits_from}
use Rattle.schedule_model.proofs.job_list.JobList.push.Goals as goal

pub push-requires : goal.push-requires
push-requires c =
    let old = c.self.inside in
    let job : JobDef = job_seen c.args.job in
    let none : first_refusal (jobs_view old) job ≡ None = sym c.refusal_of.ensures ∙ c.in-None.is in
    let resources : list_all (is_resource_in (length (jobs_view old).set.resources)) job.script ≡ true =
    subst (λ (js : JobsDef). list_all (is_resource_in (length js.set.resources)) job.script ≡ true) (sym c.self.view_is)
    c.requires.resources in
    fits_from (jobs_view old) job c.keeps_the_model.ensures.sizes.resources_to resources none

pub invariant_of-self : goal.invariant_of-self
invariant_of-self c =
    let old = c.self.inside in
    let job : JobDef = job_seen c.args.job in
    let none : first_refusal (jobs_view old) job ≡ None = sym c.refusal_of.ensures ∙ c.in-None.is in
    let task : job.task < length (jobs_view old).set.tasks =
    subst (λ (js : JobsDef). job.task < length js.set.tasks) (sym c.self.view_is) c.requires.task in
    let resources : list_all (is_resource_in (length (jobs_view old).set.resources)) job.script ≡ true =
    subst (λ (js : JobsDef). list_all (is_resource_in (length js.set.resources)) job.script ≡ true) (sym c.self.view_is)
    c.requires.resources in
    let more : AreLawfulJobs (with_job (jobs_view old) job) = lawful_more (jobs_view old) job c.self.invariant.lawful task resources none in
    let within : IsJobList (with_job (jobs_view old) job) = listed_more (jobs_view old) job c.self.invariant.listed none in
    record {
      lawful = subst (λ (js : List JobDef). AreLawfulJobs (record { set = old.set.now; jobs = js })) (sym c.in-Ok.ensures) more;
      listed = subst (λ (js : List JobDef). IsJobList (record { set = old.set.now; jobs = js })) (sym c.in-Ok.ensures) within;
    }

pub invariant_of-self-2 : goal.invariant_of-self-2
invariant_of-self-2 c =
    let old = c.self.inside in
    record {
      lawful = subst (λ (js : List JobDef). AreLawfulJobs (record { set = old.set.now; jobs = js })) (sym c.in-Err.ensures)
          c.self.invariant.lawful;
      listed = subst (λ (js : List JobDef). IsJobList (record { set = old.set.now; jobs = js })) (sym c.in-Err.ensures)
          c.self.invariant.listed;
    }
