-- What do the calls that read a line of a file of jobs say?
use Rattle.std.specs.Prelude.{◌≡◌, ◌<◌, ℕ, Bool, true, List, length, map, None, Some, Result, Ok, Err}
use Rattle.std.specs.List.{list_all}
use Rattle.sporadic_model.specs.SetDef.{SetDef}
use Rattle.schedule_model.specs.JobDef.{JobDef, JobsDef}
use Rattle.schedule_model.specs.LawfulJobs.{is_resource_in}
use Rattle.schedule_model.specs.JobLists.{with_job}
use Rattle.schedule_model.specs.Seen.{job_seen}
use Rattle.schedule_model.specs.declared.job.Job.{Job}
use Rattle.trace_csv.specs.declared.refusal.JobsRefusal.{JobsRefusal}
use Rattle.trace_csv.specs.declared.refusal.JobsRefusal.TheVariants as refusal
use Rattle.trace_csv.specs.Records.{Fields}
use Rattle.trace_csv.specs.JobLines.{completed, job_written, jobs_written, form_refusal, line_refusal}
use Rattle.trace_csv.specs.LinesTaken.{Reasons}

-- Are the job's task and its resources the set's?
pub record IsOfSet (set : SetDef) (job : JobDef) : Type 0 where
  pub task : job.task < length set.tasks
  pub resources : list_all (is_resource_in (length set.resources)) job.script ≡ true

-- Is the line refused with this, whatever jobs are listed?
abbrev pub IsRefusedAfterAny : SetDef → Fields → ℕ → JobsRefusal → Type 0
IsRefusedAfterAny set line k r = (jobs : List JobDef) → line_refusal (record { set = set; jobs = jobs }) line k ≡ Some r

-- Either this is the job of the line. Or this is why the line is refused, for its form and names, or for a script that no budget allows.
abbrev pub LineRead : Result Job JobsRefusal → SetDef → Fields → ℕ → Type 0
LineRead (Ok job) set line k = (form_refusal set line k ≡ None) × (job_seen job ≡ job_written set line) × IsOfSet set (job_seen job)
LineRead (Err refusal.Memory) set line k = Unit {0}
LineRead (Err (refusal.OverBudget n)) set line k = IsRefusedAfterAny set line k (refusal.OverBudget n)
LineRead (Err r) set line k = form_refusal set line k ≡ Some r

-- Either the job of the line is at the end of the list. Or this is why the line is refused after those before it.
abbrev pub LineTaken : {T : Type 0} → Result T JobsRefusal → JobsDef → JobsDef → Fields → ℕ → Type 0
LineTaken (Ok _) before after line k = (line_refusal before line k ≡ None) × (after ≡ with_job before (job_written before.set line))
LineTaken (Err refusal.Memory) before after line k = Unit {0}
LineTaken (Err r) before after line k = line_refusal before line k ≡ Some r

-- Why a line, with an arrival or without one, is refused after these lines.
abbrev pub job_reason : SetDef → Bool → Reasons JobsRefusal
job_reason set has_arrivals before line k =
    line_refusal (jobs_written set (map (completed has_arrivals) before)) (completed has_arrivals line) k

-- Are these the jobs of the lines?
abbrev pub HasJobs : SetDef → Bool → List Fields → JobsDef → Type 0
HasJobs set has_arrivals lines jobs = jobs ≡ jobs_written set (map (completed has_arrivals) lines)
