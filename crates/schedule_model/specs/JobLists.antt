-- Lists of jobs: their limits, and which job is refused.
use Rattle.std.specs.Prelude.{◌≡◌, ℕ, ◌+◌, ◌-◌, ◌<◌, ◌≤◌, ◌==◌, ◌&&◌, ◌||◌, not, Bool, true, false, nat_lt, nat_le}
use Rattle.std.specs.Prelude.{List, [], ◌∷◌, ◌++◌, length, Option, None, Some, Result, Ok, Err, find, sum_by}
use Rattle.std.specs.Prelude.{if◌then◌else◌, take, is_some}
use Rattle.std.specs.List.{list_all}
use Rattle.std.specs.Option.{option_or, option_map_or}
use Rattle.std.specs.Int.{is_in_range}
use Rattle.sporadic_model.specs.SetDef.{SetDef, task_at}
use Rattle.sporadic_model.specs.declared.limits.TheConstants.{MOST_TICKS}
use Rattle.schedule_model.specs.JobDef.{SegmentDef, JobDef, JobsDef, job_of, total_ticks, local_ticks}
use Rattle.schedule_model.specs.LawfulJobs.{are_counts_kept, is_length_kept}
use Rattle.schedule_model.specs.declared.limits.TheConstants.{MOST_JOBS, MOST_SEGMENTS}
use Rattle.schedule_model.specs.declared.refusal.JobRefusal.{JobRefusal}
use Rattle.schedule_model.specs.declared.refusal.JobRefusal.TheVariants as refusal

-- Are the segment's local ticks from 1 to 10^9, and those of its request, if it has one?
abbrev pub is_listed_segment : SegmentDef → Bool
is_listed_segment s = is_in_range 1 MOST_TICKS s.local && option_map_or (λ r. is_in_range 1 MOST_TICKS r.1) s.request true

-- Does a list take the script: one or more such segments, of which only the last may lack a request?
abbrev pub is_listed_script : List SegmentDef → Bool
is_listed_script script =
    not (length script == 0) && (list_all is_listed_segment script && list_all (λ s. is_some s.request) (take (length script - 1) script))

-- How many segments do the jobs have in all?
abbrev pub segment_count : List JobDef → ℕ
segment_count jobs = sum_by (λ job. length job.script) jobs

-- The limits of every list of jobs, besides that its jobs are lawful. Each number of a script is at most 10^9, and so is each release.
-- There are at most 100,000 jobs, with at most 1,000,000 segments in all.
pub record IsJobList (jobs : JobsDef) : Type 0 where
  pub scripts : (j : ℕ) → j < length jobs.jobs → is_listed_script (job_of jobs.jobs j).script ≡ true
  pub release : (j : ℕ) → j < length jobs.jobs → (job_of jobs.jobs j).release ≤ MOST_TICKS
  pub most : length jobs.jobs ≤ MOST_JOBS
  pub segments : segment_count jobs.jobs ≤ MOST_SEGMENTS

-- Does the job stay within its task's budget? Its ticks are at most the cost, and its local ticks at most the local limit. Its requests of
-- each resource are at most the count, and each of them is at most the length.
unfoldable pub is_within_budget : SetDef → JobDef → Bool
is_within_budget set job =
    nat_le (total_ticks job.script) (task_at set job.task).cost
    && (nat_le (local_ticks job.script) (task_at set job.task).local
    && (are_counts_kept set job.task job.script
    && list_all (is_length_kept set job.task) job.script))

-- When did the last listed job of task x arrive? None if the task has no listed job.
abbrev pub last_arrival : List JobDef → ℕ → Option ℕ
last_arrival [] x = None
last_arrival (job ∷ jobs) x = option_or (last_arrival jobs x) (if job.task == x then Some job.arrival else None)

-- Does the job arrive less than a period after the last listed job of its task, or is it released after tick 10^9?
unfoldable pub is_too_close : JobsDef → JobDef → Bool
is_too_close jobs job =
    option_map_or (λ last. nat_lt job.arrival (last + (task_at jobs.set job.task).period)) (last_arrival jobs.jobs job.task) false
    || nat_lt MOST_TICKS job.release

-- Is the list full: has it 100,000 jobs, or no room for the job's segments among 1,000,000?
unfoldable pub is_too_many : List JobDef → JobDef → Bool
is_too_many jobs job = nat_le MOST_JOBS (length jobs) || nat_lt MOST_SEGMENTS (segment_count jobs + length job.script)

-- Is the job released before it arrives, or later than its task's jitter allows?
unfoldable pub is_late : SetDef → JobDef → Bool
is_late set job = nat_lt job.release job.arrival || nat_lt (job.arrival + (task_at set job.task).jitter) job.release

-- Is the refusal due for the job behind these jobs?
abbrev pub is_due : JobsDef → JobDef → JobRefusal → Bool
is_due jobs job refusal.Script = not (is_listed_script job.script)
is_due jobs job refusal.OverBudget = not (is_within_budget jobs.set job)
is_due jobs job refusal.TooClose = is_too_close jobs job
is_due jobs job refusal.TooMany = is_too_many jobs.jobs job
is_due jobs job refusal.Late = is_late jobs.set job
is_due jobs job refusal.Memory = false

-- The refusals in the order in which they are tried, and the first that is due.
abbrev pub refusals_in_order : List JobRefusal
refusals_in_order = refusal.Script ∷ refusal.OverBudget ∷ refusal.TooClose ∷ refusal.TooMany ∷ refusal.Late ∷ []

abbrev pub first_refusal : JobsDef → JobDef → Option JobRefusal
first_refusal jobs job = find (is_due jobs job) refusals_in_order

-- The list with the job at its end.
abbrev pub with_job : JobsDef → JobDef → JobsDef
with_job jobs job = record { set = jobs.set; jobs = jobs.jobs ++ job ∷ [] }

-- What the answer on a job says. Either the job is at the end of the list. Or it is refused for the first reason that is due, and the list
-- is as it was. Only want of memory says nothing of the job.
abbrev pub JobJudged : {T : Type 0} → Result T JobRefusal → JobsDef → JobsDef → JobDef → Type 0
JobJudged (Ok _) before after job = (first_refusal before job ≡ None) × (after ≡ with_job before job)
JobJudged (Err refusal.Memory) before after job = after ≡ before
JobJudged (Err r) before after job = (first_refusal before job ≡ Some r) × (after ≡ before)
