-- Which jobs, and which lists of jobs, are lawful?
use Rattle.std.specs.Prelude.{◌≡◌, ℕ, ◌+◌, ◌-◌, ◌<◌, ◌≤◌, ◌==◌, ◌&&◌, not, Bool, true, nat_lt, nat_le, List, length, take, is_some, IsTrue}
use Rattle.std.specs.List.{list_all}
use Rattle.std.specs.Option.{option_map_or}
use Rattle.number_laws.specs.Tests.{all_below}
use Rattle.sporadic_model.specs.SetDef.{SetDef, task_at}
use Rattle.sporadic_model.specs.Users.{count_of, length_of}
use Rattle.schedule_model.specs.JobDef.{SegmentDef, JobDef, JobsDef, job_of, total_ticks, local_ticks, number_of_requests}

-- Has the segment a local tick, and its request, if there is one, a tick too?
abbrev pub is_segment : SegmentDef → Bool
is_segment s = nat_lt 0 s.local && option_map_or (λ r. nat_lt 0 r.1) s.request true

-- Is it a script: one or more segments, of which only the last may lack a request?
abbrev pub is_script : List SegmentDef → Bool
is_script script =
    not (length script == 0) && (list_all is_segment script && list_all (λ s. is_some s.request) (take (length script - 1) script))

-- Is the resource that the segment requests, if any, among the first n?
abbrev pub is_resource_in : ℕ → SegmentDef → Bool
is_resource_in n s = option_map_or (λ r. nat_lt r.0 n) s.request true

-- Is the segment's request, if there is one, no longer than a job of task x may request its resource?
abbrev pub is_length_kept : SetDef → ℕ → SegmentDef → Bool
is_length_kept set x s = option_map_or (λ r. nat_le r.1 (length_of set x r.0)) s.request true

-- Are the script's requests of each resource at most as many as a job of task x may make?
abbrev pub are_counts_kept : SetDef → ℕ → List SegmentDef → Bool
are_counts_kept set x script = all_below (length set.resources) (λ q. nat_le (number_of_requests script q) (count_of set x q))

-- Is x a task of the set, and does the script request resources of the set only?
pub record IsScriptOf (set : SetDef) (x : ℕ) (script : List SegmentDef) : Type 0 where
  pub task : x < length set.tasks
  pub resources : IsTrue (list_all (is_resource_in (length set.resources)) script)

-- A lawful job. It is of a task of the set, and requests resources of the set. It is released no earlier than it arrives, and by at most
-- its task's jitter later. Its script has the form of one. It stays within its task's budget.
pub record IsLawfulJob (set : SetDef) (job : JobDef) : Type 0 where
  pub task : job.task < length set.tasks
  pub arrived : job.arrival ≤ job.release
  pub in_time : job.release ≤ job.arrival + (task_at set job.task).jitter
  pub script : is_script job.script ≡ true
  pub resources : list_all (is_resource_in (length set.resources)) job.script ≡ true
  pub cost : total_ticks job.script ≤ (task_at set job.task).cost
  pub local : local_ticks job.script ≤ (task_at set job.task).local
  pub count : (q : ℕ) → number_of_requests job.script q ≤ count_of set job.task q
  pub lengths : list_all (is_length_kept set job.task) job.script ≡ true

-- Lawful jobs of a set: each is lawful, and any two of one task arrive at least its period apart, in the order of the list.
pub record AreLawfulIn (set : SetDef) (jobs : List JobDef) : Type 0 where
  pub each : (j : ℕ) → j < length jobs → IsLawfulJob set (job_of jobs j)
  pub apart : (a b : ℕ) → a < b → b < length jobs → (job_of jobs a).task ≡ (job_of jobs b).task
      → (job_of jobs a).arrival + (task_at set (job_of jobs a).task).period ≤ (job_of jobs b).arrival

-- Are the jobs of a list lawful jobs of its set?
abbrev pub AreLawfulJobs : JobsDef → Type 0
AreLawfulJobs list = AreLawfulIn list.set list.jobs
