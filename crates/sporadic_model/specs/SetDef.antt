-- A sporadic task set as mathematics sees it: plain numbers and lists. A name is the list of its bytes. Tasks are listed from the highest
-- base priority to the lowest. Positions count from 0, and processors from 1.
use Rattle.std.specs.Prelude.{ℕ, ◌+◌, ◌-◌, ◌==◌, ◌&&◌, Bool, nat_lt, List, [], Option, None, length, slice_index_or, sum_by}
use Rattle.std.specs.Int.{div_ceil}

-- An entry of a task: the resource that it requests, the most requests of one job, and the most ticks of one request.
pub record RequestDef : Type 0 where
  pub resource : List ℕ
  pub count : ℕ
  pub length : ℕ

-- A task: its processor, its period, deadline, cost, local limit and jitter in ticks, and its request entries.
pub record TaskDef : Type 0 where
  pub name : List ℕ
  pub processor : ℕ
  pub period : ℕ
  pub deadline : ℕ
  pub cost : ℕ
  pub local : ℕ
  pub jitter : ℕ
  pub requests : List RequestDef

-- A resource: its name, and its home, which is the processor that runs its requests under a protocol that needs one.
pub record ResourceDef : Type 0 where
  pub name : List ℕ
  pub home : Option ℕ

-- A task set.
pub record SetDef : Type 0 where
  pub processors : ℕ
  pub resources : List ResourceDef
  pub tasks : List TaskDef

-- What a look-up past the end gives: a task of zeros, a resource without a name, or an entry without a resource and without requests.
abbrev pub no_task : TaskDef
no_task = record { name = []; processor = 0; period = 0; deadline = 0; cost = 0; local = 0; jitter = 0; requests = [] }

abbrev pub no_resource : ResourceDef
no_resource = record { name = []; home = None }

abbrev pub no_request : RequestDef
no_request = record { resource = []; count = 0; length = 0 }

-- Task number x of the set.
abbrev pub task_at : SetDef → ℕ → TaskDef
task_at set x = slice_index_or set.tasks x no_task

-- Resource number q of the set.
abbrev pub resource_at : SetDef → ℕ → ResourceDef
resource_at set q = slice_index_or set.resources q no_resource

-- Entry number j of task number x.
abbrev pub request_at : SetDef → ℕ → ℕ → RequestDef
request_at set x j = slice_index_or (task_at set x).requests j no_request

-- How many request entries do the tasks have in all?
abbrev pub request_count : SetDef → ℕ
request_count set = sum_by (λ t. length t.requests) set.tasks

-- The latest response-time bound with which each job of the task meets its deadline. The deadline counts from a job's arrival, and the
-- bound from its release, which is at most the jitter later.
abbrev pub latest_bound : TaskDef → ℕ
latest_bound t = t.deadline - t.jitter

-- Is task h of higher base priority than task i, and on i's processor?
abbrev pub is_higher_local : SetDef → ℕ → ℕ → Bool
is_higher_local set i h = nat_lt h i && ((task_at set h).processor == (task_at set i).processor)

-- How many jobs of a task with this bound and this period can run in a window of this length?
abbrev pub jobs_within : ℕ → ℕ → ℕ → ℕ
jobs_within window bound period = div_ceil (window + bound) period
