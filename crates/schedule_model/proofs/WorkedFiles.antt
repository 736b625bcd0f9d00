-- The sets, jobs and schedules of the worked examples.
use Rattle.std.proofs.Common.{ℕ, List, [], ◌∷◌, Option, Some, None}
use Rattle.sporadic_model.specs.SetDef.{SetDef, TaskDef, RequestDef, ResourceDef}
use Rattle.schedule_model.specs.JobDef.{SegmentDef, JobDef, JobsDef}
use Rattle.schedule_model.specs.RowDef.{RunDef, Trace, trace_in}

-- A task of this name (one byte), processor, period and cost, without jitter, with one request entry for each resource
-- and length.
abbrev pub task : ℕ → ℕ → ℕ → ℕ → List RequestDef → TaskDef
task name processor period cost requests = record {
  name = name ∷ [];
  processor = processor;
  period = period;
  deadline = period;
  cost = cost;
  local = cost;
  jitter = 0;
  requests = requests;
}

-- The same without request entries, and with a jitter.
abbrev pub jittery : ℕ → ℕ → ℕ → ℕ → ℕ → TaskDef
jittery name processor period cost jitter = record {
  name = name ∷ [];
  processor = processor;
  period = period;
  deadline = period;
  cost = cost;
  local = cost;
  jitter = jitter;
  requests = [];
}

-- One request of the resource of this name, for this many ticks.
abbrev pub once : ℕ → ℕ → RequestDef
once name length = record { resource = name ∷ []; count = 1; length = length }

abbrev pub resource : ℕ → Option ℕ → ResourceDef
resource name home = record { name = name ∷ []; home = home }

-- Local ticks, then a request of resource q for a number of ticks. And local ticks alone.
abbrev pub then_request : ℕ → ℕ → ℕ → SegmentDef
then_request local q length = record { local = local; request = Some (q, length) }

abbrev pub local_only : ℕ → SegmentDef
local_only local = record { local = local; request = None }

-- A job that is released when it arrives, and one that isn't.
abbrev pub job : ℕ → ℕ → List SegmentDef → JobDef
job task release script = record { task = task; arrival = release; release = release; script = script }

abbrev pub held_job : ℕ → ℕ → ℕ → List SegmentDef → JobDef
held_job task arrival release script = record { task = task; arrival = arrival; release = release; script = script }

abbrev pub run : ℕ → List (Option ℕ) → List (Option ℕ) → RunDef
run ticks running holders = record { ticks = ticks; row = record { running = running; holders = holders } }

-- Two tasks on processors of their own that use one resource (named 113) of home 2.
abbrev pub set_a : SetDef
set_a = record {
  processors = 2;
  resources = resource 113 (Some 2) ∷ [];
  tasks = task 49 1 10 3 (once 113 1 ∷ []) ∷ task 50 2 10 4 (once 113 2 ∷ []) ∷ [];
}

abbrev pub jobs_a : JobsDef
jobs_a = record {
  set = set_a;
  jobs = job 0 0 (then_request 1 0 1 ∷ local_only 1 ∷ []) ∷ job 1 0 (then_request 1 0 2 ∷ local_only 1 ∷ []) ∷ [];
}

abbrev pub rows_a : List RunDef
rows_a =
    run 1 (Some 0 ∷ Some 1 ∷ []) (None ∷ [])
    ∷ run 2 (None ∷ Some 1 ∷ []) (Some 1 ∷ [])
    ∷ run 1 (Some 0 ∷ Some 1 ∷ []) (Some 0 ∷ [])
    ∷ run 1 (Some 0 ∷ None ∷ []) (None ∷ [])
    ∷ []

abbrev pub trace_a : Trace
trace_a = trace_in jobs_a rows_a

-- The same jobs, with the first job served first. Each row is the chosen one.
abbrev pub rows_chosen : List RunDef
rows_chosen =
    run 1 (Some 0 ∷ Some 1 ∷ []) (None ∷ [])
    ∷ run 1 (Some 0 ∷ None ∷ []) (Some 0 ∷ [])
    ∷ run 1 (Some 0 ∷ Some 1 ∷ []) (Some 1 ∷ [])
    ∷ run 1 (None ∷ Some 1 ∷ []) (Some 1 ∷ [])
    ∷ run 1 (None ∷ Some 1 ∷ []) (None ∷ [])
    ∷ []

abbrev pub trace_chosen : Trace
trace_chosen = trace_in jobs_a rows_chosen

-- The same jobs, and rows of which one breaks a rule.
abbrev pub trace_run : Trace
trace_run = trace_in jobs_a (run 1 (Some 1 ∷ Some 0 ∷ []) (None ∷ []) ∷ [])

abbrev pub trace_twice : Trace
trace_twice = trace_in jobs_a (run 1 (Some 0 ∷ Some 0 ∷ []) (None ∷ []) ∷ [])

abbrev pub trace_idle : Trace
trace_idle = trace_in jobs_a (run 1 (None ∷ Some 1 ∷ []) (None ∷ []) ∷ [])

abbrev pub trace_keep : Trace
trace_keep = trace_in jobs_a (
    run 1 (Some 0 ∷ Some 1 ∷ []) (None ∷ [])
    ∷ run 1 (None ∷ Some 1 ∷ []) (Some 1 ∷ [])
    ∷ run 1 (Some 0 ∷ None ∷ []) (Some 0 ∷ [])
    ∷ [])

abbrev pub trace_grant : Trace
trace_grant = trace_in jobs_a (run 1 (Some 0 ∷ Some 1 ∷ []) (None ∷ []) ∷ run 3 (None ∷ Some 1 ∷ []) (Some 1 ∷ []) ∷ [])

-- A job that is released past the last row, and one that no row runs.
abbrev pub jobs_late : JobsDef
jobs_late = record { set = set_a; jobs = job 0 9 (local_only 1 ∷ []) ∷ job 1 2 (local_only 1 ∷ []) ∷ [] }

abbrev pub trace_late : Trace
trace_late = trace_in jobs_late (run 5 (None ∷ None ∷ []) (None ∷ []) ∷ [])

-- A task without requests and a lower one on its processor, and a user of the resource on another.
abbrev pub set_five : SetDef
set_five = record {
  processors = 2;
  resources = resource 113 None ∷ [];
  tasks = task 49 1 10 2 [] ∷ task 50 1 20 4 (once 113 2 ∷ []) ∷ task 51 2 20 5 (once 113 3 ∷ []) ∷ [];
}

abbrev pub jobs_five : JobsDef
jobs_five = record { set = set_five; jobs = job 0 0 (local_only 2 ∷ []) ∷ job 1 0 (then_request 1 0 2 ∷ local_only 1 ∷ []) ∷ [] }

abbrev pub trace_priority : Trace
trace_priority = trace_in jobs_five (run 1 (Some 1 ∷ None ∷ []) (None ∷ []) ∷ [])

-- The highest user of resource 0 is on processor 1, and its highest user elsewhere is task 4. The highest user of resource 1 is on
-- processor 2.
abbrev pub set_boost : SetDef
set_boost = record {
  processors = 2;
  resources = resource 97 None ∷ resource 98 None ∷ [];
  tasks =
      task 48 1 20 2 (once 97 1 ∷ [])
      ∷ task 49 2 20 2 (once 98 1 ∷ [])
      ∷ task 50 1 20 4 (once 97 1 ∷ [])
      ∷ task 51 1 20 4 (once 98 1 ∷ [])
      ∷ task 52 2 20 2 (once 97 1 ∷ [])
      ∷ [];
}

-- At tick 2 both task 2's job (number 1) and task 3's (number 2) are ready holders on processor 1.
abbrev pub jobs_boost : JobsDef
jobs_boost = record {
  set = set_boost;
  jobs = job 1 0 (then_request 1 1 1 ∷ []) ∷ job 2 1 (then_request 1 0 1 ∷ []) ∷ job 3 0 (then_request 1 1 1 ∷ []) ∷ [];
}

abbrev pub trace_boost : ℕ → Trace
trace_boost j = trace_in jobs_boost (
    run 1 (Some 2 ∷ Some 0 ∷ []) (None ∷ None ∷ [])
    ∷ run 1 (Some 1 ∷ Some 0 ∷ []) (None ∷ Some 0 ∷ [])
    ∷ run 1 (Some j ∷ None ∷ []) (Some 1 ∷ Some 2 ∷ [])
    ∷ [])

-- One processor, which is also the home of the resource that the higher task requests.
abbrev pub set_one : SetDef
set_one = record {
  processors = 1;
  resources = resource 113 (Some 1) ∷ [];
  tasks = task 49 1 10 2 (once 113 1 ∷ []) ∷ task 50 1 10 1 [] ∷ [];
}

abbrev pub jobs_one : JobsDef
jobs_one = record {
  set = set_one;
  jobs = job 0 0 (then_request 1 0 1 ∷ []) ∷ job 1 0 (local_only 1 ∷ []) ∷ job 1 10 (local_only 1 ∷ []) ∷ [];
}

abbrev pub trace_one : Trace
trace_one = trace_in jobs_one (run 1 (Some 0 ∷ []) (None ∷ []) ∷ run 1 (Some 0 ∷ []) (Some 0 ∷ []) ∷ run 1 (Some 1 ∷ []) (None ∷ []) ∷ [])

-- The same jobs, and no row.
abbrev pub trace_unrun : Trace
trace_unrun = trace_in jobs_one []

-- Two resources (named 97 and 98) of one home, 3, and two tasks on processors of their own.
abbrev pub set_home : SetDef
set_home = record {
  processors = 3;
  resources = resource 97 (Some 3) ∷ resource 98 (Some 3) ∷ [];
  tasks = task 49 1 20 4 (once 97 1 ∷ once 98 1 ∷ []) ∷ task 50 2 20 4 (once 97 2 ∷ []) ∷ [];
}

abbrev pub jobs_home : JobsDef
jobs_home = record {
  set = set_home;
  jobs = job 0 1 (then_request 1 1 1 ∷ local_only 1 ∷ []) ∷ job 1 0 (then_request 1 0 2 ∷ local_only 1 ∷ []) ∷ [];
}

abbrev pub rows_home : List RunDef
rows_home =
    run 1 (None ∷ Some 1 ∷ None ∷ []) (None ∷ None ∷ [])
    ∷ run 1 (Some 0 ∷ None ∷ Some 1 ∷ []) (Some 1 ∷ None ∷ [])
    ∷ run 1 (None ∷ None ∷ Some 1 ∷ []) (Some 1 ∷ None ∷ [])
    ∷ run 1 (None ∷ Some 1 ∷ Some 0 ∷ []) (None ∷ Some 0 ∷ [])
    ∷ run 1 (Some 0 ∷ None ∷ None ∷ []) (None ∷ None ∷ [])
    ∷ []

abbrev pub trace_home : Trace
trace_home = trace_in jobs_home rows_home

-- The third row grants to the first task, which is no higher than the ceiling of the resource that is kept.
abbrev pub trace_barred : Trace
trace_barred = trace_in jobs_home (
    run 1 (None ∷ Some 1 ∷ None ∷ []) (None ∷ None ∷ [])
    ∷ run 1 (Some 0 ∷ None ∷ Some 1 ∷ []) (Some 1 ∷ None ∷ [])
    ∷ run 1 (None ∷ None ∷ Some 0 ∷ []) (Some 1 ∷ Some 0 ∷ [])
    ∷ run 1 (None ∷ Some 1 ∷ Some 0 ∷ []) (None ∷ Some 0 ∷ [])
    ∷ run 1 (Some 0 ∷ None ∷ None ∷ []) (None ∷ None ∷ [])
    ∷ [])

-- Two tasks on one processor. The higher one's jobs may be released up to 4 ticks after they arrive.
abbrev pub set_jit : SetDef
set_jit = record { processors = 1; resources = []; tasks = jittery 49 1 10 2 4 ∷ task 50 1 20 5 [] ∷ [] }

-- The higher task's first job is released as late as it may be, and its second one 6 ticks later.
abbrev pub jobs_jit : JobsDef
jobs_jit = record {
  set = set_jit;
  jobs = held_job 0 0 4 (local_only 2 ∷ []) ∷ job 0 10 (local_only 2 ∷ []) ∷ job 1 4 (local_only 5 ∷ []) ∷ [];
}

abbrev pub rows_jit : List RunDef
rows_jit =
    run 4 (None ∷ []) []
    ∷ run 2 (Some 0 ∷ []) []
    ∷ run 4 (Some 2 ∷ []) []
    ∷ run 2 (Some 1 ∷ []) []
    ∷ run 1 (Some 2 ∷ []) []
    ∷ []

abbrev pub trace_jit : Trace
trace_jit = trace_in jobs_jit rows_jit
