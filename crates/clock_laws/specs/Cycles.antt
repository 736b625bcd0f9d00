-- A task set in cycles. Each tick is k cycles, so each number of ticks is multiplied by k. The rest stays: names, processors, resources
-- with their homes, and how often a job may request each.
use Rattle.std.specs.Prelude.{◌≡◌, refl, ℕ, ◌+◌, ◌-◌, ◌*◌, Bool, List, [], ◌∷◌, map, if◌then◌else◌}
use Rattle.sporadic_model.specs.SetDef.{SetDef, TaskDef, RequestDef, task_at}

abbrev pub request_in_cycles : ℕ → RequestDef → RequestDef
request_in_cycles k e = record e { length = k * e.length }

abbrev pub task_in_cycles : ℕ → TaskDef → TaskDef
task_in_cycles k t = record t {
  period = k * t.period;
  deadline = k * t.deadline;
  cost = k * t.cost;
  local = k * t.local;
  jitter = k * t.jitter;
  requests = map (request_in_cycles k) t.requests;
}

abbrev pub in_cycles : ℕ → SetDef → SetDef
in_cycles k set = record set { tasks = map (task_in_cycles k) set.tasks }

-- Numbers of ticks, each in cycles.
abbrev pub times_each : ℕ → List ℕ → List ℕ
times_each k ns = map (λ n. k * n) ns

-- How many cycles may a job of task i execute? If the task's value is marked as whole, all cycles of its cost. If not, one tick of its
-- cost counts for a single cycle.
abbrev pub own_cycles : (ℕ → Bool) → ℕ → SetDef → ℕ → ℕ
own_cycles whole k set i = if whole i then k * (task_at set i).cost else k * ((task_at set i).cost - 1) + 1

pub three_ticks_of_ten : times_each 10 (3 ∷ 5 ∷ []) ≡ 30 ∷ 50 ∷ []
three_ticks_of_ten = refl
