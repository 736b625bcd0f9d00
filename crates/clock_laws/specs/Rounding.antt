-- A set that was measured in cycles, and the set in ticks that it is rounded to. What a job may take is rounded up. The time that it
-- has is rounded down. Each cost has a tick more.
use Rattle.std.specs.Prelude.{◌≡◌, refl, ℕ, ◌+◌, ◌-◌, ◌*◌, ◌/◌, ◌<◌, ◌≤◌, [], ◌∷◌, map, length}
use Rattle.std.specs.Int.{div_ceil}
use Rattle.sporadic_model.specs.SetDef.{SetDef, TaskDef, RequestDef, task_at}
use Rattle.sporadic_model.specs.Users.{count_of, length_of}

-- Is the task a rounding in this sense? A job that takes no more cycles than were measured leaves all but one cycle of a tick of its
-- cost.
pub record IsRoundedTask (k : ℕ) (measured task : TaskDef) : Type 0 where
  pub cost : measured.cost ≤ k * (task.cost - 1) + 1
  pub local : measured.local ≤ k * task.local
  pub jitter : measured.jitter ≤ k * task.jitter
  pub period : k * task.period ≤ measured.period
  pub deadline : k * task.deadline ≤ measured.deadline

-- Is each task such a rounding? And may each of its jobs request each resource as often, and for as long?
pub record IsRounding (k : ℕ) (measured set : SetDef) : Type 0 where
  pub resources : length measured.resources ≤ length set.resources
  pub tasks : length measured.tasks ≤ length set.tasks
  pub each : (x : ℕ) → x < length measured.tasks → IsRoundedTask k (task_at measured x) (task_at set x)
  pub counts : (x q : ℕ) → x < length measured.tasks → count_of measured x q ≤ count_of set x q
  pub lengths : (x q : ℕ) → x < length measured.tasks → length_of measured x q ≤ k * length_of set x q

-- The least set in ticks that is such a rounding.
abbrev pub rounded_request : ℕ → RequestDef → RequestDef
rounded_request k e = record e { length = div_ceil e.length k }

abbrev pub rounded_task : ℕ → TaskDef → TaskDef
rounded_task k t = record t {
  period = t.period / k;
  deadline = t.deadline / k;
  cost = div_ceil t.cost k + 1;
  local = div_ceil t.local k;
  jitter = div_ceil t.jitter k;
  requests = map (rounded_request k) t.requests;
}

abbrev pub rounded : ℕ → SetDef → SetDef
rounded k measured = record measured { tasks = map (rounded_task k) measured.tasks }

-- With ten cycles in a tick, a cost of 23 cycles becomes 3 ticks and one more, and a period of 1009 cycles becomes 100 ticks.
abbrev measured_task : TaskDef
measured_task = record {
  name = [];
  processor = 1;
  period = 1009;
  deadline = 1000;
  cost = 23;
  local = 21;
  jitter = 7;
  requests = record { resource = []; count = 2; length = 8 } ∷ [];
}

pub a_rounded_task : rounded_task 10 measured_task ≡ record {
  name = [];
  processor = 1;
  period = 100;
  deadline = 100;
  cost = 4;
  local = 3;
  jitter = 1;
  requests = record { resource = []; count = 2; length = 1 } ∷ [];
}
a_rounded_task = refl
