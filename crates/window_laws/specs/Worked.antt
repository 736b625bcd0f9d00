-- A worked set, and how many ticks are enough for a request in it.
use Rattle.std.specs.Prelude.{◌≡◌, refl, ℕ, true, false, [], ◌∷◌, Some, slice_index}
use Rattle.sporadic_model.specs.SetDef.{SetDef, TaskDef}
use Rattle.window_laws.specs.Windows.{time_at, longest_lower, ticks_there, is_enough}

-- A task that may request the resource once, for one tick.
abbrev with_request : ℕ → ℕ → ℕ → ℕ → TaskDef
with_request processor period cost jitter = record {
  name = [];
  processor = processor;
  period = period;
  deadline = period;
  cost = cost;
  local = cost;
  jitter = jitter;
  requests = record { resource = 113 ∷ []; count = 1; length = 1 } ∷ [];
}

-- One resource of home 3, and a task on each of processors 1 and 2. The higher task has this jitter.
abbrev pub two_users : ℕ → SetDef
two_users jitter = record {
  processors = 3;
  resources = record { name = 113 ∷ []; home = Some 3 } ∷ [];
  tasks = with_request 1 10 3 jitter ∷ with_request 2 100 20 0 ∷ [];
}

-- At the bounds 4 and 21 two ticks are enough for the lower task's request, and one isn't: one job of the higher task may run in them.
pub one_job_there : ticks_there (two_users 0) (slice_index (4 ∷ 21 ∷ [])) 1 0 2 ≡ 2
one_job_there = refl

pub two_are_enough : is_enough (two_users 0) (slice_index (4 ∷ 21 ∷ [])) 1 0 2 ≡ true
two_are_enough = refl

pub one_is_short : is_enough (two_users 0) (slice_index (4 ∷ 21 ∷ [])) 1 0 1 ≡ false
one_is_short = refl

-- With a jitter of 5 two jobs of the higher task may run. So two ticks aren't enough, and three are.
pub two_jobs_there : ticks_there (two_users 5) (slice_index (4 ∷ 21 ∷ [])) 1 0 2 ≡ 3
two_jobs_there = refl

pub three_are_enough : is_enough (two_users 5) (slice_index (4 ∷ 21 ∷ [])) 1 0 3 ≡ true
three_are_enough = refl

-- The higher task's request may wait for the lower one's. The lower task has none below it.
pub lower_one_counts : longest_lower (two_users 0) 0 3 ≡ 1
lower_one_counts = refl

pub none_is_lower : longest_lower (two_users 0) 1 3 ≡ 0
none_is_lower = refl

-- No request runs on another processor.
pub none_elsewhere : time_at (two_users 0) 0 2 ≡ 0
none_elsewhere = refl
