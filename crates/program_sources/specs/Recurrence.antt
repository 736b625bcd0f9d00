-- The response-time recurrence over any source of blocking programs. A response time is the task's cost, its greatest whole blocking, and
-- the interference of higher tasks on its processor.
use Rattle.std.specs.Prelude.{◌≡◌, refl, ℕ, ◌+◌, ◌-◌, ◌*◌, List, [], ◌∷◌, slice_index}
use Rattle.number_laws.specs.Sums.{sum_below, only_if}
use Rattle.program_form.specs.Program.{ProgramDef}
use Rattle.program_form.specs.Points.{Reaches, IsGreatestReached}
use Rattle.sporadic_model.specs.SetDef.{SetDef, TaskDef, task_at, is_higher_local, jobs_within}

-- The programs of a set: the blocking program of each task at a vector of bounds, and each task's interfering cost. That is how many ticks
-- of one of its jobs count as interference for lower tasks.
pub record SourceDef : Type 0 where
  pub set : SetDef
  pub program : ℕ → List ℕ → ProgramDef
  pub interfering : ℕ → ℕ

-- What a source gives for this set. Contracts say this of a set's programs and bounds.
abbrev pub source_at : (SetDef → SourceDef) → SetDef → SourceDef
source_at source set = record { set = set; program = (source set).program; interfering = (source set).interfering }

-- The ticks that the recurrence counts for jobs of higher tasks on i's processor, within the bound of a job of task i. Here r are the
-- bounds, and g are the interfering costs. A job of task h may first run as late after its arrival as its jitter and its bound together,
-- less its interfering cost.
abbrev pub interference_of : (ℕ → ℕ) → SetDef → List ℕ → ℕ → ℕ
interference_of g set r i = sum_below i (λ h. only_if (is_higher_local set i h)
    (jobs_within (slice_index r i) (slice_index r h + (task_at set h).jitter - g h) (task_at set h).period * g h))

-- What it counts for jobs of task h alone. Contracts use this name.
abbrev pub interference_by : (ℕ → ℕ) → SetDef → List ℕ → ℕ → ℕ → ℕ
interference_by g set r i h =
    jobs_within (slice_index r i) (slice_index r h + (task_at set h).jitter - g h) (task_at set h).period * g h

-- The response time of task i, if its job is blocked for b ticks.
abbrev pub response_with : SourceDef → List ℕ → ℕ → ℕ → ℕ
response_with f r i b = (task_at f.set i).cost + b + interference_of f.interfering f.set r i

-- Is v a possible response time of task i at the bounds r? It is the response time with a whole blocking that some scaled point of the
-- task's program reaches.
pub record ComesUp (f : SourceDef) (r : List ℕ) (i v : ℕ) : Type 0 where
  pub blocking : ℕ
  pub reached : Reaches (f.program i r) blocking
  pub response : v ≡ response_with f r i blocking

-- Is v the recurrence's value for task i at the bounds r? It is the response time with the greatest whole blocking that is reached.
pub record IsResponse (f : SourceDef) (r : List ℕ) (i v : ℕ) : Type 0 where
  pub blocking : ℕ
  pub greatest : IsGreatestReached (f.program i r) blocking
  pub response : v ≡ response_with f r i blocking

abbrev with_numbers : ℕ → ℕ → ℕ → TaskDef
with_numbers period cost jitter =
    record { name = []; processor = 1; period = period; deadline = period; cost = cost; local = cost; jitter = jitter; requests = [] }

-- A higher task of cost 2 with this jitter, and a lower task of cost 4. Both are on processor 1, and their periods are 10 and 20.
abbrev two_tasks : ℕ → SetDef
two_tasks jitter = record { processors = 1; resources = []; tasks = with_numbers 10 2 jitter ∷ with_numbers 20 4 0 ∷ [] }

abbrev cost_in : SetDef → ℕ → ℕ
cost_in set h = (task_at set h).cost

-- At the bounds 4 and 9 two jobs of the higher task count: 9 + (4 - 2) over 10, rounded up, is 2.
pub two_jobs_count : interference_of (cost_in (two_tasks 0)) (two_tasks 0) (4 ∷ 9 ∷ []) 1 ≡ 4
two_jobs_count = refl

-- At the bounds 2 and 7 one job of it counts without jitter. With a jitter of 4 two jobs count: 7 + (2 + 4 - 2) over 10, rounded up, is 2.
pub one_job_in_time : interference_of (cost_in (two_tasks 0)) (two_tasks 0) (2 ∷ 7 ∷ []) 1 ≡ 2
one_job_in_time = refl

pub two_jobs_late : interference_of (cost_in (two_tasks 4)) (two_tasks 4) (2 ∷ 7 ∷ []) 1 ≡ 4
two_jobs_late = refl
