-- Which jobs' bounds end at a machine's tick?
use Rattle.std.specs.Prelude.{◌≡◌, ℕ, ◌+◌, ◌<◌, ◌≤◌, ◌==◌, ◌&&◌, ◌||◌, Bool, nat_lt, nat_le, if◌then◌else◌, List, length, slice_index}
use Rattle.std.specs.Prelude.{Option, None, Some}
use Rattle.number_laws.specs.Tests.{found_below}
use Rattle.schedule_model.specs.JobDef.{job_of}
use Rattle.phase_machine.specs.MachineDef.{MachineDef, task_in}
use Rattle.phase_machine.specs.Now.{active_now, current_now}

-- By when is job j to be finished? By its release plus its task's bound.
abbrev pub end_now : MachineDef → List ℕ → ℕ → ℕ
end_now m bounds j = (job_of m.list.jobs j).release + slice_index bounds (task_in m.list.jobs j)

-- Does job j's bound end at the machine's tick, while j is still active, so not finished?
abbrev pub is_due : MachineDef → List ℕ → ℕ → Bool
is_due m bounds j = (end_now m bounds j == m.tick) && active_now m j

-- The same, for the jobs of the first x tasks.
unfoldable pub is_due_below : MachineDef → List ℕ → ℕ → ℕ → Bool
is_due_below m bounds x j = nat_lt (task_in m.list.jobs j) x && is_due m bounds j

-- The active job of a task, if there is one and its bound ends now.
abbrev pub due_of : MachineDef → List ℕ → Option ℕ → Option ℕ
due_of m bounds None = None
due_of m bounds (Some j) = if end_now m bounds j == m.tick then Some j else None

-- The lower of the two numbers, or the only one.
abbrev pub least_of : Option ℕ → Option ℕ → Option ℕ
least_of None o = o
least_of (Some i) None = Some i
least_of (Some i) (Some j) = if nat_le i j then Some i else Some j

-- Take the active jobs of the first x tasks whose bounds haven't ended yet. Are the next n ticks of the machine all before the ends of
-- these bounds?
abbrev pub IsClearBelow : MachineDef → List ℕ → ℕ → ℕ → Type 0
IsClearBelow m bounds n x = (y j : ℕ) → y < x → current_now m y ≡ Some j → m.tick < end_now m bounds j → m.tick + n ≤ end_now m bounds j

-- If `first` is the first job that passes a test: is `least` the first one that passes it or is due?
abbrev pub IsFirstOrDue : MachineDef → List ℕ → Option ℕ → Option ℕ → Type 0
IsFirstOrDue m bounds first least =
    (passes : ℕ → Bool) → first ≡ found_below (length m.list.jobs) passes
    → least ≡ found_below (length m.list.jobs) (λ j. passes j || is_due m bounds j)

-- Is n at most this many ticks, and at least one if they are? And are the machine's next n ticks all before the end of the bound of task
-- x's active job, if that bound hasn't ended yet?
pub record IsSoonerDue (m : MachineDef) (bounds : List ℕ) (x ticks n : ℕ) : Type 0 where
  pub some : 1 ≤ ticks → 1 ≤ n
  pub most : n ≤ ticks
  pub clear : (j : ℕ) → current_now m x ≡ Some j → m.tick < end_now m bounds j → m.tick + n ≤ end_now m bounds j

-- The same for the active jobs of the first x tasks.
pub record IsUntilDue (m : MachineDef) (bounds : List ℕ) (ticks n x : ℕ) : Type 0 where
  pub some : 1 ≤ ticks → 1 ≤ n
  pub most : n ≤ ticks
  pub clear : IsClearBelow m bounds n x
