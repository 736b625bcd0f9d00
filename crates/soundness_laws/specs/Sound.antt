-- What do bounds on response times and on blocking promise? Something of every schedule. The definitions here are about the task set, its
-- jobs and the rows alone.
use Rattle.std.specs.Prelude.{◌≡◌, ℕ, ◌+◌, ◌<◌, ◌≤◌, ◌&&◌, Bool, nat_le, nat_lt, List, length, slice_index}
use Rattle.number_laws.specs.Tests.{count_below}
use Rattle.sporadic_model.specs.SetDef.{SetDef}
use Rattle.schedule_model.specs.JobDef.{job_of}
use Rattle.schedule_model.specs.LawfulJobs.{AreLawfulIn}
use Rattle.schedule_model.specs.RowDef.{Trace}
use Rattle.schedule_model.specs.Phase.{phase_of}
use Rattle.schedule_model.specs.Phase.Phase.{Finished}
use Rattle.schedule_model.specs.Activity.{task_of}
use Rattle.schedule_model.specs.BlockedTicks.{is_blocked}
use Rattle.schedule_model.specs.declared.rule.Rule.{Rule}

-- A lawful schedule of n rows: its jobs are lawful jobs of the set, and each row before tick n keeps each rule of the protocol.
pub record IsLawfulSchedule (keeps : Rule → Trace → ℕ → Type 0) (set : SetDef) (w : Trace) (n : ℕ) : Type 0 where
  pub set_is : w.set ≡ set
  pub jobs : AreLawfulIn w.set w.jobs
  pub rows : (t : ℕ) → t < n → (r : Rule) → keeps r w t

-- By when is job j to be finished? By its release plus its task's bound.
abbrev pub due_tick : Trace → List ℕ → ℕ → ℕ
due_tick w bounds j = (job_of w.jobs j).release + slice_index bounds (task_of w j)

-- Is tick t in job j's window: from its release on, and before the tick by which it is to be finished?
abbrev pub is_in_window : Trace → List ℕ → ℕ → ℕ → Bool
is_in_window w bounds t j = nat_le (job_of w.jobs j).release t && nat_lt t (due_tick w bounds j)

-- At how many ticks before n is job j blocked in its window? The first argument says which ticks are interference.
abbrev pub blocked_in_window : (Trace → ℕ → ℕ → Bool) → Trace → ℕ → List ℕ → ℕ → ℕ
blocked_in_window interferes w n bounds j = count_below n (λ t. is_in_window w bounds t j && is_blocked interferes w t j)

-- In a schedule of n rows: each job that is to be finished by tick n is finished by the tick by which it is to be. No job is blocked in its
-- window at more ticks than its task's value.
pub record KeepsBounds (interferes : Trace → ℕ → ℕ → Bool) (w : Trace) (n : ℕ) (bounds values : List ℕ) : Type 0 where
  pub finished : (j : ℕ) → j < length w.jobs → due_tick w bounds j ≤ n → phase_of w (due_tick w bounds j) j ≡ Finished
  pub blocked : (j : ℕ) → j < length w.jobs → blocked_in_window interferes w n bounds j ≤ slice_index values (task_of w j)

-- Bounds and values, one of each for a task, are sound for a set under a protocol with these rules and this interference. Every lawful
-- schedule keeps them, whatever its jobs are, and however many rows it has.
abbrev pub Sound : (Rule → Trace → ℕ → Type 0) → (Trace → ℕ → ℕ → Bool) → SetDef → List ℕ → List ℕ → Type 0
Sound keeps interferes set bounds values = (w : Trace) (n : ℕ) → IsLawfulSchedule keeps set w n → KeepsBounds interferes w n bounds values
