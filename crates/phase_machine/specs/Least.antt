-- The least of some numbers, and of which numbers the length of a stretch is the least.
use Rattle.std.specs.Prelude.{◌≡◌, ℕ, ◌+◌, ◌<◌, ◌≤◌, List, length, Option, None, Some, slice_index_or}
use Rattle.schedule_model.specs.JobDef.{JobDef, job_of}
use Rattle.phase_machine.specs.declared.place.ScriptPlace.{ScriptPlace}
use Rattle.phase_machine.specs.MachineDef.{task_in, no_place}
use Rattle.phase_machine.specs.Stretch.{left_at}

-- Is n the least of `most` and of these numbers?
pub record IsLeastOf (most : ℕ) (among : ℕ → Type 0) (n : ℕ) : Type 0 where
  pub at_most : n ≤ most
  pub each : (v : ℕ) → among v → n ≤ v
  pub reached : n < most → among n

-- Is v what is left of the phase of a job in one of the first columns?
abbrev pub IsLeft : List JobDef → List ScriptPlace → List (Option ℕ) → ℕ → ℕ → Type 0
IsLeft jobs places running columns v = (c j : ℕ) × (c < columns) × (slice_index_or running c None ≡ Some j)
    × (left_at jobs (slice_index_or places (task_in jobs j) no_place) ≡ v)

-- Is the next job of one of the first tasks released v ticks after this one?
abbrev pub IsAhead : List JobDef → ℕ → List ℕ → ℕ → ℕ → Type 0
IsAhead jobs tick coming tasks v = (x : ℕ) × (x < tasks) × (slice_index_or coming x 0 < length jobs)
    × ((job_of jobs (slice_index_or coming x 0)).release ≡ tick + v)
