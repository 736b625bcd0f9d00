-- Fills the places of a row, from the highest task on. A job claims a place, and gets it if it is free.
use Rattle.std.specs.Prelude.{◌≡◌, ◌⊎◌, ℕ, ◌<◌, ◌≤◌, ◌&&◌, not, true, if◌then◌else◌, length, Option, None, Some, is_some}
use Rattle.schedule_model.specs.RowDef.{is_job}
use Rattle.phase_machine.specs.MachineDef.{MachineDef, task_in}
use Rattle.phase_machine.specs.Now.{active_now, is_local_now, holds_now}

-- Which job is at place k after job j has come with this claim, if o was there before?
abbrev pub filled : ℕ → Option ℕ → ℕ → Option ℕ → Option ℕ
filled j claim k o = if is_job k claim && not (is_some o) then Some j else o

-- Is job j the highest of the active jobs that claim place k and are of tasks below x?
pub record Takes (m : MachineDef) (claim : ℕ → Option ℕ) (x k j : ℕ) : Type 0 where
  pub active : active_now m j ≡ true
  pub claims : claim j ≡ Some k
  pub early : task_in m.list.jobs j < x
  pub first : (i : ℕ) → active_now m i ≡ true → claim i ≡ Some k → task_in m.list.jobs i < x
      → task_in m.list.jobs j ≤ task_in m.list.jobs i

-- Are these the places after the tasks below x have come, given those at the start?
pub record Filled (m : MachineDef) (claim start : ℕ → Option ℕ) (x : ℕ) (places : ℕ → Option ℕ) : Type 0 where
  pub keeps : (k j : ℕ) → start k ≡ Some j → places k ≡ Some j
  pub from : (k j : ℕ) → places k ≡ Some j → (start k ≡ Some j) ⊎ Takes m claim x k j
  pub free : (k : ℕ) → places k ≡ None → (i : ℕ) → active_now m i ≡ true → claim i ≡ Some k → task_in m.list.jobs i < x → ⊥

-- Are these the places after all active jobs have come, given those at the start?
abbrev pub FilledByAll : MachineDef → (MachineDef → ℕ → Option ℕ) → (ℕ → Option ℕ) → (ℕ → Option ℕ) → Type 0
FilledByAll m claim start places = Filled m (claim m) start (length m.list.set.tasks) places

-- Is this what runs if the jobs with the first claim come before those with the second?
pub record FilledTwice (m : MachineDef) (first second : ℕ → Option ℕ) (running : ℕ → Option ℕ) : Type 0 where
  pub before : ℕ → Option ℕ
  pub holders : Filled m first (λ k. None) (length m.list.set.tasks) before
  pub locals : Filled m second before (length m.list.set.tasks) running

-- Which processor does job j claim as a holder of the resource that it requests, with these holders? And which as a Local job?
abbrev pub holder_claim : MachineDef → (ℕ → ℕ) → (ℕ → Option ℕ) → ℕ → Option ℕ
holder_claim m column held j = if holds_now m held j then Some (column j) else None

abbrev pub local_claim : MachineDef → (ℕ → ℕ) → ℕ → Option ℕ
local_claim m column j = if is_local_now m j then Some (column j) else None
