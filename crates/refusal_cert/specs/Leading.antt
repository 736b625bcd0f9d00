-- How steps lead from the costs to the bounds of rounds.
use Rattle.std.specs.Prelude.{◌≡◌, ℕ, ◌<◌, ◌≤◌, List, length, slice_index}
use Rattle.sporadic_model.specs.Bounds.{AtMost}
use Rattle.program_sources.specs.Recurrence.{SourceDef}
use Rattle.program_sources.specs.Fitting.{tasks_of}
use Rattle.refusal_laws.specs.Steps.{StepDef, step_at, after_steps, costs_of, vector_before, IsStep, PassesLatest}
use Rattle.response_fixpoint.specs.Rounds.{Found}

-- The bounds that steps come to.
abbrev pub after_all : SourceDef → List StepDef → List ℕ
after_all f steps = after_steps (costs_of f.set) steps

-- A list of steps, each of which is one at the bounds before it. None passes its task's latest bound.
pub record Leads (f : SourceDef) (steps : List StepDef) : Type 0 where
  pub each : (k : ℕ) → k < length steps → IsStep f (vector_before f.set steps k) (step_at steps k)
  pub calm : (k : ℕ) → k < length steps → PassesLatest f.set (step_at steps k) → ⊥

-- Within a round at r. The steps up to here lead to the values that were found, and to r for the tasks that are still to come.
pub record IsLed (f : SourceDef) (r : List ℕ) (found : Found) (i : ℕ) (steps : List StepDef) : Type 0 where
  pub leads : Leads f steps
  pub above : AtMost (tasks_of f) r (after_all f steps)
  pub done : (j : ℕ) → j < i → slice_index (after_all f steps) j ≡ slice_index found.values j
  pub rest : (j : ℕ) → i ≤ j → slice_index (after_all f steps) j ≡ slice_index r j
