-- How far a walk over a refusal's steps is.
use Rattle.std.specs.Prelude.{◌≡◌, ℕ, ◌+◌, ◌<◌, List, Bool, true, false, length}
use Rattle.sporadic_model.specs.SetDef.{SetDef}
use Rattle.sporadic_model.specs.Bounds.{IsInRange}
use Rattle.refusal_laws.specs.Steps.{StepDef, step_at, costs_of, vector_before, PassesLatest}
use Rattle.refusal_confirm.specs.Tests.{IsCalm, IsEntered}

-- With `false`: no step before step k has a value above its latest bound, and these are the bounds before step k. With `true`: the step
-- just before step k has such a value.
abbrev pub StandsAt : Bool → SetDef → List StepDef → ℕ → List ℕ → Type 0
StandsAt true set steps k v = (j : ℕ) × (k ≡ j + 1) × PassesLatest set (step_at steps j)
StandsAt false set steps k v = IsCalm set steps k × (v ≡ vector_before set steps k)

-- Are these the tasks' costs, and are they bounds in range?
pub record AreFirstBounds (set : SetDef) (v : List ℕ) : Type 0 where
  pub first : v ≡ costs_of set
  pub range : IsInRange set v

-- Is a walk before the first step?
pub record IsAtStart (set : SetDef) (v : List ℕ) (over : Bool) : Type 0 where
  pub bounds : AreFirstBounds set v
  pub going : over ≡ false

-- Is a walk at step k, and did each step before it pass the tests that need no program?
pub record HasComeTo (set : SetDef) (steps : List StepDef) (k : ℕ) (v : List ℕ) (over : Bool) : Type 0 where
  pub entered : (j : ℕ) → j < k → IsEntered set steps j
  pub range : IsInRange set v
  pub stands : StandsAt over set steps k v

-- Is there a step k to which a walk has come so?
pub record HasComeToStep (set : SetDef) (steps : List StepDef) (k : ℕ) (v : List ℕ) (over : Bool) : Type 0 where
  pub within : k < length steps
  pub come : HasComeTo set steps k v over

-- Have the bounds a place for each task of the set, and is i one of these?
pub record CanTake (set : SetDef) (v : List ℕ) (i : ℕ) : Type 0 where
  pub task : i < length set.tasks
  pub size : length v ≡ length set.tasks
