-- The steps of a walk, which may make a refusal.
use Rattle.std.specs.Prelude.{◌≡◌, ℕ, ◌<◌, ◌≤◌, List, [], ◌∷◌, ◌++◌, map, length, IsTrue, false, Some, None}
use Rattle.std.specs.declared.option.Option.{Option}
use Rattle.program_form.specs.Certificate.{dual_seen}
use Rattle.program_form.specs.declared.certificate.Dual.{Dual}
use Rattle.program_sources.specs.Recurrence.{SourceDef}
use Rattle.refusal_laws.specs.Steps.{StepDef, step_at, Holds}
use Rattle.refusal_laws.specs.Seen.{step_seen, steps_seen}
use Rattle.refusal_laws.specs.declared.refusal.Refusal.{Refusal}
use Rattle.refusal_cert.specs.Leading.{after_all, Leads, IsLed}
use Rattle.refusal_cert.specs.Steps.{step_of}
use Rattle.response_fixpoint.specs.Answers.{IsSmallDual}
use Rattle.response_fixpoint.specs.Rounds.{Found}
use Rattle.settling.specs.declared.steps.Steps.{Steps}

-- Are all numbers of each step's point below 2^63?
abbrev pub HasSmallPoints : List StepDef → Type 0
HasSmallPoints steps = (k : ℕ) → k < length steps → IsSmallDual (step_at steps k).point

-- The steps so far.
abbrev pub seen : Steps → List StepDef
seen steps = map step_seen steps.list.items

-- Is there no step yet?
pub record IsEmpty (steps : Steps) : Type 0 where
  pub none : seen steps ≡ []
  pub written : IsTrue steps.are_written

-- Is the step of task i to this value added, if its point is written and those before it are?
abbrev pub AddsStep : Steps → Steps → ℕ → ℕ → Option Dual → Type 0
AddsStep before now i value (Some point) =
    (IsTrue before.are_written → seen now ≡ seen before ++ step_of i value (dual_seen point) ∷ []) × (now.are_written ≡ before.are_written)
AddsStep before now i value None = now.are_written ≡ false

-- The same if the value is above the task's bound. Else the steps stay.
pub record AddsRise (before now : Steps) (i bound value : ℕ) (point : Option Dual) : Type 0 where
  pub rises : bound < value → AddsStep before now i value point
  pub stays : value ≤ bound → now ≡ before

-- Do the steps lead to the bounds v, with small points?
pub record LeadsTo (f : SourceDef) (v : List ℕ) (steps : List StepDef) : Type 0 where
  pub leads : Leads f steps
  pub vector : after_all f steps ≡ v
  pub small : HasSmallPoints steps

-- Do they lead to what a round at r has found of its first i tasks, and to r elsewhere?
pub record LeadsWithin (f : SourceDef) (r : List ℕ) (found : Found) (i : ℕ) (steps : List StepDef) : Type 0 where
  pub led : IsLed f r found i steps
  pub small : HasSmallPoints steps

-- Does the refusal of these steps hold, with small points?
pub record IsRefusal (f : SourceDef) (steps : List StepDef) : Type 0 where
  pub holds : Holds f steps
  pub small : HasSmallPoints steps

-- The same of the steps of a walk, if all are written.
abbrev pub IsTrail : SourceDef → List ℕ → Steps → Type 0
IsTrail f v steps = IsTrue steps.are_written → LeadsTo f v (seen steps)

abbrev pub IsTrailWithin : SourceDef → List ℕ → Found → ℕ → Steps → Type 0
IsTrailWithin f r found i steps = IsTrue steps.are_written → LeadsWithin f r found i (seen steps)

abbrev pub EndsTrail : SourceDef → Steps → Type 0
EndsTrail f steps = IsTrue steps.are_written → IsRefusal f (seen steps)

-- The refusal of the steps. None only if some point isn't written.
abbrev pub Refuses : Steps → Option Refusal → Type 0
Refuses steps (Some refusal) = (IsTrue steps.are_written) × (steps_seen refusal ≡ seen steps)
Refuses steps None = steps.are_written ≡ false
