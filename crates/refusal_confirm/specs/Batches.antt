-- Batches of steps that pass the tests that need no program. Each step is kept with the bounds at which its point is to be tested.
use Rattle.std.specs.Prelude.{◌≡◌, ℕ, ◌+◌, ◌<◌, ◌≤◌, List, Bool, Option, Some, None, Result, Ok, Err, length, slice_get, ◌⊎◌}
use Rattle.sporadic_model.specs.SetDef.{SetDef}
use Rattle.sporadic_model.specs.Bounds.{IsInRange}
use Rattle.program_sources.specs.Recurrence.{SourceDef}
use Rattle.refusal_laws.specs.Steps.{StepDef, step_at, place_of, vector_before}
use Rattle.refusal_confirm.specs.Tests.{IsEntered}
use Rattle.refusal_confirm.specs.Parts.{Enters, FindsPart, fault_of}
use Rattle.refusal_confirm.specs.Walks.{HasComeTo}
use Rattle.refusal_confirm.specs.declared.fault.Fault.{Fault}
use Rattle.refusal_confirm.specs.declared.fault.Fault.TheVariants as fault
use Rattle.refusal_confirm.specs.declared.fault.Part.{Part}
use Rattle.refusal_confirm.specs.declared.batches.Trial.{Trial}
use Rattle.std.specs.declared.alloc.AllocError.{AllocError}

-- Is this step k's task and the bounds before it, and has the step passed the tests that need no program?
pub record IsTrial (set : SetDef) (steps : List StepDef) (k : ℕ) (t : Trial) : Type 0 where
  pub within : k < length steps
  pub entered : IsEntered set steps k
  pub place : t.task.0 ≡ place_of (step_at steps k)
  pub bounds : t.bounds.items ≡ vector_before set steps k
  pub range : IsInRange set t.bounds.items

-- Are these the trials of the steps from this one on?
abbrev pub AreTrials : SetDef → List StepDef → ℕ → List Trial → Type 0
AreTrials set steps start trials = (j : ℕ) (t : Trial) → slice_get trials j ≡ Some t → IsTrial set steps (start + j) t

-- Why does a batch stop before step k? Either step k fails a test that needs no program, or the batch is full.
abbrev pub StopsAt : Option Part → SetDef → List StepDef → ℕ → ℕ → List ℕ → Bool → Type 0
StopsAt (Some p) set steps start k v over = (k < length steps) × Enters (Err p) set v over (step_at steps k)
StopsAt None set steps start k v over = start < k

-- A batch from this step on, and how far the walk is after it.
pub record IsBatch (set : SetDef) (steps : List StepDef) (start : ℕ) (trials : List Trial) (stop : Option Part)
    (v : List ℕ) (over : Bool) : Type 0 where
  pub come : HasComeTo set steps (start + length trials) v over
  pub most : start + length trials ≤ length steps
  pub each : AreTrials set steps start trials
  pub stops : StopsAt stop set steps start (start + length trials) v over

-- What the tests of step k's point find.
abbrev pub FindsAt : Option Part → SourceDef → List StepDef → ℕ → Type 0
FindsAt found f steps k = FindsPart found f (vector_before f.set steps k) (step_at steps k)

-- The same for an answer that may be want of memory, which says nothing.
abbrev pub SaysOf : Result (Option Part) AllocError → SourceDef → List StepDef → ℕ → Type 0
SaysOf (Ok found) f steps k = FindsAt found f steps k
SaysOf (Err e) f steps k = Unit {0}

-- The same for the steps from this one on.
abbrev pub AreTested : SourceDef → List StepDef → ℕ → List (Result (Option Part) AllocError) → Type 0
AreTested f steps start tested = (j : ℕ) (r : Result (Option Part) AllocError) → slice_get tested j ≡ Some r → SaysOf r f steps (start + j)

-- The same for each of so many steps.
pub record AreAllTested (f : SourceDef) (steps : List StepDef) (start count : ℕ) (tested : List (Result (Option Part) AllocError))
    : Type 0 where
  pub len : length tested ≡ count
  pub each : AreTested f steps start tested

-- Is this the fault of the first step, from this one on, that fails a test?
pub record NamesFirst (e : Fault) (tested : List (Result (Option Part) AllocError)) (start : ℕ) : Type 0 where
  pub place : ℕ
  pub part : Part
  pub is : e ≡ fault_of part (start + place + 1)
  pub found : slice_get tested place ≡ Some (Ok (Some part))
  pub earlier : (j : ℕ) → j < place → slice_get tested j ≡ Some (Ok None)

-- The result of these tests: no step fails one, or the first fault, or want of memory.
abbrev pub IsFirstFault : Result (Unit {0}) Fault → List (Result (Option Part) AllocError) → ℕ → Type 0
IsFirstFault (Ok done) tested start = (j : ℕ) → j < length tested → slice_get tested j ≡ Some (Ok None)
IsFirstFault (Err e) tested start = (e ≡ fault.Memory) ⊎ NamesFirst e tested start
