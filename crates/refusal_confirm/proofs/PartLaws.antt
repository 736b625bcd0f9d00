-- What the tests of a step tell of it.
use Rattle.std.proofs.Common.{◌≡◌, ℕ, ◌+◌, ◌<◌, List, length, refl, subst}
use Rattle.std.specs.Prelude.{Some, None, Err}
use Rattle.program_sources.specs.Recurrence.{SourceDef}
use Rattle.refusal_laws.specs.Steps.{StepDef, step_at, vector_before}
use Rattle.refusal_confirm.specs.Tests.{IsEntered, IsShown, Passes}
use Rattle.refusal_confirm.specs.Faults.{IsFirst, Confirms}
use Rattle.refusal_confirm.specs.Parts.{FailsPart, FindsPart, fault_of}
use Rattle.refusal_confirm.specs.declared.fault.Part.{Part}
use Rattle.refusal_confirm.specs.declared.fault.Part.TheVariants as part

first : (p : Part) (f : SourceDef) (steps : List StepDef) (k : ℕ) → k < length steps
    → ((j : ℕ) → j < k → Passes f steps j) → FailsPart p f steps k → IsFirst (FailsPart p) f steps (k + 1)
first p f steps k within earlier fails = record { step = k; number = refl; within = within; earlier = earlier; failed = fails }

-- A step that fails a test, behind steps that pass all, is a fault.
pub part_is_fault : (p : Part) (f : SourceDef) (steps : List StepDef) (k : ℕ) → k < length steps
    → ((j : ℕ) → j < k → Passes f steps j) → FailsPart p f steps k → Confirms (Err (fault_of p (k + 1))) f steps
part_is_fault part.After f steps k within earlier fails = first part.After f steps k within earlier fails
part_is_fault part.Task f steps k within earlier fails = first part.Task f steps k within earlier fails
part_is_fault part.Rising f steps k within earlier fails = first part.Rising f steps k within earlier fails
part_is_fault part.Size f steps k within earlier fails = first part.Size f steps k within earlier fails
part_is_fault (part.Row r) f steps k within earlier fails = (r, refl, first (part.Row r) f steps k within earlier fails)
part_is_fault part.Low f steps k within earlier fails = first part.Low f steps k within earlier fails

-- A test of a step's point that fails at the bounds before it is one that the step fails.
at_step : (p : Part) (f : SourceDef) (steps : List StepDef) (k : ℕ) → IsEntered f.set steps k
    → FindsPart (Some p) f (vector_before f.set steps k) (step_at steps k) → FailsPart p f steps k
at_step part.After f steps k entered found = absurd found
at_step part.Task f steps k entered found = absurd found
at_step part.Rising f steps k entered found = absurd found
at_step part.Size f steps k entered found = (entered, found)
at_step (part.Row r) f steps k entered found = (entered, found)
at_step part.Low f steps k entered found = (entered, found)

pub found_fails : (p : Part) (f : SourceDef) (steps : List StepDef) (k : ℕ) (v : List ℕ) (s : StepDef) → IsEntered f.set steps k
    → v ≡ vector_before f.set steps k → s ≡ step_at steps k → FindsPart (Some p) f v s → FailsPart p f steps k
found_fails p f steps k v s entered bounds is found =
    at_step p f steps k entered (subst (λ (w : List ℕ). FindsPart (Some p) f w (step_at steps k)) bounds
    (subst (λ (t : StepDef). FindsPart (Some p) f v t) is found))

-- And one whose point passes all of them passes.
pub none_passes : (f : SourceDef) (steps : List StepDef) (k : ℕ) (v : List ℕ) (s : StepDef) → IsEntered f.set steps k
    → v ≡ vector_before f.set steps k → s ≡ step_at steps k → FindsPart None f v s → Passes f steps k
none_passes f steps k v s entered bounds is found = record {
  entered = entered;
  shown = subst (λ (w : List ℕ). IsShown f w (step_at steps k)) bounds (subst (λ (t : StepDef). IsShown f v t) is found);
}
