-- Steps that raise bounds from the costs, whether or not they come to one that passes its latest bound.
use Rattle.std.specs.Prelude.{ℕ, ◌<◌, List, length}
use Rattle.program_sources.specs.Recurrence.{SourceDef}
use Rattle.refusal_laws.specs.Steps.{StepDef, IsStep, step_at, vector_before}

-- Is each of these a step at the bounds before it?
abbrev pub AreSteps : SourceDef → List StepDef → Type 0
AreSteps f steps = (k : ℕ) → k < length steps → IsStep f (vector_before f.set steps k) (step_at steps k)
