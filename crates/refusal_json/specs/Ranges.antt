-- The ranges of the numbers in a refusal.
use Rattle.std.specs.Prelude.{◌^◌, ◌<◌, List, All}
use Rattle.cert_json.specs.Ranges.{IsSmallDual}
use Rattle.refusal_laws.specs.Steps.{StepDef}

-- Has each point a positive denominator, and no number above the greatest that a program may hold?
abbrev pub HasSmallPoints : List StepDef → Type 0
HasSmallPoints steps = All (λ s. IsSmallDual s.point) steps

-- Does the text of the refusal have the form? It does if its tasks and values have 64 bits, and its points are small.
pub record IsWritableStep (s : StepDef) : Type 0 where
  pub task : s.task < 2 ^ 64
  pub value : s.value < 2 ^ 64
  pub point : IsSmallDual s.point

abbrev pub IsWritable : List StepDef → Type 0
IsWritable steps = All IsWritableStep steps
