-- A certificate of refusal, as its file has it.
use Rattle.std.specs.Prelude.{ℕ, List}
use Rattle.refusal_laws.specs.Steps.{StepDef}

-- Its steps, and the digest of its set's bytes.
pub record RefusalDef : Type 0 where
  pub steps : List StepDef
  pub digest : List ℕ
