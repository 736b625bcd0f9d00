-- The text of a refusal: one compact JSON object, as `serde_json` writes it, and a line end.
use Rattle.std.specs.Prelude.{ℕ, List, ◌++◌, codes}
use Rattle.serde_json.specs.Written.{compact_text}
use Rattle.refusal_laws.specs.Steps.{StepDef}
use Rattle.refusal_json.specs.Value.{refusal_data}

-- The text of a refusal of these steps for the protocol of this word, and the set of this digest.
abbrev pub refusal_text : List ℕ → List ℕ → List StepDef → List ℕ
refusal_text word digest steps = compact_text (refusal_data word digest steps) ++ codes "\n"
