-- What contracts see of a refusal that was read.
use Rattle.std.specs.Prelude.{ℕ, List}
use Rattle.refusal_laws.specs.declared.refusal.Refusal.{Refusal}
use Rattle.refusal_laws.specs.Seen.{steps_seen}
use Rattle.command_inputs.specs.RefusalDef.{RefusalDef}

-- A refusal with its set's digest.
abbrev pub refusal_seen : Refusal → List ℕ → RefusalDef
refusal_seen refusal digest = record { steps = steps_seen refusal; digest = digest }
