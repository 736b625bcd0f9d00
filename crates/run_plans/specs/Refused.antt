-- What status 0 of `refute` and of `confirm` says: nothing fits, and this is why.
use Rattle.std.specs.Prelude.{◌≡◌, ℕ, ◌≤◌, List, [], ◌∷◌, length}
use Rattle.std.specs.Io.KnownBytes.{Appends}
use Rattle.outside_ports.specs.Names.{IsNamed}
use Rattle.outside_ports.specs.Past.{wholly}
use Rattle.outside_ports.specs.declared.whole.TheConstants.{GREATEST_INPUT_BYTES}
use Rattle.sha2.specs.Sha256.{sha256}
use Rattle.sporadic_model.specs.SetDef.{SetDef}
use Rattle.protocol_names.specs.Names.{word_of}
use Rattle.protocol_names.specs.declared.ProtocolName.{ProtocolName}
use Rattle.program_sources.specs.Fitting.{AreFitting}
use Rattle.refusal_laws.specs.Steps.{StepDef, Holds}
use Rattle.refusal_json.specs.Text.{refusal_text}
use Rattle.named_laws.specs.Named.{source_of}
use Rattle.command_inputs.specs.Inputs.{IsRefusalText}
use Rattle.run_plans.specs.Headline.{Call, Asks, ReadsSome}

-- The call asked for the set alone. The bytes that the shelf gave are the text of the set. The call writes a refusal of it that holds, with
-- the digest of these bytes. So no bounds within all deadlines satisfy the recurrence.
pub record IsProvedRefutation (call : Call) (protocol : ProtocolName) (name : List ℕ) : Type 0 where
  pub set : SetDef
  pub read : ReadsSome call protocol name set
  pub asked : Asks call (wholly name read.bytes ∷ [])
  pub given : length read.bytes ≡ call.shelf_now.given
  pub steps : List StepDef
  pub text : Appends call.sink_before.written call.sink_now.written (refusal_text (word_of protocol) (sha256 read.bytes) steps)
  pub holds : Holds (source_of protocol set) steps
  pub none : (s : List ℕ) → AreFitting (source_of protocol set) s → ⊥

-- The call read a set and a refusal of it, which has the digest of the set's bytes and holds. So nothing fits.
pub record ReadsHolding (call : Call) (protocol : ProtocolName) (name cert : List ℕ) : Type 0 where
  pub set : SetDef
  pub read : ReadsSome call protocol name set
  pub steps : List StepDef
  pub bytes : List ℕ
  pub named : IsNamed call.shelf_before.names cert bytes
  pub short : length bytes ≤ GREATEST_INPUT_BYTES
  pub reads : IsRefusalText protocol bytes (record { steps = steps; digest = sha256 read.bytes })
  pub holds : Holds (source_of protocol set) steps
  pub none : (s : List ℕ) → AreFitting (source_of protocol set) s → ⊥

-- The call asked for the set and then for the refusal, and for nothing else. Both are read from the bytes that the shelf gave.
pub record IsProvedConfirmation (call : Call) (protocol : ProtocolName) (name cert : List ℕ) : Type 0 where
  pub proved : ReadsHolding call protocol name cert
  pub asked : Asks call (wholly name proved.read.bytes ∷ wholly cert proved.bytes ∷ [])
  pub given : length proved.bytes ≡ call.shelf_now.given
