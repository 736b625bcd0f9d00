-- The headline: what a call of the program that analyses a set writes, and what that means.
use Rattle.std.specs.Prelude.{◌≡◌, ◌≢◌, ℕ, true, ◌≤◌, ◌↔◌, List, [], ◌∷◌, length, Some}
use Rattle.std.specs.Io.KnownBytes.{Appends}
use Rattle.outside_ports.specs.Counts.{Rose}
use Rattle.outside_ports.specs.Names.{Inputs, bytes_of, IsNamed}
use Rattle.outside_ports.specs.Past.{Asked, wholly}
use Rattle.outside_ports.specs.Ports.{ShelfDef, SinkDef}
use Rattle.outside_ports.specs.declared.whole.TheConstants.{GREATEST_INPUT_BYTES}
use Rattle.program_form.specs.Certificate.{CertificateDef}
use Rattle.sporadic_model.specs.SetDef.{SetDef}
use Rattle.sporadic_model.specs.Accepted.{IsAccepted}
use Rattle.protocol_names.specs.declared.ProtocolName.{ProtocolName}
use Rattle.named_laws.specs.Named.{HasHomes, SoundUnder, source_of}
use Rattle.program_sources.specs.Fitting.{AreFitting, AreLeastFitting}
use Rattle.program_sources.specs.Valid.{IsValid, AreOptimalDuals}
use Rattle.soundness_laws.specs.Analyses.{AreValues}
use Rattle.protocol_names.specs.Names.{word_of}
use Rattle.command_words.specs.Spelled.{analyse_words, allowance_of, check_words}
use Rattle.serde_json.specs.Data.{Data}
use Rattle.taskset_json.specs.Answers.{IsValue}
use Rattle.taskset_json.specs.Form.{has_set_form}
use Rattle.taskset_json.specs.Written.{set_written}
use Rattle.cert_json.specs.Text.{certificate_text}
use Rattle.sha2.specs.Sha256.{sha256}
use Rattle.command_inputs.specs.Inputs.{IsFileText}
use Rattle.command_inputs.specs.Known.{AreInputs, readings_after, shown}

-- A call: its words, the shelf and the sink before it and after it, and the status.
pub record Call : Type 0 where
  pub words : List (List ℕ)
  pub shelf_before : ShelfDef
  pub shelf_now : ShelfDef
  pub sink_before : SinkDef
  pub sink_now : SinkDef
  pub status : ℕ

-- The call asked its shelf for these, in this order, and for nothing else. Each has its name and the bytes that the shelf gave.
abbrev pub Asks : Call → List Asked → Type 0
Asks call readings = call.shelf_now.readings ≡ readings_after call.shelf_before.readings readings

-- Are these the inputs of the call? The shelf tells them, or they fit all that the call asked for and was given.
abbrev pub HasInputs : Call → Inputs → Type 0
HasInputs call inputs = AreInputs (shown call.shelf_before call.shelf_now) inputs

-- Memory ran out, and nothing was written.
pub record RanOut (call : Call) : Type 0 where
  pub status : call.status ≡ 7
  pub written : call.sink_now.written ≡ call.sink_before.written
  pub faults : call.sink_now.faults ≡ call.sink_before.faults
  pub room : call.sink_before.room ≤ call.sink_now.room

-- Does the call write "schedulable", as the text of a certificate for the set of this digest? Its bounds are the least within all deadlines
-- that satisfy the recurrence, and its duals are optimal. Its bounds and the values of its duals are sound: every lawful schedule keeps
-- them.
pub record WritesSchedulable (call : Call) (protocol : ProtocolName) (digest : List ℕ) (set : SetDef) : Type 0 where
  pub certificate : CertificateDef
  pub done : call.status ≡ 0
  pub text : Appends call.sink_before.written call.sink_now.written (certificate_text (word_of protocol) digest certificate)
  pub least : AreLeastFitting (source_of protocol set) certificate.bounds
  pub optimal : AreOptimalDuals (source_of protocol set) certificate.bounds certificate.duals
  pub sound : (values : List ℕ) → AreValues (source_of protocol set) certificate values → SoundUnder protocol set certificate.bounds values

-- The bytes are the text of this set. Their value has the form. The set that it gives is accepted, and has the homes that the protocol asks
-- for.
pub record IsSetText (protocol : ProtocolName) (bytes : List ℕ) (set : SetDef) : Type 0 where
  pub value : Data
  pub is_value : IsValue bytes value
  pub form : has_set_form value ≡ true
  pub set_is : set ≡ set_written value
  pub accepted : IsAccepted set
  pub homes : HasHomes protocol set

-- The call read a set under this name: some bytes are the text of the set. If the shelf tells its inputs, they are the bytes of the name.
pub record ReadsSome (call : Call) (protocol : ProtocolName) (name : List ℕ) (set : SetDef) : Type 0 where
  pub bytes : List ℕ
  pub named : IsNamed call.shelf_before.names name bytes
  pub short : length bytes ≤ GREATEST_INPUT_BYTES
  pub text : IsSetText protocol bytes set

-- The call analyses the set. Its words are those of `analyse`, with an allowance or none. Among the call's inputs, the bytes of the name
-- are the text of the set.
pub record Analyses (call : Call) (protocol : ProtocolName) (set : SetDef) : Type 0 where
  pub inputs : Inputs
  pub name : List ℕ
  pub more : List (List ℕ)
  pub allowance : ℕ
  pub words : call.words ≡ analyse_words protocol name more
  pub allows : allowance_of more ≡ Some allowance
  pub has : HasInputs call inputs
  pub read : ReadsSome call protocol name set
  pub named_set : bytes_of inputs name ≡ Some read.bytes

-- The headline: the call writes "schedulable" if some bounds within all deadlines satisfy the recurrence, and only then. It gives the least
-- such bounds, with optimal duals. Its premises: no count of faults rose in the call, memory did not run out, and the status isn't 5 or 6.
-- These two come only if the rounds end in a program that is too wide, or with the allowance (`wide` and `allowance` of `IsRun`). Without
-- the premises: what is written as schedulable is least and optimal, and a set is said to be not shown only if nothing fits.
pub record IsHeadline (call : Call) (protocol : ProtocolName) (digest : List ℕ) (set : SetDef) : Type 0 where
  pub exactly : (Rose call.shelf_before.faults call.shelf_now.faults → ⊥) → (Rose call.sink_before.faults call.sink_now.faults → ⊥) → (RanOut call → ⊥)
      → call.status ≢ 5 → call.status ≢ 6 → WritesSchedulable call protocol digest set ↔ ((s : List ℕ) × AreFitting (source_of protocol set) s)
  pub least : call.status ≡ 0 → WritesSchedulable call protocol digest set
  pub none : call.status ≡ 1 → (s : List ℕ) → AreFitting (source_of protocol set) s → ⊥

-- The call checks a certificate of the set. Its words are those of `check`. Among the call's inputs, the bytes of the names are the texts
-- of the two.
pub record Checks (call : Call) (protocol : ProtocolName) (set : SetDef) (c : CertificateDef) : Type 0 where
  pub inputs : Inputs
  pub name : List ℕ
  pub cert : List ℕ
  pub words : call.words ≡ check_words protocol name cert
  pub has : HasInputs call inputs
  pub read : ReadsSome call protocol name set
  pub named_set : bytes_of inputs name ≡ Some read.bytes
  pub bytes : List ℕ
  pub named : bytes_of inputs cert ≡ Some bytes
  pub short : length bytes ≤ GREATEST_INPUT_BYTES
  pub digest : List ℕ
  pub reads : IsFileText protocol bytes (record { certificate = c; digest = digest })

-- The headline's second half: what the call accepts, with status 0, is sound. Take any schedule of lawful jobs of the set that keeps the
-- protocol's rules. Each job ends within its bound, and is blocked at no more ticks than its dual's value.
abbrev pub IsSoundCheck : Call → ProtocolName → SetDef → CertificateDef → Type 0
IsSoundCheck call protocol set c = call.status ≡ 0 → (values : List ℕ) → AreValues (source_of protocol set) c values
    → SoundUnder protocol set c.bounds values

-- What status 0 of words of `analyse` says, whatever the shelf tells. The call asked for the set alone. The bytes that the shelf gave are
-- the text of the set. For this set the call writes "schedulable".
pub record IsProvedAnalysis (call : Call) (protocol : ProtocolName) (name : List ℕ) : Type 0 where
  pub set : SetDef
  pub read : ReadsSome call protocol name set
  pub asked : Asks call (wholly name read.bytes ∷ [])
  pub given : length read.bytes ≡ call.shelf_now.given
  pub writes : WritesSchedulable call protocol (sha256 read.bytes) set

-- The call read a set and a certificate of it, which is valid. So its bounds and the values of its duals are sound.
pub record ReadsValid (call : Call) (protocol : ProtocolName) (name cert : List ℕ) : Type 0 where
  pub set : SetDef
  pub read : ReadsSome call protocol name set
  pub certificate : CertificateDef
  pub bytes : List ℕ
  pub named : IsNamed call.shelf_before.names cert bytes
  pub short : length bytes ≤ GREATEST_INPUT_BYTES
  pub reads : IsFileText protocol bytes (record { certificate = certificate; digest = sha256 read.bytes })
  pub valid : IsValid (source_of protocol set) certificate
  pub sound : (values : List ℕ) → AreValues (source_of protocol set) certificate values → SoundUnder protocol set certificate.bounds values

-- What status 0 of words of `check` says, whatever the shelf tells. The call asked for the set and then for the certificate, and for
-- nothing else. Both are read from the bytes that the shelf gave.
pub record IsProvedCheck (call : Call) (protocol : ProtocolName) (name cert : List ℕ) : Type 0 where
  pub proved : ReadsValid call protocol name cert
  pub asked : Asks call (wholly name proved.read.bytes ∷ wholly cert proved.bytes ∷ [])
  pub given : length proved.bytes ≡ call.shelf_now.given
