-- What `settle` says. With status 0: these are the least bounds, proved. With status 1: nothing fits, and this is why.
use Rattle.std.specs.Prelude.{◌≡◌, ◌≢◌, ℕ, ◌<◌, ◌↔◌, List, [], ◌∷◌, length, Some}
use Rattle.std.specs.Io.KnownBytes.{Appends}
use Rattle.outside_ports.specs.Counts.{Rose}
use Rattle.outside_ports.specs.Names.{Inputs, bytes_of}
use Rattle.outside_ports.specs.Past.{wholly}
use Rattle.sha2.specs.Sha256.{sha256}
use Rattle.program_form.specs.Certificate.{CertificateDef}
use Rattle.program_sources.specs.Fitting.{AreFitting, AreLeastFitting}
use Rattle.program_sources.specs.Valid.{IsValid}
use Rattle.soundness_laws.specs.Analyses.{AreValues}
use Rattle.settling.specs.Answers.{MayBeWide, MayWantMore}
use Rattle.settling.specs.Ways.{NoneNeedsMore}
use Rattle.sporadic_model.specs.SetDef.{SetDef, task_at}
use Rattle.protocol_names.specs.Names.{word_of}
use Rattle.protocol_names.specs.declared.ProtocolName.{ProtocolName}
use Rattle.named_laws.specs.Named.{SoundUnder, source_of}
use Rattle.cert_json.specs.Text.{certificate_text}
use Rattle.reply_texts.specs.Texts.{wide_text, allowance_text}
use Rattle.command_words.specs.Spelled.{settle_words, allowance_of}
use Rattle.run_plans.specs.Headline.{Call, Asks, HasInputs, RanOut, ReadsSome}
use Rattle.run_plans.specs.Refused.{IsProvedRefutation}

-- The call writes the text of a valid certificate for the set of this digest. Its bounds are the least within all deadlines that satisfy
-- the recurrence. They are sound with the values of its duals: every lawful schedule keeps them.
pub record WritesLeast (call : Call) (protocol : ProtocolName) (digest : List ℕ) (set : SetDef) : Type 0 where
  pub certificate : CertificateDef
  pub done : call.status ≡ 0
  pub text : Appends call.sink_before.written call.sink_now.written (certificate_text (word_of protocol) digest certificate)
  pub least : AreLeastFitting (source_of protocol set) certificate.bounds
  pub valid : IsValid (source_of protocol set) certificate
  pub sound : (values : List ℕ) → AreValues (source_of protocol set) certificate values → SoundUnder protocol set certificate.bounds values

-- What status 0 of words of `settle` says, whatever the shelf tells. The call asked for the set alone. The bytes that the shelf gave are
-- the text of the set. For this set the call writes such a certificate.
pub record IsProvedSettlement (call : Call) (protocol : ProtocolName) (name : List ℕ) : Type 0 where
  pub set : SetDef
  pub read : ReadsSome call protocol name set
  pub asked : Asks call (wholly name read.bytes ∷ [])
  pub given : length read.bytes ≡ call.shelf_now.given
  -- No task of the set has a program that needs more than 63 bits.
  pub enough : NoneNeedsMore (source_of protocol set)
  pub writes : WritesLeast call protocol (sha256 read.bytes) set

-- The call settles the set. Its words are those of `settle`, with an allowance or none. Among the call's inputs, the bytes of the name are
-- the text of the set.
pub record Settles (call : Call) (protocol : ProtocolName) (set : SetDef) : Type 0 where
  pub inputs : Inputs
  pub name : List ℕ
  pub more : List (List ℕ)
  pub allowance : ℕ
  pub words : call.words ≡ settle_words protocol name more
  pub allows : allowance_of more ≡ Some allowance
  pub has : HasInputs call inputs
  pub read : ReadsSome call protocol name set
  pub named_set : bytes_of inputs name ≡ Some read.bytes

-- The call writes such a certificate if some bounds within all deadlines satisfy the recurrence, and only then. Its premises: no count of
-- faults rose in the call, memory didn't run out, and the status isn't 5 or 6.
abbrev pub SettlesExactly : Call → ProtocolName → List ℕ → SetDef → Type 0
SettlesExactly call protocol digest set = (Rose call.shelf_before.faults call.shelf_now.faults → ⊥)
    → (Rose call.sink_before.faults call.sink_now.faults → ⊥) → (RanOut call → ⊥) → call.status ≢ 5 → call.status ≢ 6
    → WritesLeast call protocol digest set ↔ ((s : List ℕ) × AreFitting (source_of protocol set) s)

-- What status 5 says. The call names a task of the set that the shelf gave. Either the analysis is wide, and the walk with exact points ends
-- wide at that task: its run's end is too great there to be written, or its dual at the least bounds, as it is written, loses the whole part
-- of the optimum. So its program needs more than 63 bits. Or no bounds within all deadlines satisfy the recurrence, and the walk with rounded
-- points passes no deadline.
pub record IsLeftWide (call : Call) (protocol : ProtocolName) (name : List ℕ) (more : List (List ℕ)) : Type 0 where
  pub set : SetDef
  pub read : ReadsSome call protocol name set
  pub asked : Asks call (wholly name read.bytes ∷ [])
  pub given : length read.bytes ≡ call.shelf_now.given
  pub allowance : ℕ
  pub allows : allowance_of more ≡ Some allowance
  pub task : ℕ
  pub within : task < length set.tasks
  pub text : Appends call.sink_before.written call.sink_now.written (wide_text (task_at set task).name)
  pub cause : MayBeWide (source_of protocol set) allowance task

-- What status 6 says. The analysis, or a walk that is made behind it, wants more units than the allowance of the words.
pub record IsLeftShort (call : Call) (protocol : ProtocolName) (name : List ℕ) (more : List (List ℕ)) : Type 0 where
  pub set : SetDef
  pub read : ReadsSome call protocol name set
  pub asked : Asks call (wholly name read.bytes ∷ [])
  pub given : length read.bytes ≡ call.shelf_now.given
  pub allowance : ℕ
  pub allows : allowance_of more ≡ Some allowance
  pub text : Appends call.sink_before.written call.sink_now.written allowance_text
  pub cause : MayWantMore (source_of protocol set) allowance

-- What is true of every call whose words are those of `settle`.
pub record IsSettling (call : Call) : Type 0 where
  pub least : (protocol : ProtocolName) (name : List ℕ) (more : List (List ℕ)) → call.words ≡ settle_words protocol name more
      → call.status ≡ 0 → IsProvedSettlement call protocol name
  -- With status 1 the text is a refusal that holds, so nothing fits.
  pub refused : (protocol : ProtocolName) (name : List ℕ) (more : List (List ℕ)) → call.words ≡ settle_words protocol name more
      → call.status ≡ 1 → IsProvedRefutation call protocol name
  pub wide : (protocol : ProtocolName) (name : List ℕ) (more : List (List ℕ)) → call.words ≡ settle_words protocol name more
      → call.status ≡ 5 → IsLeftWide call protocol name more
  pub short : (protocol : ProtocolName) (name : List ℕ) (more : List (List ℕ)) → call.words ≡ settle_words protocol name more
      → call.status ≡ 6 → IsLeftShort call protocol name more
  pub exactly : (protocol : ProtocolName) (set : SetDef) → (settles : Settles call protocol set)
      → SettlesExactly call protocol (sha256 settles.read.bytes) set
