-- The promise on bounds alone. It mentions no program, no dual and no row of a program.
use Rattle.std.specs.Prelude.{◌≡◌, ℕ, ◌<◌, ◌≤◌, List, [], ◌∷◌, length, codes}
use Rattle.std.specs.Io.KnownBytes.{Appends}
use Rattle.serde_json.specs.Data.{Data}
use Rattle.outside_ports.specs.Names.{IsNamed}
use Rattle.outside_ports.specs.Past.{wholly}
use Rattle.sporadic_model.specs.SetDef.{SetDef}
use Rattle.sporadic_model.specs.Bounds.{AreWithinDeadlines}
use Rattle.protocol_names.specs.declared.ProtocolName.{ProtocolName}
use Rattle.schedule_model.specs.RowDef.{Trace}
use Rattle.schedule_model.specs.Phase.{phase_of}
use Rattle.schedule_model.specs.Phase.Phase.{Finished}
use Rattle.soundness_laws.specs.Sound.{IsLawfulSchedule, due_tick}
use Rattle.named_laws.specs.Named.{rules_of}
use Rattle.command_words.specs.Spelled.{analyse_words, settle_words, check_words}
use Rattle.taskset_json.specs.Answers.{IsValue}
use Rattle.taskset_json.specs.Members.{list_at}
use Rattle.cert_json.specs.Written.{numbers_written}
use Rattle.run_plans.specs.Headline.{Call, Asks, ReadsSome}

-- Take any schedule of lawful jobs of the set that keeps the protocol's rules. Is each job finished by its release plus its task's bound,
-- if that lies within the rows?
abbrev pub AreKept : ProtocolName → SetDef → List ℕ → Type 0
AreKept protocol set bounds = (w : Trace) (n j : ℕ) → IsLawfulSchedule (rules_of protocol) set w n → j < length w.jobs
    → due_tick w bounds j ≤ n → phase_of w (due_tick w bounds j) j ≡ Finished

-- The text lists bounds for a set that the call read under this name. They are the numbers of its member `bounds`. They are within all
-- deadlines, and every lawful schedule keeps them.
pub record ListsBounds (call : Call) (protocol : ProtocolName) (name : List ℕ) (text : List ℕ) : Type 0 where
  pub set : SetDef
  pub read : ReadsSome call protocol name set
  pub value : Data
  pub is_value : IsValue text value
  pub within : AreWithinDeadlines set (numbers_written (list_at (codes "bounds") value))
  pub kept : AreKept protocol set (numbers_written (list_at (codes "bounds") value))

-- The call writes a text that lists such bounds for the set whose bytes the shelf gave, and it gave no others.
abbrev pub WritesBounds : Call → ProtocolName → List ℕ → Type 0
WritesBounds call protocol name = (text : List ℕ) × Appends call.sink_before.written call.sink_now.written text
    × ((lists : ListsBounds call protocol name text) × Asks call (wholly name lists.read.bytes ∷ []))

-- With status 0, `analyse` and `settle` write such a text. The certificate that `check` read with status 0 lists such bounds too. The shelf
-- gave its bytes after those of the set.
pub record IsBounding (call : Call) : Type 0 where
  pub analysed : (protocol : ProtocolName) (name : List ℕ) (more : List (List ℕ)) → call.words ≡ analyse_words protocol name more
      → call.status ≡ 0 → WritesBounds call protocol name
  pub settled : (protocol : ProtocolName) (name : List ℕ) (more : List (List ℕ)) → call.words ≡ settle_words protocol name more
      → call.status ≡ 0 → WritesBounds call protocol name
  pub checked : (protocol : ProtocolName) (name cert : List ℕ) → call.words ≡ check_words protocol name cert
      → call.status ≡ 0 → (text : List ℕ) × IsNamed call.shelf_before.names cert text
      × ((lists : ListsBounds call protocol name text) × Asks call (wholly name lists.read.bytes ∷ wholly cert text ∷ []))
