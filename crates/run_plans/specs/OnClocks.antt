-- The promise on bounds alone, on the machine's clock. A row is a cycle there, and a tick has any number of cycles.
use Rattle.std.specs.Prelude.{◌≡◌, ℕ, ◌<◌, ◌≤◌, false, List, [], ◌∷◌, length, codes}
use Rattle.std.specs.Io.KnownBytes.{Appends}
use Rattle.serde_json.specs.Data.{Data}
use Rattle.outside_ports.specs.Names.{IsNamed}
use Rattle.outside_ports.specs.Past.{wholly}
use Rattle.sporadic_model.specs.SetDef.{SetDef}
use Rattle.protocol_names.specs.declared.ProtocolName.{ProtocolName}
use Rattle.schedule_model.specs.RowDef.{Trace}
use Rattle.schedule_model.specs.Phase.{phase_of}
use Rattle.schedule_model.specs.Phase.Phase.{Finished}
use Rattle.soundness_laws.specs.Sound.{due_tick}
use Rattle.clock_laws.specs.Cycles.{times_each}
use Rattle.clock_laws.specs.Clock.{IsLawfulInCycles}
use Rattle.named_laws.specs.Named.{rules_of}
use Rattle.command_words.specs.Spelled.{analyse_words, settle_words, check_words}
use Rattle.taskset_json.specs.Answers.{IsValue}
use Rattle.taskset_json.specs.Members.{list_at}
use Rattle.cert_json.specs.Written.{numbers_written}
use Rattle.run_plans.specs.Headline.{Call, Asks, ReadsSome}

-- However many cycles a tick has, take any schedule whose rows are cycles, of lawful jobs of the set in cycles. It keeps the protocol's
-- rules, and each job leaves all but one cycle of a tick of its cost. Is each job finished by its release plus its task's bound in cycles,
-- if that lies within the rows?
abbrev pub AreKeptOnClocks : ProtocolName → SetDef → List ℕ → Type 0
AreKeptOnClocks protocol set bounds = (k : ℕ) (w : Trace) (n j : ℕ) → 1 ≤ k → IsLawfulInCycles (rules_of protocol) (λ i. false) k set w n
    → j < length w.jobs → due_tick w (times_each k bounds) j ≤ n → phase_of w (due_tick w (times_each k bounds) j) j ≡ Finished

-- The text lists bounds for a set that the call read under this name, and every such schedule keeps them.
pub record ListsOnClocks (call : Call) (protocol : ProtocolName) (name : List ℕ) (text : List ℕ) : Type 0 where
  pub set : SetDef
  pub read : ReadsSome call protocol name set
  pub value : Data
  pub is_value : IsValue text value
  pub kept : AreKeptOnClocks protocol set (numbers_written (list_at (codes "bounds") value))

-- The call writes a text that lists such bounds for the set whose bytes the shelf gave, and it gave no others.
abbrev pub WritesOnClocks : Call → ProtocolName → List ℕ → Type 0
WritesOnClocks call protocol name = (text : List ℕ) × Appends call.sink_before.written call.sink_now.written text
    × ((lists : ListsOnClocks call protocol name text) × Asks call (wholly name lists.read.bytes ∷ []))

-- With status 0, `analyse` and `settle` write such a text. The certificate that `check` read with status 0 lists such bounds too. The shelf
-- gave its bytes after those of the set.
pub record IsOnClocks (call : Call) : Type 0 where
  pub analysed : (protocol : ProtocolName) (name : List ℕ) (more : List (List ℕ)) → call.words ≡ analyse_words protocol name more
      → call.status ≡ 0 → WritesOnClocks call protocol name
  pub settled : (protocol : ProtocolName) (name : List ℕ) (more : List (List ℕ)) → call.words ≡ settle_words protocol name more
      → call.status ≡ 0 → WritesOnClocks call protocol name
  pub checked : (protocol : ProtocolName) (name cert : List ℕ) → call.words ≡ check_words protocol name cert
      → call.status ≡ 0 → (text : List ℕ) × IsNamed call.shelf_before.names cert text
      × ((lists : ListsOnClocks call protocol name text) × Asks call (wholly name lists.read.bytes ∷ wholly cert text ∷ []))
