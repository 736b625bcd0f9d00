-- What one call of the program does.
use Rattle.std.specs.Prelude.{◌≡◌, ◌≢◌, ℕ, ◌+◌, ◌<◌, ◌≤◌, ◌⊎◌, List, [], length, codes, None, Some, IsSome, MatchOption}
use Rattle.std.specs.Io.KnownBytes.{Appends}
use Rattle.outside_ports.specs.Counts.{Rose}
use Rattle.outside_ports.specs.Names.{Inputs}
use Rattle.outside_ports.specs.Past.{Asked}
use Rattle.outside_ports.specs.Prefix.{AppendsPart}
use Rattle.outside_ports.specs.declared.whole.TheConstants.{GREATEST_INPUT_BYTES}
use Rattle.program_form.specs.Certificate.{CertificateDef}
use Rattle.sporadic_model.specs.SetDef.{SetDef}
use Rattle.protocol_names.specs.declared.ProtocolName.{ProtocolName}
use Rattle.sha2.specs.Sha256.{sha256}
use Rattle.response_fixpoint.specs.Rounds.{Ending, Wide, Allowance, EndsIn}
use Rattle.response_fixpoint.specs.Runs.{rounds_of, RequestsNothing}
use Rattle.refusal_cert.specs.Refuting.{refuting}
use Rattle.named_laws.specs.Named.{source_of}
use Rattle.command_inputs.specs.Known.{Answer, Known, refused, IsRead, Shown, shown, shown_by, told}
use Rattle.run_plans.specs.Plans.{IsWorking, EndsWell, AsksAll, AsksPart}
use Rattle.command_words.specs.Words.{Form, Analyse, Refute, Settle, form_of}
use Rattle.command_words.specs.Spelled.{analyse_words, refute_words, check_words, confirm_words, upgrade_words, audit_words}
use Rattle.command_inputs.specs.Inputs.{set_input}
use Rattle.run_plans.specs.Commands.{plan_of}
use Rattle.run_plans.specs.Outcome.{refused_words, IsOutcome, HasOneOutcome, IsReply}
use Rattle.run_plans.specs.Settling.{SettlingEnds}
use Rattle.run_plans.specs.Settled.{IsSettling}
use Rattle.run_plans.specs.Upgraded.{IsProvedUpgrade}
use Rattle.run_plans.specs.Headline.{Call, Asks, HasInputs, RanOut, Analyses, IsHeadline, Checks, IsSoundCheck, IsProvedAnalysis, IsProvedCheck}
use Rattle.run_plans.specs.Bounding.{IsBounding}
use Rattle.run_plans.specs.OnClocks.{IsOnClocks}
use Rattle.run_plans.specs.Auditing.{IsProvedAudit}
use Rattle.run_plans.specs.Refused.{IsProvedRefutation, IsProvedConfirmation}

-- What the shelf shows of the call.
abbrev pub shelf_of : Call → Shown
shelf_of call = shown call.shelf_before call.shelf_now

-- Has the whole text gone out, with this status?
abbrev pub Gives : Call → Answer → Type 0
Gives call answer = (call.status ≡ answer.status) × Appends call.sink_before.written call.sink_now.written answer.text

-- The text wasn't written whole, and the sink's count of faults rose. A proper prefix of the text went out.
pub record FailsToWrite (call : Call) (answer : Answer) : Type 0 where
  pub rose : Rose call.sink_before.faults call.sink_now.faults
  pub part : AppendsPart call.sink_before.written call.sink_now.written answer.text
  pub status : call.status ≡ 4

-- The answer to words without a form wasn't written whole.
abbrev pub FailsToRefuse : Call → Type 0
FailsToRefuse call = FailsToWrite call refused_words

-- The call replies with an outcome, or says that an input couldn't be read. In the second case the shelf's count of faults rose, and every
-- input before that one is there and accepted. The whole text goes out with its status, or a write fails. No write fails if the sink
-- promised to take so many bytes.
pub record Replies (call : Call) : Type 0 where
  pub reply : Answer
  pub is : IsReply (shelf_of call) call.words reply
  pub out : Gives call reply ⊎ FailsToWrite call reply
  pub room : length reply.text ≤ call.sink_before.room → Gives call reply
      × (call.sink_before.room ≤ call.sink_now.room + length reply.text) × (call.sink_now.faults ≡ call.sink_before.faults)
  -- If more bytes were given than an input may have, the reply says that an input is too long.
  pub longer : (form : Form) → form_of call.words ≡ Some form → (IsWorking (plan_of form) → ⊥)
      → GREATEST_INPUT_BYTES < call.shelf_now.given → (word : List ℕ) × (reply ≡ refused word (codes "toolong"))

-- The outcome's whole text went out with its status.
pub record GivesOutcome (call : Call) (inputs : Inputs) : Type 0 where
  pub outcome : Answer
  pub is : IsOutcome inputs call.words outcome
  pub gives : Gives call outcome

-- A call asks for the inputs that its words name, in their order, each given whole and accepted. With status 3 or 4 it may stop at one of
-- them, which is then the last. If the words have no form, it asks for none.
abbrev pub AsksInOrder : Call → Type 0
AsksInOrder call = (readings : List Asked) × Asks call readings
    × MatchOption (form_of call.words) (readings ≡ []) (λ form. AsksAll (plan_of form) readings
    ⊎ (AsksPart (plan_of form) readings × ((call.status ≡ 3) ⊎ (call.status ≡ 4))))

-- The premises of completeness. The words have a form. Each of the call's inputs that they name is there and accepted. The work on them
-- ends with status 0 or 1. The sink tells its bytes, and neither count of faults rises.
pub record IsCompletePremise (call : Call) (inputs : Inputs) (form : Form) : Type 0 where
  pub form_is : form_of call.words ≡ Some form
  pub has : HasInputs call inputs
  pub ends : EndsWell (told inputs) (plan_of form)
  pub tells : IsSome call.sink_before.written
  pub shelf : Rose call.shelf_before.faults call.shelf_now.faults → ⊥
  pub sink : Rose call.sink_before.faults call.sink_now.faults → ⊥

-- Then the outcome goes out whole with status 0 or 1, or memory ran out.
abbrev pub IsComplete : Call → Type 0
IsComplete call = (inputs : Inputs) (form : Form) → IsCompletePremise call inputs form
    → (((call.status ≡ 0) ⊎ (call.status ≡ 1)) × GivesOutcome call inputs) ⊎ RanOut call

-- The words are those of `analyse`, `refute` or `settle`. The named input may be a set whose rounds end in this way. They are those of an
-- analysis, or those of refusals.
pub record RoundsEnd (known : Known) (form : Form) (IsEnding : Ending → Type 0) : Type 0 where
  pub protocol : ProtocolName
  pub name : List ℕ
  pub allowance : ℕ
  pub bytes : List ℕ
  pub set : SetDef
  pub read : IsRead known (set_input protocol) name bytes set
  pub ending : Ending
  pub ends : ((form ≡ Analyse protocol name allowance) × EndsIn (rounds_of (source_of protocol set)) allowance ending)
      ⊎ (((form ≡ Refute protocol name allowance) × EndsIn (refuting (source_of protocol set)) allowance ending)
      ⊎ ((form ≡ Settle protocol name allowance) × SettlingEnds (source_of protocol set) allowance ending))
  pub is : IsEnding ending

abbrev pub IsWideEnding : Ending → Type 0
IsWideEnding e = (i : ℕ) × (e ≡ Wide i)

abbrev pub IsAllowanceEnding : Ending → Type 0
IsAllowanceEnding e = e ≡ Allowance

-- Did units run out: in the rounds, or in the search of `settle`, which is made if these are wide?
abbrev pub IsShortEnding : Form → Ending → Type 0
IsShortEnding form e = (IsAllowanceEnding e)
    ⊎ (((protocol : ProtocolName) × (name : List ℕ) × (allowance : ℕ) × (form ≡ Settle protocol name allowance)) × IsWideEnding e)

-- What is true of every call.
pub record IsRun (call : Call) : Type 0 where
  -- The call replies. Or memory ran out, and nothing is written.
  pub answers : Replies call ⊎ RanOut call
  -- Status 2 comes only if the words have no form. Without a form it comes, unless a write fails or memory ran out.
  pub refused_words : call.status ≡ 2 → form_of call.words ≡ None
  pub no_form : form_of call.words ≡ None → (call.status ≡ 2) ⊎ (FailsToRefuse call ⊎ RanOut call)
  -- Status 4 comes only if a count of faults rose, and status 7 only if memory ran out.
  pub faults : call.status ≡ 4 → Rose call.shelf_before.faults call.shelf_now.faults ⊎ Rose call.sink_before.faults call.sink_now.faults
  pub want : call.status ≡ 7 → RanOut call
  -- No input is read except those that the words name. Or memory ran out.
  pub asked : AsksInOrder call ⊎ RanOut call
  -- Let the words have at most one outcome for the call's inputs. Then this outcome comes, unless a fault comes or memory ran out. If
  -- `settle` may have several, one of them comes (`answers`).
  pub exactly : (inputs : Inputs) (answer : Answer) → HasInputs call inputs → HasOneOutcome inputs call.words
      → IsOutcome inputs call.words answer → Gives call answer ⊎ ((call.status ≡ 4) ⊎ RanOut call)
  -- Status 5 comes only for words of `analyse`, `refute` or `settle` whose rounds end wide: in a run that is too wide, or, in the rounds of
  -- refusals, at a point that can't be written in 63 bits. So `analyse` isn't wide for a set that requests nothing. Status 6 comes only if
  -- the rounds end with the allowance, or the search of `settle` does.
  pub wide : call.status ≡ 5 → (form : Form) × (form_of call.words ≡ Some form) × RoundsEnd (shown_by (shelf_of call)) form IsWideEnding
  pub never_wide : (protocol : ProtocolName) (set : SetDef) → Analyses call protocol set → RequestsNothing set → call.status ≢ 5
  pub allowance : call.status ≡ 6 → (form : Form) × (form_of call.words ≡ Some form)
      × RoundsEnd (shown_by (shelf_of call)) form (IsShortEnding form)
  pub complete : IsComplete call
  pub headline : (protocol : ProtocolName) (set : SetDef) → (a : Analyses call protocol set) → IsHeadline call protocol (sha256 a.read.bytes) set
  -- What `check` accepts is sound.
  pub sound : (protocol : ProtocolName) (set : SetDef) (c : CertificateDef) → Checks call protocol set c → IsSoundCheck call protocol set c
  -- With status 0 both commands say what is proved of the set whose text the shelf gave. And `bounding` says the least that matters of them
  -- and of `settle`, of the bounds alone.
  pub analysed : (protocol : ProtocolName) (name : List ℕ) (more : List (List ℕ)) → call.words ≡ analyse_words protocol name more
      → call.status ≡ 0 → IsProvedAnalysis call protocol name
  pub checked : (protocol : ProtocolName) (name cert : List ℕ) → call.words ≡ check_words protocol name cert
      → call.status ≡ 0 → IsProvedCheck call protocol name cert
  pub bounding : IsBounding call
  -- The same for these bounds if rows are cycles. A tick has any number of cycles.
  pub on_clocks : IsOnClocks call
  -- What `audit` writes with status 0 are figures of a lawful schedule, within what a valid certificate proves.
  pub audited : (protocol : ProtocolName) (name cert jobs rows : List ℕ) → call.words ≡ audit_words protocol name cert jobs rows
      → call.status ≡ 0 → IsProvedAudit call protocol name cert jobs rows
  -- With status 0, `refute` writes a refusal that holds, and `confirm` read one. So nothing fits.
  pub refuted : (protocol : ProtocolName) (name : List ℕ) (more : List (List ℕ)) → call.words ≡ refute_words protocol name more
      → call.status ≡ 0 → IsProvedRefutation call protocol name
  pub confirmed : (protocol : ProtocolName) (name cert : List ℕ) → call.words ≡ confirm_words protocol name cert
      → call.status ≡ 0 → IsProvedConfirmation call protocol name cert
  -- What `settle` writes with status 0 is a valid certificate of the least bounds, and with status 1 a refusal that holds.
  pub settled : IsSettling call
  -- What `upgrade` writes with status 0 is a valid certificate, with the digest of the set's bytes.
  pub upgraded : (protocol : ProtocolName) (name cert : List ℕ) → call.words ≡ upgrade_words protocol name cert
      → call.status ≡ 0 → IsProvedUpgrade call protocol name cert
