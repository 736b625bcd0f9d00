-- What the statuses 0, 1, 5 and 6 of `settle` say, whatever is known of the inputs.
use Rattle.std.proofs.Common.{◌≡◌, ◌≢◌, ℕ, ◌<◌, ◌↔◌, List, length, refl, ◌∙◌, ap, subst, arith, inl, inr}
use Rattle.std.specs.Prelude.{Some, None}
use Rattle.std.specs.Option.{option_map}
use Rattle.std.specs.declared.option.Option.{Option}
use Rattle.std.specs.Io.KnownBytes.{Appends}
use Rattle.sha2.specs.Sha256.{sha256}
use Rattle.program_form.specs.Certificate.{CertificateDef}
use Rattle.program_sources.specs.Fitting.{AreFitting}
use Rattle.refusal_laws.specs.Steps.{StepDef}
use Rattle.refusal_json.specs.Text.{refusal_text}
use Rattle.cert_json.specs.Text.{certificate_text}
use Rattle.sporadic_model.specs.SetDef.{SetDef, task_at}
use Rattle.sporadic_model.specs.Accepted.{IsAccepted}
use Rattle.protocol_names.specs.Names.{word_of}
use Rattle.protocol_names.specs.declared.ProtocolName.{ProtocolName}
use Rattle.named_laws.specs.Named.{source_of}
use Rattle.named_laws.proofs.EachName.{named_sound}
use Rattle.named_laws.proofs.Refusals.{named_none_fits}
use Rattle.reply_texts.specs.Texts.{wide_text, allowance_text}
use Rattle.settling.specs.Rising.{IsProvedLeast}
use Rattle.settling.specs.Answers.{MayBeWide, MayWantMore}
use Rattle.settling.specs.Ways.{NoneNeedsMore}
use Rattle.command_words.specs.Words.{Settle, form_of}
use Rattle.command_words.specs.Spelled.{settle_words, allowance_of}
use Rattle.command_words.proofs.SpelledLaws.{settle_is_form, form_of_settle}
use Rattle.command_inputs.specs.Known.{Answer, Known, shown_by}
use Rattle.command_inputs.specs.Inputs.{set_input}
use Rattle.run_plans.specs.Plans.{Working, IsOutcomeOf}
use Rattle.run_plans.specs.Commands.{plan_of}
use Rattle.run_plans.specs.Outcome.{IsOutcome}
use Rattle.run_plans.specs.Settling.{IsRefusedBy, IsSettlement, settlement_of}
use Rattle.run_plans.specs.Headline.{Call}
use Rattle.run_plans.specs.Refused.{IsProvedRefutation}
use Rattle.run_plans.specs.Settled.{WritesLeast, IsProvedSettlement, IsLeftWide, IsLeftShort, Settles}
use Rattle.run_plans.specs.Run.{shelf_of, Gives}
use Rattle.run_plans.proofs.PlanLaws.{stopped_status, rest_of}
use Rattle.run_plans.proofs.InputLaws.{set_reads_once}
use Rattle.run_plans.proofs.CommandLaws.{of_form}
use Rattle.run_plans.proofs.SoundLaws.{accepted_of}
use Rattle.run_plans.proofs.SetTextLaws.{told_reads}
use Rattle.run_plans.specs.Bounding.{WritesBounds}
use Rattle.run_plans.proofs.ShownLaws.{OneSet, some_read}
use Rattle.run_plans.proofs.BoundLaws.{bounds_written}

-- A settlement with status 0 is the text of a certificate with proved bounds.
pub record SettledSo (p : ProtocolName) (digest : List ℕ) (set : SetDef) (a : Answer) : Type 0 where
  pub certificate : CertificateDef
  pub proved : IsProvedLeast (source_of p set) certificate
  pub enough : NoneNeedsMore (source_of p set)
  pub text : a.text ≡ certificate_text (word_of p) digest certificate

settled_at_zero : (p : ProtocolName) (digest : List ℕ) (set : SetDef) (n : ℕ) (a : Answer) → IsSettlement p digest set n a → a.status ≡ 0
    → SettledSo p digest set a
settled_at_zero p digest set n a (inl (c, settled, is)) zero =
    record { certificate = c; proved = settled.proved; enough = settled.enough; text = ap (λ x. x.text) is }
settled_at_zero p digest set n a (inr (inl (steps, refused, is))) zero =
    (let s : a.status ≡ 1 = ap (λ x. x.status) is in absurd (omega (arith, s, zero)))
settled_at_zero p digest set n a (inr (inr (inl (i, here, left, is)))) zero =
    (let s : a.status ≡ 5 = ap (λ x. x.status) is in absurd (omega (arith, s, zero)))
settled_at_zero p digest set n a (inr (inr (inr (short, is)))) zero =
    (let s : a.status ≡ 6 = ap (λ x. x.status) is in absurd (omega (arith, s, zero)))

-- With status 1 it is the text of a refusal that holds.
pub record RefusedWith (p : ProtocolName) (digest : List ℕ) (set : SetDef) (n : ℕ) (a : Answer) : Type 0 where
  pub steps : List StepDef
  pub so : IsRefusedBy (source_of p set) n steps
  pub text : a.text ≡ refusal_text (word_of p) digest steps

refused_at_one : (p : ProtocolName) (digest : List ℕ) (set : SetDef) (n : ℕ) (a : Answer) → IsSettlement p digest set n a → a.status ≡ 1
    → RefusedWith p digest set n a
refused_at_one p digest set n a (inl (c, settled, is)) one =
    (let s : a.status ≡ 0 = ap (λ x. x.status) is in absurd (omega (arith, s, one)))
refused_at_one p digest set n a (inr (inl (steps, refused, is))) one =
    record { steps = steps; so = refused; text = ap (λ x. x.text) is }
refused_at_one p digest set n a (inr (inr (inl (i, here, left, is)))) one =
    (let s : a.status ≡ 5 = ap (λ x. x.status) is in absurd (omega (arith, s, one)))
refused_at_one p digest set n a (inr (inr (inr (short, is)))) one =
    (let s : a.status ≡ 6 = ap (λ x. x.status) is in absurd (omega (arith, s, one)))

-- With status 5 it names a task, with the cause.
pub record WideWith (p : ProtocolName) (set : SetDef) (n : ℕ) (a : Answer) : Type 0 where
  pub task : ℕ
  pub within : task < length set.tasks
  pub text : a.text ≡ wide_text (task_at set task).name
  pub cause : MayBeWide (source_of p set) n task

wide_at_five : (p : ProtocolName) (digest : List ℕ) (set : SetDef) (n : ℕ) (a : Answer) → IsSettlement p digest set n a → a.status ≡ 5
    → WideWith p set n a
wide_at_five p digest set n a (inl (c, settled, is)) five =
    (let s : a.status ≡ 0 = ap (λ x. x.status) is in absurd (omega (arith, s, five)))
wide_at_five p digest set n a (inr (inl (steps, refused, is))) five =
    (let s : a.status ≡ 1 = ap (λ x. x.status) is in absurd (omega (arith, s, five)))
wide_at_five p digest set n a (inr (inr (inl (i, here, left, is)))) five =
    record { task = i; within = here; text = ap (λ x. x.text) is; cause = left }
wide_at_five p digest set n a (inr (inr (inr (short, is)))) five =
    (let s : a.status ≡ 6 = ap (λ x. x.status) is in absurd (omega (arith, s, five)))

-- With status 6 units may be too few.
pub record ShortWith (p : ProtocolName) (set : SetDef) (n : ℕ) (a : Answer) : Type 0 where
  pub cause : MayWantMore (source_of p set) n
  pub text : a.text ≡ allowance_text

short_at_six : (p : ProtocolName) (digest : List ℕ) (set : SetDef) (n : ℕ) (a : Answer) → IsSettlement p digest set n a → a.status ≡ 6
    → ShortWith p set n a
short_at_six p digest set n a (inl (c, settled, is)) six =
    (let s : a.status ≡ 0 = ap (λ x. x.status) is in absurd (omega (arith, s, six)))
short_at_six p digest set n a (inr (inl (steps, refused, is))) six =
    (let s : a.status ≡ 1 = ap (λ x. x.status) is in absurd (omega (arith, s, six)))
short_at_six p digest set n a (inr (inr (inl (i, here, left, is)))) six =
    (let s : a.status ≡ 5 = ap (λ x. x.status) is in absurd (omega (arith, s, six)))
short_at_six p digest set n a (inr (inr (inr (short, is)))) six = record { cause = short; text = ap (λ x. x.text) is }

-- The outcomes of `settle` with status 0, and with status 1.
abbrev pub WroteSettled : Known → ProtocolName → List ℕ → Answer → Type 0
WroteSettled known p name a = OneSet known p name (λ bytes set. SettledSo p (sha256 bytes) set a)

abbrev pub WroteRefused : Known → ProtocolName → List ℕ → ℕ → Answer → Type 0
WroteRefused known p name n a = OneSet known p name (λ bytes set. RefusedWith p (sha256 bytes) set n a)

-- What is true of an outcome with such a status follows from what it settles.
wrote : (known : Known) (p : ProtocolName) (name : List ℕ) (n : ℕ) (a : Answer) (IsSo : List ℕ → SetDef → Type 0)
    → IsOutcomeOf known (plan_of (Settle p name n)) a → a.status ≢ 3
    → ((bytes : List ℕ) (set : SetDef) → IsSettlement p (sha256 bytes) set n a → IsSo bytes set) → OneSet known p name IsSo
wrote known p name n a IsSo (inl stopped) other follows = absurd (other (stopped_status known (set_input p) name a stopped))
wrote known p name n a IsSo (inr (bytes, set, read, last, (is, asked))) other follows =
    record { bytes = bytes; set = set; read = read; last = last tt; asked = asked; so = follows bytes set is }

pub wrote_settled : (known : Known) (p : ProtocolName) (name : List ℕ) (n : ℕ) (a : Answer) → IsOutcomeOf known (plan_of (Settle p name n)) a
    → a.status ≡ 0 → WroteSettled known p name a
wrote_settled known p name n a out zero =
    wrote known p name n a (λ bytes set. SettledSo p (sha256 bytes) set a) out (λ three. absurd (omega (arith, zero, three)))
    (λ bytes set is. settled_at_zero p (sha256 bytes) set n a is zero)

pub wrote_refused : (known : Known) (p : ProtocolName) (name : List ℕ) (n : ℕ) (a : Answer) → IsOutcomeOf known (plan_of (Settle p name n)) a
    → a.status ≡ 1 → WroteRefused known p name n a
wrote_refused known p name n a out one =
    wrote known p name n a (λ bytes set. RefusedWith p (sha256 bytes) set n a) out (λ three. absurd (omega (arith, one, three)))
    (λ bytes set is. refused_at_one p (sha256 bytes) set n a is one)

-- What status 5 says, and status 6.
pub left_wide : (call : Call) (p : ProtocolName) (name : List ℕ) (more : List (List ℕ)) (n : ℕ) (a : Answer) → allowance_of more ≡ Some n
    → IsOutcomeOf (shown_by (shelf_of call)) (plan_of (Settle p name n)) a → Gives call a → call.status ≡ 5
    → IsLeftWide call p name more
left_wide call p name more n a allows out gives five =
    let at : a.status ≡ 5 = omega (arith, gives.0, five) in
    let w = wrote (shown_by (shelf_of call)) p name n a (λ bytes set. WideWith p set n a) out (λ three. absurd (omega (arith, at, three)))
    (λ bytes set is. wide_at_five p (sha256 bytes) set n a is at) in
    record {
      set = w.set;
      read = some_read call p name w.bytes w.set w.read;
      asked = w.asked;
      given = w.last;
      allowance = n;
      allows = allows;
      task = w.so.task;
      within = w.so.within;
      text = subst (λ (t : List ℕ). Appends call.sink_before.written call.sink_now.written t) w.so.text gives.1;
      cause = w.so.cause;
    }

pub left_short : (call : Call) (p : ProtocolName) (name : List ℕ) (more : List (List ℕ)) (n : ℕ) (a : Answer) → allowance_of more ≡ Some n
    → IsOutcomeOf (shown_by (shelf_of call)) (plan_of (Settle p name n)) a → Gives call a → call.status ≡ 6
    → IsLeftShort call p name more
left_short call p name more n a allows out gives six =
    let at : a.status ≡ 6 = omega (arith, gives.0, six) in
    let w = wrote (shown_by (shelf_of call)) p name n a (λ bytes set. ShortWith p set n a) out (λ three. absurd (omega (arith, at, three)))
    (λ bytes set is. short_at_six p (sha256 bytes) set n a is at) in
    record {
      set = w.set;
      read = some_read call p name w.bytes w.set w.read;
      asked = w.asked;
      given = w.last;
      allowance = n;
      allows = allows;
      text = subst (λ (t : List ℕ). Appends call.sink_before.written call.sink_now.written t) w.so.text gives.1;
      cause = w.so.cause;
    }

-- Words of `settle` that have a form have an allowance.
pub settle_allows : (words : List (List ℕ)) (p : ProtocolName) (set : List ℕ) (more : List (List ℕ)) → words ≡ settle_words p set more
    → (form_of words ≡ None → ⊥) → (n : ℕ) × (allowance_of more ≡ Some n)
settle_allows words p set more is some = allowed (allowance_of more) refl
  where
    allowed : (o : Option ℕ) → allowance_of more ≡ o → (n : ℕ) × (allowance_of more ≡ Some n)
    allowed (Some n) same = (n, same)
    allowed None same =
        absurd (some (ap form_of is ∙ (form_of_settle p set more ∙ ap (option_map (λ n. Settle p set n)) same)))

-- ---- what a call says

least_written : (call : Call) (p : ProtocolName) (digest : List ℕ) (set : SetDef) (a : Answer) → IsAccepted set → SettledSo p digest set a
    → Gives call a → call.status ≡ 0 → WritesLeast call p digest set
least_written call p digest set a accepted s gives zero = record {
  certificate = s.certificate;
  done = zero;
  text = subst (λ (t : List ℕ). Appends call.sink_before.written call.sink_now.written t) s.text gives.1;
  least = s.proved.least;
  valid = s.proved.valid;
  sound = λ values are. named_sound p set s.certificate values accepted s.proved.valid are;
}

pub proved_settlement : (call : Call) (p : ProtocolName) (name : List ℕ) (n : ℕ) (a : Answer)
    → IsOutcomeOf (shown_by (shelf_of call)) (plan_of (Settle p name n)) a → Gives call a → call.status ≡ 0 → IsProvedSettlement call p name
proved_settlement call p name n a out gives zero =
    let w = wrote_settled (shown_by (shelf_of call)) p name n a out (omega (arith, gives.0, zero)) in
    record {
      set = w.set;
      read = some_read call p name w.bytes w.set w.read;
      asked = w.asked;
      given = w.last;
      enough = w.so.enough;
      writes = least_written call p (sha256 w.bytes) w.set a (accepted_of p w.bytes w.set w.read.1) w.so gives zero;
    }

-- And the bounds that it lists.
pub bounded_settlement : (call : Call) (p : ProtocolName) (name : List ℕ) (n : ℕ) (a : Answer)
    → IsOutcomeOf (shown_by (shelf_of call)) (plan_of (Settle p name n)) a → Gives call a → call.status ≡ 0 → WritesBounds call p name
bounded_settlement call p name n a out gives zero =
    let w = wrote_settled (shown_by (shelf_of call)) p name n a out (omega (arith, gives.0, zero)) in
    bounds_written call p name w.bytes w.set w.so.certificate a (some_read call p name w.bytes w.set w.read) w.asked
    w.so.proved.valid w.so.proved.small w.so.text gives

pub proved_settled_refusal : (call : Call) (p : ProtocolName) (name : List ℕ) (n : ℕ) (a : Answer)
    → IsOutcomeOf (shown_by (shelf_of call)) (plan_of (Settle p name n)) a → Gives call a → call.status ≡ 1 → IsProvedRefutation call p name
proved_settled_refusal call p name n a out gives one =
    let w = wrote_refused (shown_by (shelf_of call)) p name n a out (omega (arith, gives.0, one)) in
    record {
      set = w.set;
      read = some_read call p name w.bytes w.set w.read;
      asked = w.asked;
      given = w.last;
      steps = w.so.steps;
      text = subst (λ (t : List ℕ). Appends call.sink_before.written call.sink_now.written t) w.so.text gives.1;
      holds = w.so.so.holds;
      none = λ s fits. named_none_fits p w.set w.so.steps s w.so.so.holds fits;
    }

-- ---- status 0 comes if some bounds fit, and only then

-- The answer of a call that settles a set, if the call gives its outcome.
settles_so : (call : Call) (p : ProtocolName) (set : SetDef) (settles : Settles call p set) (a : Answer)
    → IsOutcome settles.inputs call.words a → IsSettlement p (sha256 settles.read.bytes) set settles.allowance a
settles_so call p set settles a out =
    let form = settle_is_form call.words p settles.name settles.more settles.allowance settles.words settles.allows in
    let plan = of_form settles.inputs call.words (Settle p settles.name settles.allowance) a form out in
    let read = settles.read in
    (rest_of settles.inputs (set_input p) settles.name
    (λ bytes x. Working (settlement_of p (sha256 bytes) x settles.allowance)) read.bytes set a (set_reads_once p)
    (told_reads call settles.inputs p settles.name set read settles.named_set) plan).0

settled_exactly : (call : Call) (p : ProtocolName) (digest : List ℕ) (set : SetDef) (n : ℕ) (a : Answer) → IsAccepted set
    → IsSettlement p digest set n a → Gives call a → call.status ≢ 5 → call.status ≢ 6
    → WritesLeast call p digest set ↔ ((s : List ℕ) × AreFitting (source_of p set) s)
settled_exactly call p digest set n a accepted (inl (c, settled, is)) gives no_wide no_allowance = (
  λ w. (w.certificate.bounds, w.least.fitting),
  λ fits. least_written call p digest set a accepted
      (record { certificate = c; proved = settled.proved; enough = settled.enough; text = ap (λ x. x.text) is }) gives (gives.0 ∙ ap (λ x. x.status) is),
)
settled_exactly call p digest set n a accepted (inr (inl (steps, refused, is))) gives no_wide no_allowance = (
  λ w. (w.certificate.bounds, w.least.fitting),
  λ fits. absurd (named_none_fits p set steps fits.0 refused.holds fits.1),
)
settled_exactly call p digest set n a accepted (inr (inr (inl (i, here, left, is)))) gives no_wide no_allowance =
    absurd (no_wide (gives.0 ∙ ap (λ x. x.status) is))
settled_exactly call p digest set n a accepted (inr (inr (inr (short, is)))) gives no_wide no_allowance =
    absurd (no_allowance (gives.0 ∙ ap (λ x. x.status) is))

pub outcome_exactly : (call : Call) (p : ProtocolName) (set : SetDef) (settles : Settles call p set) (a : Answer)
    → IsOutcome settles.inputs call.words a → Gives call a → call.status ≢ 5 → call.status ≢ 6
    → WritesLeast call p (sha256 settles.read.bytes) set ↔ ((s : List ℕ) × AreFitting (source_of p set) s)
outcome_exactly call p set settles a out gives no_wide no_allowance =
    settled_exactly call p (sha256 settles.read.bytes) set settles.allowance a settles.read.text.accepted
    (settles_so call p set settles a out) gives no_wide no_allowance
