-- What `analyse`, `settle` and `upgrade` write is found valid. For a set with another digest, what `analyse` writes is found to be of
-- another set.
use Rattle.std.proofs.Common.{◌≡◌, ℕ, ◌≤◌, List, length, refl, sym, ◌∙◌, ap, subst, arith, inl, inr, Ok, Some, None}
use Rattle.std.specs.Prelude.{Option, MatchOption, IsSome}
use Rattle.std.specs.Io.KnownBytes.{Appends}
use Rattle.std.proofs.lemmas.List.{append_cancel_left}
use Rattle.std.proofs.lemmas.Option.{same_Some}
use Rattle.outside_ports.specs.Names.{Inputs, bytes_of}
use Rattle.outside_ports.specs.declared.whole.TheConstants.{GREATEST_INPUT_BYTES}
use Rattle.sha2.specs.Sha256.{sha256}
use Rattle.sporadic_model.specs.SetDef.{SetDef}
use Rattle.protocol_names.specs.declared.ProtocolName.{ProtocolName}
use Rattle.protocol_names.specs.Names.{word_of}
use Rattle.program_form.specs.Certificate.{CertificateDef}
use Rattle.program_sources.specs.Valid.{IsValid}
use Rattle.named_laws.specs.Named.{source_of}
use Rattle.cert_json.specs.Ranges.{HasSmallDuals, IsWritable}
use Rattle.cert_json.specs.Text.{certificate_text}
use Rattle.cert_json.specs.declared.version.Version.TheVariants as version
use Rattle.cert_json.proofs.SmallDuals.{small_of_form}
use Rattle.command_inputs.specs.Known.{Answer, Input, IsRead, told}
use Rattle.run_plans.specs.Plans.{Work, Working, Reading, HasOneAnswer, IsOutcomeOf}
use Rattle.command_words.specs.Words.{Form, Analyse, Settle, Check, Upgrade, form_of}
use Rattle.command_words.specs.Spelled.{analyse_words, settle_words, check_words, upgrade_words}
use Rattle.command_words.proofs.SpelledLaws.{analyse_has_form, settle_has_form, check_is_form, upgrade_is_form}
use Rattle.command_inputs.specs.Inputs.{IsFileText, set_input, cert_input, old_cert_input}
use Rattle.run_plans.specs.Commands.{checked_answer, check_of, other_set_answer, plan_of}
use Rattle.run_plans.specs.Outcome.{refused_words, IsOutcome, HasOneOutcome}
use Rattle.run_plans.specs.Headline.{Call, HasInputs}
use Rattle.run_plans.specs.Run.{shelf_of, IsRun}
use Rattle.run_plans.specs.Checked.{ReadsWhatWasWritten, ChecksWhatWasWritten, ChecksWhatWasSettled, ChecksWhatWasUpgraded}
use Rattle.run_plans.specs.Checked.{ChecksForAnotherSet, Finds, FindsValid, FindsOtherSet}
use Rattle.run_plans.proofs.CommandLaws.{of_form}
use Rattle.run_plans.proofs.RunLaws.{replied}
use Rattle.run_plans.proofs.SoundLaws.{accepted_of}
use Rattle.run_plans.proofs.SetTextLaws.{told_reads}
use Rattle.run_plans.proofs.ShownLaws.{wrote_best}
use Rattle.run_plans.proofs.SettledLaws.{wrote_settled}
use Rattle.run_plans.proofs.UpgradedLaws.{wrote_upgraded}
use Rattle.run_plans.proofs.BoundLaws.{writable, written_with, text_is_read}

-- The text of a certificate is read as this certificate.
reads_certificate : (protocol : ProtocolName) (bytes text : List ℕ) (c : CertificateDef) → IsWritable c
    → text ≡ certificate_text (word_of protocol) (sha256 bytes) c
    → IsFileText protocol text (record { certificate = c; digest = sha256 bytes })
reads_certificate protocol bytes text c writable is =
    subst (λ (t : List ℕ). IsFileText protocol t (record { certificate = c; digest = sha256 bytes })) (sym is)
    (text_is_read protocol bytes c writable)

-- If a set is read and then a file, the outcome of a work on both is the work's answer.
pub outcome_of_both : (later : Inputs) (protocol : ProtocolName) (name cert bytes text : List ℕ) (set : SetDef) (input : Input)
    (file : input.Value) (work : List ℕ → SetDef → input.Value → Work) (a : Answer)
    → IsRead (told later) (set_input protocol) name bytes set → IsRead (told later) input cert text file
    → (work (sha256 bytes) set file).answers a
    → IsOutcomeOf (told later)
    (Reading (set_input protocol) name (λ b s. Reading input cert (λ t (f : input.Value). Working (work (sha256 b) s f)))) a
outcome_of_both later protocol name cert bytes text set input file work a read also is =
    inr (bytes, set, read, (λ works. tt), inr (text, file, also, (λ works. tt), (is, tt)))

-- So if a set and the text of a valid certificate of it are there, the outcome of `check` is that the certificate is valid.
check_outcome : (later : Inputs) (protocol : ProtocolName) (again cert bytes text : List ℕ) (set : SetDef) (c : CertificateDef)
    → IsRead (told later) (set_input protocol) again bytes set → IsFileText protocol text (record { certificate = c; digest = sha256 bytes })
    → IsValid (source_of protocol set) c → length text ≤ GREATEST_INPUT_BYTES → bytes_of later cert ≡ Some text
    → IsOutcomeOf (told later) (plan_of (Check protocol again cert)) checked_answer
check_outcome later protocol again cert bytes text set c read reads valid short named =
    outcome_of_both later protocol again cert bytes text set (cert_input protocol) (record { certificate = c; digest = sha256 bytes })
    (check_of protocol) checked_answer read ((named, short), reads) (inr (refl, inl (valid, refl)))

-- And if another set is there, with another digest, the outcome is that the certificate is of another set.
other_outcome : (later : Inputs) (protocol : ProtocolName) (other cert bytes text others : List ℕ) (tasks : SetDef) (c : CertificateDef)
    → IsRead (told later) (set_input protocol) other others tasks
    → IsFileText protocol text (record { certificate = c; digest = sha256 bytes })
    → (sha256 others ≡ sha256 bytes → ⊥) → length text ≤ GREATEST_INPUT_BYTES → bytes_of later cert ≡ Some text
    → IsOutcomeOf (told later) (plan_of (Check protocol other cert)) other_set_answer
other_outcome later protocol other cert bytes text others tasks c read reads apart short named =
    outcome_of_both later protocol other cert others text tasks (cert_input protocol) (record { certificate = c; digest = sha256 bytes })
    (check_of protocol) other_set_answer read ((named, short), reads) (inl ((λ tied. apart (sym tied)), refl))

-- If a sink tells its bytes, a call wrote one text to it.
one_text : (before now : Option (List ℕ)) (s t : List ℕ) → IsSome before → Appends before now s → Appends before now t → s ≡ t
one_text None now s t some p q = cc
one_text (Some xs) None s t some p q = absurd p
one_text (Some xs) (Some ys) s t some p q = append_cancel_left xs s t (sym p ∙ q)

pub has_form : (call : Call) (n : ℕ) → IsRun call → call.status ≡ n → n ≤ 1 → form_of call.words ≡ None → ⊥
has_form call n run is most none = elim (run.no_form none) [
  | inl two ↦ absurd (omega (arith, two, is, most))
  | inr (inl fails) ↦ absurd (omega (arith, fails.status, is, most))
  | inr (inr ran) ↦ absurd (omega (arith, ran.status, is, most))
]

-- A call with status 0 or 1 and words of this form wrote the text of its outcome.
pub record GaveText (inputs : Inputs) (form : Form) (n : ℕ) (text : List ℕ) : Type 0 where
  pub reply : Answer
  pub outcome : IsOutcomeOf (told inputs) (plan_of form) reply
  pub ended : reply.status ≡ n
  pub same : reply.text ≡ text

pub gave_text : (call : Call) (inputs : Inputs) (form : Form) (n : ℕ) (text : List ℕ) → IsRun call → form_of call.words ≡ Some form
    → HasInputs call inputs → IsSome call.sink_before.written → call.status ≡ n → n ≤ 1
    → Appends call.sink_before.written call.sink_now.written text → GaveText inputs form n text
gave_text call inputs form n text run form_is has some is most wrote = elim run.answers [
  | inr ran ↦ absurd (omega (arith, ran.status, is, most))
  | inl replies ↦ elim replies.out [
    | inr fails ↦ absurd (omega (arith, fails.status, is, most))
    | inl gives ↦ elim ((replied (shelf_of call) (form_of call.words) replies.reply replies.is).outcome inputs has) [
      | inr fault ↦ absurd (omega (arith, gives.0, fault.1, is, most))
      | inl mine ↦ record {
        reply = replies.reply;
        outcome = of_form inputs call.words form replies.reply form_is mine;
        ended = sym gives.0 ∙ is;
        same = one_text call.sink_before.written call.sink_now.written replies.reply.text text some gives.1 wrote;
      }
    ]
  ]
]

-- A call with status 0 wrote this text, which holds a valid certificate of a set.
record WroteText (inputs : Inputs) (protocol : ProtocolName) (name text : List ℕ) : Type 0 where
  bytes : List ℕ
  set : SetDef
  read : IsRead (told inputs) (set_input protocol) name bytes set
  certificate : CertificateDef
  valid : IsValid (source_of protocol set) certificate
  reads : IsFileText protocol text (record { certificate = certificate; digest = sha256 bytes })

wrote_text : (call : Call) (inputs : Inputs) (protocol : ProtocolName) (name : List ℕ) (more : List (List ℕ)) (text : List ℕ) → IsRun call
    → call.words ≡ analyse_words protocol name more → HasInputs call inputs
    → IsSome call.sink_before.written → call.status ≡ 0 → Appends call.sink_before.written call.sink_now.written text
    → WroteText inputs protocol name text
wrote_text call inputs protocol name more text run words has some zero wrote =
    let form = analyse_has_form call.words protocol name more words (has_form call 0 run zero (omega arith)) in
    let gave = gave_text call inputs (Analyse protocol name form.0) 0 text run form.1 has some zero (omega arith) wrote in
    let w = wrote_best (told inputs) protocol name form.0 gave.reply gave.outcome gave.ended in
    let accepted = accepted_of protocol w.bytes w.set w.read.1 in
    record {
      bytes = w.bytes;
      set = w.set;
      read = w.read;
      certificate = w.certificate;
      valid = w.best.valid;
      reads = reads_certificate protocol w.bytes text w.certificate
          (writable protocol w.set w.certificate accepted w.best.valid w.best.small) (sym gave.same ∙ w.text);
    }

settled_text : (first second : Call) (protocol : ProtocolName) (name : List ℕ) (more : List (List ℕ)) → IsRun first
    → first.words ≡ settle_words protocol name more → (t : ReadsWhatWasWritten first second 0 check_words protocol name)
    → WroteText t.inputs protocol name t.text
settled_text first second protocol name more run words t =
    let form = settle_has_form first.words protocol name more words (has_form first 0 run t.ended (omega arith)) in
    let gave = gave_text first t.inputs (Settle protocol name form.0) 0 t.text run form.1 t.has t.tells t.ended (omega arith) t.wrote in
    let w = wrote_settled (told t.inputs) protocol name form.0 gave.reply gave.outcome gave.ended in
    let accepted = accepted_of protocol w.bytes w.set w.read.1 in
    record {
      bytes = w.bytes;
      set = w.set;
      read = w.read;
      certificate = w.so.certificate;
      valid = w.so.proved.valid;
      reads = reads_certificate protocol w.bytes t.text w.so.certificate
          (writable protocol w.set w.so.certificate accepted w.so.proved.valid w.so.proved.small) (sym gave.same ∙ w.so.text);
    }

-- A certificate of the version before that was read has small duals.
small_old : (protocol : ProtocolName) (bytes : List ℕ) (c : CertificateDef) → (old_cert_input protocol).reads bytes (Ok c) → HasSmallDuals c
small_old protocol bytes c (d, is, form, same) = subst HasSmallDuals (sym same) (small_of_form version.First (word_of protocol) d form)

upgraded_text : (first second : Call) (protocol : ProtocolName) (name old : List ℕ) → IsRun first
    → first.words ≡ upgrade_words protocol name old → (t : ReadsWhatWasWritten first second 0 check_words protocol name)
    → WroteText t.inputs protocol name t.text
upgraded_text first second protocol name old run words t =
    let form = upgrade_is_form first.words protocol name old words in
    let gave = gave_text first t.inputs (Upgrade protocol name old) 0 t.text run form t.has t.tells t.ended (omega arith) t.wrote in
    let w = wrote_upgraded (told t.inputs) protocol name old gave.reply gave.outcome gave.ended in
    let accepted = accepted_of protocol w.bytes w.set w.read.1 in
    record {
      bytes = w.bytes;
      set = w.set;
      read = w.read;
      certificate = w.certificate;
      valid = w.valid;
      reads = reads_certificate protocol w.bytes t.text w.certificate
          (written_with protocol w.set w.certificate accepted w.valid (small_old protocol w.old w.certificate w.also.1)) (sym gave.same ∙ w.text);
    }

-- A call finds its outcome.
pub finds : (call : Call) (inputs : Inputs) (form : Form) (answer : Answer) → IsRun call → HasInputs call inputs
    → form_of call.words ≡ Some form → HasOneAnswer (told inputs) (plan_of form) → IsOutcomeOf (told inputs) (plan_of form) answer
    → Finds call answer
finds call inputs form answer run has is one plan =
    let only : HasOneOutcome inputs call.words =
    subst (λ (o : Option Form). MatchOption o (Unit {0}) (λ f. HasOneAnswer (told inputs) (plan_of f))) (sym is) one in
    let outcome : IsOutcome inputs call.words answer =
    subst
    (λ (o : Option Form). MatchOption o (answer ≡ refused_words) (λ f. IsOutcomeOf (told inputs) (plan_of f) answer))
    (sym is) plan in
    elim (run.exactly inputs answer has only outcome) [
      | inl gives ↦ inl gives
      | inr (inl four) ↦ inr (inl (four, run.faults four))
      | inr (inr ran) ↦ inr (inr ran)
    ]

finds_text : (first second : Call) (protocol : ProtocolName) (name : List ℕ) → IsRun second
    → (t : ReadsWhatWasWritten first second 0 check_words protocol name) → WroteText t.inputs protocol name t.text → FindsValid second
finds_text first second protocol name again t w =
    finds second t.later (Check protocol t.same_set t.file) checked_answer again t.has_later
    (check_is_form second.words protocol t.same_set t.file t.reads) (λ bytes set read text file also. tt)
    (check_outcome t.later protocol t.same_set t.file w.bytes t.text w.set w.certificate
    ((t.set_again ∙ w.read.0.0, w.read.0.1), w.read.1) w.reads w.valid t.short t.text_again)

pub finds_valid : (first second : Call) → IsRun first → IsRun second → ChecksWhatWasWritten first second → FindsValid second
finds_valid first second run again c =
    let t = c.after in
    finds_text first second c.protocol c.set again t
    (wrote_text first t.inputs c.protocol c.set c.more t.text run c.analyses t.has t.tells t.ended t.wrote)

pub finds_settled : (first second : Call) → IsRun first → IsRun second → ChecksWhatWasSettled first second → FindsValid second
finds_settled first second run again c = finds_text first second c.protocol c.set again c.after
    (settled_text first second c.protocol c.set c.more run c.settles c.after)

pub finds_upgraded : (first second : Call) → IsRun first → IsRun second → ChecksWhatWasUpgraded first second → FindsValid second
finds_upgraded first second run again c = finds_text first second c.protocol c.set again c.after
    (upgraded_text first second c.protocol c.set c.old run c.upgrades c.after)

pub finds_other_set : (first second : Call) → IsRun first → IsRun second → ChecksForAnotherSet first second → FindsOtherSet second
finds_other_set first second run again c =
    let w = wrote_text first c.inputs c.protocol c.set c.more c.text run c.analyses c.has c.tells c.schedulable c.wrote in
    let own : w.bytes ≡ c.bytes = same_Some w.bytes c.bytes (sym w.read.0.0 ∙ c.named) in
    finds second c.later (Check c.protocol c.other_set c.certificate) other_set_answer again c.has_later
    (check_is_form second.words c.protocol c.other_set c.certificate c.checks) (λ bytes set read text file also. tt)
    (other_outcome c.later c.protocol c.other_set c.certificate w.bytes c.text c.read.bytes c.tasks w.certificate
    (told_reads second c.later c.protocol c.other_set c.tasks c.read c.named_later) w.reads (λ same. c.apart (same ∙ ap sha256 own))
    c.short c.text_again)
