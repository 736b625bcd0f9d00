-- What `refute` and `settle` write is found confirmed, and no set is both accepted and refused.
use Rattle.std.proofs.Common.{◌≡◌, ℕ, List, [], ◌∷◌, refl, sym, ◌∙◌, subst, arith, inl, inr, Some, Ok}
use Rattle.std.specs.Prelude.{Option}
use Rattle.std.proofs.lemmas.Option.{same_Some}
use Rattle.outside_ports.specs.Names.{Inputs, bytes_of, IsNamed}
use Rattle.outside_ports.specs.Past.{Asked, wholly}
use Rattle.sha2.specs.Sha256.{sha256}
use Rattle.program_sources.specs.Valid.{IsValid}
use Rattle.refusal_laws.specs.Steps.{StepDef, Holds}
use Rattle.sporadic_model.specs.SetDef.{SetDef}
use Rattle.protocol_names.specs.declared.ProtocolName.{ProtocolName}
use Rattle.named_laws.specs.Named.{source_of}
use Rattle.named_laws.proofs.Refusals.{named_none_valid}
use Rattle.refusal_json.specs.Ranges.{IsWritable}
use Rattle.refusal_json.specs.Text.{refusal_text}
use Rattle.protocol_names.specs.Names.{word_of}
use Rattle.command_words.specs.Words.{Refute, Settle, Confirm}
use Rattle.command_words.specs.Spelled.{confirm_words}
use Rattle.command_words.proofs.SpelledLaws.{refute_has_form, settle_has_form, confirm_is_form}
use Rattle.command_inputs.specs.Known.{IsRead, told}
use Rattle.run_plans.specs.Refuting.{confirmed_answer}
use Rattle.run_plans.specs.Commands.{confirmation_of}
use Rattle.command_inputs.specs.Inputs.{ReadsSet, IsRefusalText, set_input, refusal_input}
use Rattle.run_plans.specs.Headline.{Call, Asks, HasInputs, IsSetText}
use Rattle.run_plans.specs.Run.{IsRun}
use Rattle.run_plans.specs.Checked.{ReadsWhatWasWritten}
use Rattle.run_plans.specs.Confirmed.{ConfirmsWhatWasWritten, ConfirmsWhatWasSettled, FindsConfirmed, ChecksAndConfirms}
use Rattle.run_plans.proofs.InputLaws.{set_reads_once}
use Rattle.run_plans.proofs.SetTextLaws.{reads_text}
use Rattle.run_plans.proofs.SoundLaws.{accepted_of}
use Rattle.run_plans.proofs.RefusalInputLaws.{text_is_read}
use Rattle.run_plans.proofs.RefusedLaws.{wrote_refusal}
use Rattle.run_plans.proofs.SettledLaws.{wrote_refused}
use Rattle.run_plans.proofs.WritableRefusal.{refusal_writable}
use Rattle.run_plans.proofs.CheckedLaws.{outcome_of_both, gave_text, has_form, finds}

-- Bytes are the text of at most one set.
one_set : (p : ProtocolName) (bytes others : List ℕ) (set other : SetDef) → bytes ≡ others → IsSetText p bytes set
    → IsSetText p others other → set ≡ other
one_set p bytes others set other same text text' =
    let mine : ReadsSet p others (Ok set) =
    subst (λ (b : List ℕ). ReadsSet p b (Ok set)) same (reads_text p bytes set text) in
    let both = set_reads_once p others (Ok set) (Ok other) mine (reads_text p others other text') in cc

-- The bytes of the name that a call asked for first.
own_bytes : (call : Call) (inputs : Inputs) (name bytes : List ℕ) (later : List Asked) → HasInputs call inputs
    → IsNamed call.shelf_before.names name bytes → Asks call (wholly name bytes ∷ later) → bytes_of inputs name ≡ Some bytes
own_bytes call inputs name bytes later (inl tells) named asked = subst (λ (o : Option Inputs). IsNamed o name bytes) tells named
own_bytes call inputs name bytes later (inr fit) named asked = (fit (wholly name bytes ∷ later) asked).0

pub never_both : (first second : Call) → IsRun first → IsRun second → ChecksAndConfirms first second → ⊥
never_both first second run again c =
    let check = run.checked c.protocol c.set c.certificate c.checks c.valid in
    let confirmation = again.confirmed c.protocol c.same_set c.refusal c.confirms c.confirmed in
    let valid = check.proved in
    let holds = confirmation.proved in
    let mine : bytes_of c.inputs c.set ≡ Some valid.read.bytes =
    own_bytes first c.inputs c.set valid.read.bytes (wholly c.certificate valid.bytes ∷ []) c.has valid.read.named check.asked in
    let other : bytes_of c.later c.same_set ≡ Some holds.read.bytes =
    own_bytes second c.later c.same_set holds.read.bytes (wholly c.refusal holds.bytes ∷ []) c.has_later holds.read.named confirmation.asked in
    let bytes : valid.read.bytes ≡ holds.read.bytes =
    same_Some valid.read.bytes holds.read.bytes (sym mine ∙ (sym c.set_again ∙ other)) in
    let same : valid.set ≡ holds.set =
    one_set c.protocol valid.read.bytes holds.read.bytes valid.set holds.set bytes valid.read.text holds.read.text in
    named_none_valid c.protocol holds.set holds.steps valid.certificate holds.holds
    (subst (λ (s : SetDef). IsValid (source_of c.protocol s) valid.certificate) same valid.valid)

-- ---- what was written is confirmed

-- A call wrote this text, which holds a refusal of a set.
record WroteText (inputs : Inputs) (p : ProtocolName) (name text : List ℕ) : Type 0 where
  bytes : List ℕ
  set : SetDef
  read : IsRead (told inputs) (set_input p) name bytes set
  steps : List StepDef
  holds : Holds (source_of p set) steps
  reads : IsRefusalText p text (record { steps = steps; digest = sha256 bytes })

reads_refusal : (p : ProtocolName) (bytes text : List ℕ) (steps : List StepDef) → IsWritable steps
    → text ≡ refusal_text (word_of p) (sha256 bytes) steps → IsRefusalText p text (record { steps = steps; digest = sha256 bytes })
reads_refusal p bytes text steps writable is =
    subst (λ (t : List ℕ). IsRefusalText p t (record { steps = steps; digest = sha256 bytes })) (sym is) (text_is_read p bytes steps writable)

refuted_text : (first second : Call) → IsRun first → (c : ConfirmsWhatWasWritten first second)
    → WroteText c.after.inputs c.protocol c.set c.after.text
refuted_text first second run c =
    let t = c.after in
    let form = refute_has_form first.words c.protocol c.set c.more c.refutes (has_form first 0 run t.ended (omega arith)) in
    let gave = gave_text first t.inputs (Refute c.protocol c.set form.0) 0 t.text run form.1 t.has t.tells t.ended (omega arith) t.wrote in
    let w = wrote_refusal (told t.inputs) c.protocol c.set form.0 gave.reply gave.outcome gave.ended in
    let accepted = accepted_of c.protocol w.bytes w.set w.read.1 in
    let writable : IsWritable w.so.steps =
    subst (λ (xs : List StepDef). IsWritable xs) (sym w.so.steps_are)
    (refusal_writable c.protocol w.set form.0 w.so.task w.so.value accepted w.so.ends) in
    record {
      bytes = w.bytes;
      set = w.set;
      read = w.read;
      steps = w.so.steps;
      holds = w.so.holds;
      reads = reads_refusal c.protocol w.bytes t.text w.so.steps writable (sym gave.same ∙ w.so.text);
    }

settled_text : (first second : Call) → IsRun first → (c : ConfirmsWhatWasSettled first second)
    → WroteText c.after.inputs c.protocol c.set c.after.text
settled_text first second run c =
    let t = c.after in
    let form = settle_has_form first.words c.protocol c.set c.more c.settles (has_form first 1 run t.ended (omega arith)) in
    let gave = gave_text first t.inputs (Settle c.protocol c.set form.0) 1 t.text run form.1 t.has t.tells t.ended (omega arith) t.wrote in
    let w = wrote_refused (told t.inputs) c.protocol c.set form.0 gave.reply gave.outcome gave.ended in
    record {
      bytes = w.bytes;
      set = w.set;
      read = w.read;
      steps = w.so.steps;
      holds = w.so.so.holds;
      reads = reads_refusal c.protocol w.bytes t.text w.so.steps w.so.so.writable (sym gave.same ∙ w.so.text);
    }

-- So if the set and the text are there, the outcome of `confirm` is that the refusal is confirmed.
finds_text : (first second : Call) (n : ℕ) (p : ProtocolName) (name : List ℕ) → IsRun second
    → (t : ReadsWhatWasWritten first second n confirm_words p name) → WroteText t.inputs p name t.text → FindsConfirmed second
finds_text first second n p name again t w =
    finds second t.later (Confirm p t.same_set t.file) confirmed_answer again t.has_later
    (confirm_is_form second.words p t.same_set t.file t.reads) (λ bytes set read text file also. tt)
    (outcome_of_both t.later p t.same_set t.file w.bytes t.text w.set (refusal_input p) (record { steps = w.steps; digest = sha256 w.bytes })
    (confirmation_of p) confirmed_answer ((t.set_again ∙ w.read.0.0, w.read.0.1), w.read.1) ((t.text_again, t.short), w.reads)
    (inr (refl, inl (w.holds, refl))))

pub finds_confirmed : (first second : Call) → IsRun first → IsRun second → ConfirmsWhatWasWritten first second → FindsConfirmed second
finds_confirmed first second run again c =
    finds_text first second 0 c.protocol c.set again c.after (refuted_text first second run c)

pub finds_settled : (first second : Call) → IsRun first → IsRun second → ConfirmsWhatWasSettled first second → FindsConfirmed second
finds_settled first second run again c =
    finds_text first second 1 c.protocol c.set again c.after (settled_text first second run c)
