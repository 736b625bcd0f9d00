-- What `analyse` shows, and what `refute` refuses, `settle` answers with the same text.
use Rattle.std.proofs.Common.{◌≡◌, ℕ, List, sym, ◌∙◌, ap, subst, arith, inl, inr, Ok}
use Rattle.std.proofs.lemmas.Option.{same_Some}
use Rattle.outside_ports.specs.Names.{Inputs, bytes_of}
use Rattle.sha2.specs.Sha256.{sha256}
use Rattle.program_form.specs.Certificate.{DualDef, CertificateDef}
use Rattle.refusal_laws.specs.Steps.{StepDef}
use Rattle.program_sources.specs.Recurrence.{SourceDef}
use Rattle.sporadic_model.specs.SetDef.{SetDef}
use Rattle.protocol_names.specs.Names.{word_of}
use Rattle.protocol_names.specs.declared.ProtocolName.{ProtocolName}
use Rattle.response_fixpoint.specs.Rounds.{Ending, Schedulable, NotShown, Wide, Allowance, EndsIn}
use Rattle.response_fixpoint.specs.Runs.{rounds_of}
use Rattle.response_fixpoint.proofs.EndLaws.{schedulable_best}
use Rattle.response_fixpoint.proofs.RunLaws.{one_ending}
use Rattle.refusal_cert.specs.Refuting.{refuting}
use Rattle.refusal_cert.proofs.Analyses.{refused_exactly}
use Rattle.refusal_cert.proofs.OneEnding.{refuting_once}
use Rattle.refusal_json.specs.Ranges.{IsWritable}
use Rattle.settling.specs.Answers.{IsLeftOpen}
use Rattle.settling.specs.Ways.{NoneNeedsMore}
use Rattle.named_laws.specs.Named.{source_of}
use Rattle.named_laws.proofs.EachName.{named_above}
use Rattle.cert_json.specs.Text.{certificate_text}
use Rattle.refusal_json.specs.Text.{refusal_text}
use Rattle.command_words.specs.Spelled.{analyse_words, refute_words}
use Rattle.command_words.specs.Words.{Analyse, Refute, Settle}
use Rattle.command_words.proofs.SpelledLaws.{analyse_is_form, refute_is_form, settle_is_form}
use Rattle.command_inputs.specs.Known.{Answer, IsRead, told}
use Rattle.command_inputs.specs.Inputs.{ReadsSet, set_input}
use Rattle.run_plans.specs.Plans.{HasOneAnswer, IsOutcomeOf}
use Rattle.run_plans.specs.Commands.{ending_answer, plan_of}
use Rattle.run_plans.specs.Settling.{IsSettlement, IsSettledBy, IsRefusedBy}
use Rattle.run_plans.specs.Headline.{Call}
use Rattle.run_plans.specs.Run.{IsRun}
use Rattle.run_plans.specs.Checked.{Finds}
use Rattle.run_plans.specs.Compared.{SettlesAfter, SettlesWhatWasAnalysed, SettlesWhatWasRefuted, FindsText, FindsRefusal}
use Rattle.run_plans.proofs.PlanLaws.{stopped_not_zero}
use Rattle.run_plans.proofs.InputLaws.{set_reads_once}
use Rattle.run_plans.proofs.ShownLaws.{schedulable_ending}
use Rattle.run_plans.proofs.SoundLaws.{accepted_of}
use Rattle.run_plans.proofs.RefusedLaws.{WroteRefusal, wrote_refusal}
use Rattle.run_plans.proofs.WritableRefusal.{refusal_writable}
use Rattle.run_plans.proofs.CheckedLaws.{gave_text, finds}

-- The set of an analysis with status 0, and the certificate with which its rounds end.
record Shows (inputs : Inputs) (p : ProtocolName) (name : List ℕ) (n : ℕ) (text : List ℕ) : Type 0 where
  bytes : List ℕ
  set : SetDef
  read : IsRead (told inputs) (set_input p) name bytes set
  certificate : CertificateDef
  ends : EndsIn (rounds_of (source_of p set)) n (Schedulable certificate.bounds certificate.duals)
  same : text ≡ certificate_text (word_of p) (sha256 bytes) certificate

shows : (inputs : Inputs) (p : ProtocolName) (name : List ℕ) (n : ℕ) (a : Answer)
    → IsOutcomeOf (told inputs) (plan_of (Analyse p name n)) a → a.status ≡ 0 → Shows inputs p name n a.text
shows inputs p name n a (inl stopped) zero = absurd (stopped_not_zero (told inputs) (set_input p) name a stopped zero)
shows inputs p name n a (inr (bytes, set, read, last, ((e, ends, is), asked))) zero =
    let end = schedulable_ending p (sha256 bytes) set e a is zero in
    record {
      bytes = bytes;
      set = set;
      read = read;
      certificate = record { bounds = end.bounds; duals = end.duals };
      ends = subst (λ (x : Ending). EndsIn (rounds_of (source_of p set)) n x) end.is ends;
      same = ap (λ x. x.text) is ∙ ap (λ (x : Ending). (ending_answer p (sha256 bytes) set x).text) end.is;
    }

-- A set that the analysis shows isn't left open.
abbrev IsShown : Ending → Type 0
IsShown (Schedulable bounds duals) = Unit {0}
IsShown (NotShown i value) = ⊥
IsShown (Wide i) = ⊥
IsShown Allowance = ⊥

not_open : (f : SourceDef) (n : ℕ) (bounds : List ℕ) (duals : List DualDef) → EndsIn (rounds_of f) n (Schedulable bounds duals)
    → IsLeftOpen f n → ⊥
not_open f n bounds duals ends (inl (i, wide)) =
    subst IsShown (one_ending f n (Schedulable bounds duals) (Wide i) ends wide) tt
not_open f n bounds duals ends (inr ((i, v, late), other)) =
    subst IsShown (one_ending f n (Schedulable bounds duals) (NotShown i v) ends late) tt

-- Where the set is read again it is the same one.
one_set : (inputs later : Inputs) (p : ProtocolName) (name again bytes others : List ℕ) (set other : SetDef)
    → bytes_of later again ≡ bytes_of inputs name → IsRead (told inputs) (set_input p) name bytes set
    → IsRead (told later) (set_input p) again others other → set ≡ other
one_set inputs later p name again bytes others set other set_again read read' =
    let same : bytes ≡ others = same_Some bytes others (sym read.0.0 ∙ (sym set_again ∙ read'.0.0)) in
    let mine : ReadsSet p others (Ok set) = subst (λ (b : List ℕ). ReadsSet p b (Ok set)) same read.1 in
    let both = set_reads_once p others (Ok set) (Ok other) mine read'.1 in cc

one_answer : (inputs later : Inputs) (p : ProtocolName) (name again : List ℕ) (n : ℕ) (bytes : List ℕ) (set : SetDef)
    → IsRead (told inputs) (set_input p) name bytes set → (IsLeftOpen (source_of p set) n → ⊥)
    → bytes_of later again ≡ bytes_of inputs name → HasOneAnswer (told later) (plan_of (Settle p again n))
one_answer inputs later p name again n bytes set read closed set_again = λ others other read' left.
    (let same : set ≡ other = one_set inputs later p name again bytes others set other set_again read read' in
    closed (subst (λ (x : SetDef). IsLeftOpen (source_of p x) n) (sym same) left))

-- So the second call gives an answer that the set has.
gives_again : (words : ProtocolName → List ℕ → List (List ℕ) → List (List ℕ)) (first second : Call) → IsRun second
    → (c : SettlesAfter words first second) → (bytes : List ℕ) (set : SetDef) (a : Answer)
    → IsRead (told c.inputs) (set_input c.protocol) c.set bytes set → (IsLeftOpen (source_of c.protocol set) c.allowance → ⊥)
    → IsSettlement c.protocol (sha256 bytes) set c.allowance a → Finds second a
gives_again words first second again c bytes set a read closed is =
    finds second c.later (Settle c.protocol c.same_set c.allowance) a again c.has_later
    (settle_is_form second.words c.protocol c.same_set c.more c.allowance c.settles c.allows)
    (one_answer c.inputs c.later c.protocol c.set c.same_set c.allowance bytes set read closed c.set_again)
    (inr (bytes, set, ((c.set_again ∙ read.0.0, read.0.1), read.1), (λ works. tt), (is, tt)))

-- ---- after an analysis

-- What a law of settling says: if an analysis ends with a certificate, no task needs more than 63 bits.
abbrev pub CertificatesNeedNoMore : Type 0
CertificatesNeedNoMore = (f : SourceDef) (allowance : ℕ) (bounds : List ℕ) (duals : List DualDef)
    → EndsIn (rounds_of f) allowance (Schedulable bounds duals) → NoneNeedsMore f

settled_by : (inputs : Inputs) (p : ProtocolName) (name : List ℕ) (n : ℕ) (text : List ℕ) (s : Shows inputs p name n text)
    → CertificatesNeedNoMore → IsSettledBy (source_of p s.set) n s.certificate
settled_by inputs p name n text s enough =
    let best = schedulable_best (source_of p s.set) n s.certificate.bounds s.certificate.duals (named_above p s.set) s.ends in
    record {
      proved = record { least = best.least; valid = best.valid; small = best.small };
      enough = enough (source_of p s.set) n s.certificate.bounds s.certificate.duals s.ends;
      from = inl s.ends;
    }

pub finds_same : (first second : Call) → CertificatesNeedNoMore → IsRun first → IsRun second → (c : SettlesWhatWasAnalysed first second)
    → FindsText second c.text
finds_same first second enough run again c =
    let form = analyse_is_form first.words c.protocol c.set c.more c.allowance c.before c.allows in
    let gave = gave_text first c.inputs (Analyse c.protocol c.set c.allowance) 0 c.text run form c.has c.tells c.done (omega arith) c.wrote in
    let s : Shows c.inputs c.protocol c.set c.allowance c.text =
    subst (λ (t : List ℕ). Shows c.inputs c.protocol c.set c.allowance t) gave.same
    (shows c.inputs c.protocol c.set c.allowance gave.reply gave.outcome gave.ended) in
    gives_again analyse_words first second again c s.bytes s.set (record { status = 0; text = c.text }) s.read
    (not_open (source_of c.protocol s.set) c.allowance s.certificate.bounds s.certificate.duals s.ends)
    (inl (s.certificate, settled_by c.inputs c.protocol c.set c.allowance c.text s enough, ap (λ (t : List ℕ). record { status = 0; text = t }) s.same))

-- ---- after a refutation

-- A set that the rounds of refusals refuse isn't left open.
abbrev IsRefused : Ending → Type 0
IsRefused (Schedulable bounds duals) = ⊥
IsRefused (NotShown i value) = Unit {0}
IsRefused (Wide i) = ⊥
IsRefused Allowance = ⊥

not_open_refused : (f : SourceDef) (n i value : ℕ) → EndsIn (refuting f) n (NotShown i value) → IsLeftOpen f n → ⊥
not_open_refused f n i value ends (inl (k, wide)) =
    let late : EndsIn (rounds_of f) n (NotShown i value) = ((refused_exactly f n i value).0 ends).0 in
    subst IsRefused (one_ending f n (NotShown i value) (Wide k) late wide) tt
not_open_refused f n i value ends (inr (late, (k, wide))) =
    subst IsRefused (refuting_once f n (NotShown i value) (Wide k) ends wide) tt

refused_by : (known : Inputs) (p : ProtocolName) (name : List ℕ) (n : ℕ) (a : Answer) → (w : WroteRefusal (told known) p name n a)
    → IsRefusedBy (source_of p w.set) n w.so.steps
refused_by known p name n a w =
    let late : EndsIn (rounds_of (source_of p w.set)) n (NotShown w.so.task w.so.value) =
    ((refused_exactly (source_of p w.set) n w.so.task w.so.value).0 w.so.ends).0 in
    record {
      holds = w.so.holds;
      writable = subst (λ (xs : List StepDef). IsWritable xs) (sym w.so.steps_are)
          (refusal_writable p w.set n w.so.task w.so.value (accepted_of p w.bytes w.set w.read.1) w.so.ends);
      from = inl ((w.so.task, w.so.value, late), (w.so.task, w.so.value, w.so.ends, w.so.steps_are));
    }

pub finds_same_refusal : (first second : Call) → IsRun first → IsRun second → (c : SettlesWhatWasRefuted first second)
    → FindsRefusal second c.text
finds_same_refusal first second run again c =
    let form = refute_is_form first.words c.protocol c.set c.more c.allowance c.before c.allows in
    let gave = gave_text first c.inputs (Refute c.protocol c.set c.allowance) 0 c.text run form c.has c.tells c.done (omega arith) c.wrote in
    let w = wrote_refusal (told c.inputs) c.protocol c.set c.allowance gave.reply gave.outcome gave.ended in
    let same : c.text ≡ refusal_text (word_of c.protocol) (sha256 w.bytes) w.so.steps = sym gave.same ∙ w.so.text in
    gives_again refute_words first second again c w.bytes w.set (record { status = 1; text = c.text }) w.read
    (not_open_refused (source_of c.protocol w.set) c.allowance w.so.task w.so.value w.so.ends)
    (inr (inl (w.so.steps, refused_by c.inputs c.protocol c.set c.allowance gave.reply w, ap (λ (t : List ℕ). record { status = 1; text = t }) same)))
