-- What `check` accepts is sound.
use Rattle.std.proofs.Common.{◌≡◌, ℕ, List, refl, sym, subst, inl, inr, Ok}
use Rattle.program_form.specs.Certificate.{CertificateDef}
use Rattle.program_sources.specs.Valid.{IsValid}
use Rattle.sporadic_model.specs.SetDef.{SetDef}
use Rattle.sporadic_model.specs.Accepted.{IsAccepted}
use Rattle.protocol_names.specs.declared.ProtocolName.{ProtocolName}
use Rattle.soundness_laws.specs.Analyses.{AreValues}
use Rattle.named_laws.proofs.EachName.{named_sound}
use Rattle.named_laws.specs.Named.{SoundUnder, source_of}
use Rattle.command_inputs.specs.Known.{Answer}
use Rattle.run_plans.specs.Plans.{Working, IsOutcomeOf}
use Rattle.command_words.specs.Words.{Check}
use Rattle.command_inputs.specs.Inputs.{ReadsSet, set_input, cert_input}
use Rattle.run_plans.specs.Commands.{IsJudgement, IfTied, IsCheck, checked_answer, check_of, with_certificate, plan_of}
use Rattle.command_inputs.specs.Known.{told}
use Rattle.run_plans.specs.Headline.{Call, Checks}
use Rattle.run_plans.proofs.PlanLaws.{rest_of, not_zero}
use Rattle.run_plans.proofs.InputLaws.{set_reads_once}
use Rattle.run_plans.proofs.CertInputLaws.{cert_reads_once}
use Rattle.run_plans.proofs.WorkLaws.{tied_at_zero}
use Rattle.cert_json.specs.FileDef.{FileDef}
use Rattle.sha2.specs.Sha256.{sha256}
use Rattle.run_plans.proofs.SetTextLaws.{told_reads}

-- A set that is read is accepted.
pub accepted_of : (protocol : ProtocolName) (bytes : List ℕ) (set : SetDef) → ReadsSet protocol bytes (Ok set) → IsAccepted set
accepted_of protocol bytes set (reads, homes) = subst IsAccepted (sym reads.2.2) reads.2.1

-- A judgement with status 0 says that the certificate is valid.
pub valid_at_zero : (p : ProtocolName) (set : SetDef) (c : CertificateDef) (says a : Answer) → IsJudgement p set c says a
    → a.status ≡ 0 → (IsValid (source_of p set) c) × (a ≡ says)
valid_at_zero p set c says a (inl valid) zero = valid
valid_at_zero p set c says a (inr (e, fails, is)) zero = absurd (not_zero 0 is refl zero)

-- If the outcome of a call that checks a certificate has status 0, the certificate is sound.
pub sound_outcome : (call : Call) (p : ProtocolName) (set : SetDef) (c : CertificateDef) (checks : Checks call p set c) (a : Answer)
    → IsOutcomeOf (told checks.inputs) (plan_of (Check p checks.name checks.cert)) a → a.status ≡ 0
    → (values : List ℕ) → AreValues (source_of p set) c values → SoundUnder p set c.bounds values
sound_outcome call p set c checks a out zero values are =
    let read = checks.read in
    let digest : List ℕ = sha256 read.bytes in
    let file : FileDef = record { certificate = c; digest = checks.digest } in
    let later : IsOutcomeOf (told checks.inputs) (with_certificate p checks.cert (check_of p digest set)) a =
    rest_of checks.inputs (set_input p) checks.name
    (λ bytes tasks. with_certificate p checks.cert (check_of p (sha256 bytes) tasks)) read.bytes set a
    (set_reads_once p) (told_reads call checks.inputs p checks.name set read checks.named_set) out in
    let tied : IfTied digest file (IsCheck p set) a =
    (rest_of checks.inputs (cert_input p) checks.cert (λ bytes d. Working (check_of p digest set d)) checks.bytes file a
    (cert_reads_once p) ((checks.named, checks.short), checks.reads) later).0 in
    let judged : IsJudgement p set c checked_answer a = (tied_at_zero digest checks.digest (IsCheck p set c) a tied zero).1 in
    named_sound p set c values read.text.accepted (valid_at_zero p set c checked_answer a judged zero).0 are
