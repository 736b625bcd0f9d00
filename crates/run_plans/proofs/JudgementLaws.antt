-- Laws of judging a certificate: there is one answer, with status 0 or 1.
use Rattle.std.proofs.Common.{◌≡◌, ℕ, List, refl, ◌∙◌, ap}
use Rattle.std.specs.Prelude.{slice_index}
use Rattle.program_form.specs.Certificate.{CertificateDef}
use Rattle.program_sources.specs.Recurrence.{SourceDef}
use Rattle.program_sources.specs.Valid.{IsValid, value_at}
use Rattle.sporadic_model.specs.SetDef.{SetDef}
use Rattle.protocol_names.specs.declared.ProtocolName.{ProtocolName}
use Rattle.soundness_laws.specs.Analyses.{AreValues}
use Rattle.named_laws.specs.Named.{source_of}
use Rattle.schedule_answers.specs.Failures.{IsFailure}
use Rattle.schedule_answers.specs.declared.checked.Invalid.{Invalid}
use Rattle.schedule_answers.specs.declared.checked.Invalid.TheVariants as invalid
use Rattle.schedule_answers.proofs.FailureLaws.{no_failure, one_failure}
use Rattle.report.specs.FullTable.{full_text}
use Rattle.report.proofs.FullTable.{full_text-agree}
use Rattle.command_inputs.specs.Known.{Answer}
use Rattle.cert_json.specs.FileDef.{FileDef}
use Rattle.run_plans.specs.Commands.{IsJudgement, invalid_answer, IsCheck, checked_answer, check_of, IsFullTable, reported_answer, full_table_of}
use Rattle.reply_texts.specs.Failing.{FailsTask}
use Rattle.run_plans.proofs.PlanLaws.{IsLawfulWork}
use Rattle.run_plans.proofs.WorkLaws.{always, fixed_lawful, judged_lawful, tied_lawful}

pub judgement_lawful : (protocol : ProtocolName) (set : SetDef) (c : CertificateDef) (valid : Answer) → valid.status ≡ 0
    → IsLawfulWork (always (IsJudgement protocol set c valid))
judgement_lawful protocol set c valid zero =
    let f : SourceDef = source_of protocol set in
    judged_lawful (IsValid f c) (λ a. a ≡ valid) (λ e. IsFailure e f c) (invalid_answer set) (fixed_lawful valid zero) (λ e. refl)
    (λ e fails holds. no_failure e f c fails holds) (λ d e fails fails'. one_failure d e f c fails fails')

pub check_lawful : (p : ProtocolName) (digest : List ℕ) (set : SetDef) (file : FileDef) → IsLawfulWork (check_of p digest set file)
check_lawful p digest set file =
    tied_lawful digest file.digest (IsCheck p set file.certificate) (judgement_lawful p set file.certificate checked_answer refl)

pub full_table_lawful : (p : ProtocolName) (digest : List ℕ) (set : SetDef) (file : FileDef) → IsLawfulWork (full_table_of p digest set file)
full_table_lawful p digest set file =
    tied_lawful digest file.digest (IsFullTable p set file.certificate)
    (judgement_lawful p set file.certificate (reported_answer p set file.certificate) refl)

-- A failure names a task of the set.
pub fails_task : (protocol : ProtocolName) (set : SetDef) (c : CertificateDef) (e : Invalid)
    → IsFailure e (source_of protocol set) c → FailsTask set e
fails_task protocol set c invalid.Size fails = tt
fails_task protocol set c (invalid.Bound i) fails = fails.1.below
fails_task protocol set c (invalid.DualSize i) fails = fails.1.below
fails_task protocol set c (invalid.Cover i k) fails = fails.1.below
fails_task protocol set c (invalid.Small i) fails = fails.1.below
fails_task protocol set c invalid.Memory fails = fails

-- The table with the listed values is the table with the duals' values.
pub listed_table : (protocol : ProtocolName) (set : SetDef) (c : CertificateDef) (values : List ℕ) (a : Answer)
    → AreValues (source_of protocol set) c values
    → a ≡ record { status = 0; text = full_text set c.bounds (slice_index values) } → a ≡ reported_answer protocol set c
listed_table protocol set c values a are is =
    is ∙ ap (λ (t : List ℕ). record { status = 0; text = t })
    (full_text-agree set c.bounds (slice_index values) (value_at (source_of protocol set) c) are.each)
