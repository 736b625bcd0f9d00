-- Laws of auditing a schedule against a certificate: there is one answer, with status 0 or 1.
use Rattle.std.proofs.Common.{◌≡◌, ℕ, ◌<◌, ◌++◌, refl, ◌∙◌, ap, inl}
use Rattle.std.specs.Prelude.{List, length, codes, decimal, slice_index, slice_index_or}
use Rattle.program_form.specs.Certificate.{CertificateDef}
use Rattle.sporadic_model.specs.SetDef.{SetDef}
use Rattle.protocol_names.specs.declared.ProtocolName.{ProtocolName}
use Rattle.schedule_model.specs.JobDef.{JobsDef}
use Rattle.schedule_model.specs.RowDef.{Trace, trace_in, ticks_of}
use Rattle.schedule_model.specs.Fitting.{RowsDef}
use Rattle.schedule_model.specs.Keeping.{KeepsBefore}
use Rattle.program_sources.specs.Recurrence.{SourceDef}
use Rattle.program_sources.specs.Valid.{IsValid, value_at}
use Rattle.named_laws.specs.Named.{charges_of, interference_of, rules_of, source_of}
use Rattle.schedule_answers.specs.Failures.{IsFailure}
use Rattle.schedule_answers.proofs.FailureLaws.{no_failure, one_failure}
use Rattle.schedule_answers.specs.declared.audited.TaskFigures.{TaskFigures}
use Rattle.schedule_answers.specs.TaskAnswers.{no_figures}
use Rattle.figure_laws.specs.Figures.{figures_of, AreFigures}
use Rattle.command_inputs.specs.Known.{Answer}
use Rattle.reply_texts.specs.Texts.{figures_line, kept_text}
use Rattle.run_plans.specs.Commands.{invalid_answer, IsKept, kept_answer, IsAudit, IsAuditOf, audit_of}
use Rattle.cert_json.specs.FileDef.{FileDef}
use Rattle.run_plans.proofs.ConformLaws.{kept_lawful, task_lines_same}
use Rattle.run_plans.proofs.PlanLaws.{IsLawfulWork}
use Rattle.run_plans.proofs.WorkLaws.{always, judged_lawful, tied_lawful}

own_audit : (p : ProtocolName) (c : CertificateDef) (jobs : JobsDef) (rows : RowsDef) → IsLawfulWork (always (IsAuditOf p jobs rows c))
own_audit p c jobs rows =
    let w : Trace = trace_in jobs rows.runs in
    let n : ℕ = ticks_of rows.runs in
    let f : SourceDef = source_of p w.set in
    let kept : Answer = kept_answer p c w n in
    judged_lawful (IsValid f c) (IsKept (rules_of p) w n kept) (λ e. IsFailure e f c) (invalid_answer w.set)
    (kept_lawful (rules_of p) w n kept refl) (λ e. refl) (λ e fails holds. no_failure e f c fails holds)
    (λ d e fails fails'. one_failure d e f c fails fails')

pub audit_lawful : (p : ProtocolName) (digest : List ℕ) (file : FileDef) (jobs : JobsDef) (rows : RowsDef)
    → IsLawfulWork (audit_of p digest file jobs rows)
audit_lawful p digest file jobs rows =
    tied_lawful digest file.digest (IsAuditOf p jobs rows file.certificate) (own_audit p file.certificate jobs rows)

-- The text with the listed figures is the text with the schedule's figures.
kept_same : (set : SetDef) (n : ℕ) (f g : ℕ → TaskFigures) → ((x : ℕ) → x < length set.tasks → f x ≡ g x)
    → kept_text set n f ≡ kept_text set n g
kept_same set n f g same = ap (λ t. codes "kept " ++ (decimal n ++ (codes "\n" ++ t))) (task_lines_same set figures_line f g same)

pub kept_audit : (p : ProtocolName) (c : CertificateDef) (w : Trace) (n : ℕ) (figures : List TaskFigures) (a : Answer)
    → IsValid (source_of p w.set) c
    → KeepsBefore (rules_of p) w n
    → AreFigures (charges_of p) (interference_of p) w (slice_index c.bounds) (value_at (source_of p w.set) c) n figures
    → a ≡ record { status = 0; text = kept_text w.set n (λ x. slice_index_or figures x no_figures) } → IsAudit p c w n a
kept_audit p c w n figures a valid keeps are is =
    let texts = kept_same w.set n (λ x. slice_index_or figures x no_figures)
    (figures_of (charges_of p) (interference_of p) w (slice_index c.bounds) (value_at (source_of p w.set) c) n) are.each in
    inl (valid, inl (keeps, is ∙ ap (λ t. record { status = 0; text = t }) texts))
