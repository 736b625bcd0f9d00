-- What the calls answer that analyse a set, check a certificate and judge a schedule.
use Rattle.std.specs.Prelude.{◌≡◌, ◌↔◌, ℕ, List, Vec, Result, IfOk, IfErr, IsErrOf}
use Rattle.std.specs.Global.{Global}
use Rattle.program_form.specs.Certificate.{CertificateDef}
use Rattle.program_sources.specs.Recurrence.{SourceDef}
use Rattle.program_sources.specs.Fitting.{AreFitting}
use Rattle.program_sources.specs.Valid.{IsValid}
use Rattle.sporadic_model.specs.SetDef.{SetDef}
use Rattle.schedule_model.specs.JobDef.{JobsDef}
use Rattle.schedule_model.specs.RowDef.{trace_in, ticks_of}
use Rattle.schedule_model.specs.Fitting.{RowsDef}
use Rattle.schedule_answers.specs.Conforming.{Conforms}
use Rattle.schedule_answers.specs.declared.audited.AuditStop.{AuditStop}
use Rattle.schedule_answers.specs.declared.audited.TaskFigures.{TaskFigures}
use Rattle.schedule_answers.specs.declared.checked.Valid.{Valid}
use Rattle.schedule_answers.specs.declared.checked.Invalid.{Invalid}
use Rattle.schedule_answers.specs.declared.checked.Invalid.TheVariants as invalid
use Rattle.schedule_answers.specs.declared.judged.Measured.{Measured}
use Rattle.schedule_answers.specs.declared.judged.Unlawful.{Unlawful}
use Rattle.response_fixpoint.specs.Rounds.{Ending, EndsIn}
use Rattle.response_fixpoint.specs.Runs.{rounds_of, RequestsNothing}
use Rattle.response_fixpoint.specs.Answers.{Answers, IsAnswerOf, IsRight, IsSchedulable}
use Rattle.response_fixpoint.specs.declared.verdict.Verdict.{Verdict}
use Rattle.response_fixpoint.specs.declared.verdict.Stop.{Stop}
use Rattle.response_fixpoint.specs.declared.verdict.Stop.TheVariants as stop
use Rattle.dual_check.specs.Answers.{Judges}
use Rattle.figure_laws.specs.Audited.{IsAudited}
use Rattle.protocol_names.specs.declared.ProtocolName.{ProtocolName}
use Rattle.named_laws.specs.Named.{rules_of, interference_of, charges_of, source_of, SoundUnder}

-- The answer of an analysis with this allowance is how the rounds end. Conversely, each end of the rounds gives its own answer and no
-- other, unless memory runs out. A verdict is right, and is "schedulable" if some bounds fit, and only then. No program is too wide if the
-- set requests nothing.
pub record IsAnalysed (f : SourceDef) (allowance : ℕ) (result : Result Verdict Stop) : Type 0 where
  pub rounds : Answers result f allowance
  pub only : (e : Ending) → EndsIn (rounds_of f) allowance e → IsAnswerOf result e
  pub right : IfOk result (λ verdict. IsRight verdict f)
  pub exactly : IfOk result (λ verdict. IsSchedulable verdict ↔ ((s : List ℕ) × AreFitting f s))
  pub never_wide : RequestsNothing f.set → (task : ℕ) → IsErrOf result (stop.Wide (record { 0 = task })) → ⊥

-- The answer on a certificate: it is valid and these are the values of its duals, or this is its first failure. A valid one is accepted,
-- unless memory runs out. What is accepted holds in every schedule of lawful jobs that keeps the protocol's rules.
pub record IsChecked (protocol : ProtocolName) (set : SetDef) (c : CertificateDef) (result : Result Valid Invalid) : Type 0 where
  pub judges : Judges result (source_of protocol set) c
  pub accepts : IsValid (source_of protocol set) c → IfErr result (λ e. e ≡ invalid.Memory)
  pub sound : IfOk result (λ v. SoundUnder protocol set c.bounds v.values.items)

-- The answer on rows of these jobs, and the answer on both a certificate and rows.
abbrev pub ConformsUnder : ProtocolName → JobsDef → RowsDef → Result Measured Unlawful → Type 0
ConformsUnder protocol jobs rows result =
    Conforms (rules_of protocol) (interference_of protocol) (trace_in jobs rows.runs) (ticks_of rows.runs) result

abbrev pub IsAuditedUnder : ProtocolName → CertificateDef → JobsDef → RowsDef → Result (Vec TaskFigures Global) AuditStop → Type 0
IsAuditedUnder protocol c jobs rows result = IsAudited (rules_of protocol) (interference_of protocol) (charges_of protocol)
    (source_of protocol jobs.set) c (trace_in jobs rows.runs) (ticks_of rows.runs) result
