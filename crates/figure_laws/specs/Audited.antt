-- What the answer on a schedule and a certificate says.
use Rattle.std.specs.Prelude.{◌≡◌, ℕ, ◌+◌, ◌<◌, ◌≤◌, Bool, length, slice_index, slice_index_or, Option, Result, Ok, Err, IfOk, IfSome}
use Rattle.std.specs.Global.{Global}
use Rattle.std.specs.List.{All}
use Rattle.std.specs.declared.vec.Vec.{Vec}
use Rattle.program_form.specs.Certificate.{CertificateDef}
use Rattle.schedule_model.specs.RowDef.{Trace}
use Rattle.schedule_model.specs.Keeping.{KeepsBefore, IsFirstUnlawful}
use Rattle.schedule_model.specs.declared.rule.Rule.{Rule}
use Rattle.program_sources.specs.Recurrence.{SourceDef}
use Rattle.program_sources.specs.Valid.{IsValid, value_at}
use Rattle.charge_laws.specs.Charges.{Charge}
use Rattle.schedule_answers.specs.Failures.{IsFailure}
use Rattle.schedule_answers.specs.declared.audited.TaskFigures.{TaskFigures}
use Rattle.schedule_answers.specs.declared.audited.AuditStop.{AuditStop}
use Rattle.schedule_answers.specs.declared.audited.AuditStop.TheVariants as stop
use Rattle.schedule_answers.specs.TaskAnswers.{no_figures}
use Rattle.figure_laws.specs.Figures.{AreFigures, blocked_sum, blocked_ticks}

-- Figures: the certificate is valid, each of the n rows keeps the rules, and these are the figures of each task. Invalid: this is why
-- the certificate is not valid. Broken: the certificate is valid, and this is the first row that breaks a rule, with its first broken
-- rule. Running out of memory says nothing.
abbrev pub Audits : (Rule → Trace → ℕ → Type 0) → (Trace → ℕ → ℕ → Bool) → (Trace → ℕ → ℕ → Option Charge) → SourceDef → CertificateDef
    → Trace → ℕ → Result (Vec TaskFigures Global) AuditStop → Type 0
Audits keeps interferes charges f c w n (Ok figures) =
    IsValid f c × KeepsBefore keeps w n × AreFigures charges interferes w (slice_index c.bounds) (value_at f c) n figures.items
Audits keeps interferes charges f c w n (Err (stop.Invalid e)) = IsFailure e f c
Audits keeps interferes charges f c w n (Err (stop.Broken b)) = IsValid f c × IsFirstUnlawful keeps w n b.tick b.rule
Audits keeps interferes charges f c w n (Err stop.Memory) = Unit {0}

-- Is the response, if there is one, at most the bound? And is the blocking at most the value?
pub record LieWithin (f : TaskFigures) : Type 0 where
  pub response : IfSome f.response (λ r. r ≤ f.bound)
  pub blocking : f.blocking ≤ f.value

-- The ticks of all three classes.
abbrev pub charged_ticks : TaskFigures → ℕ
charged_ticks f = f.direct + (f.indirect + f.preemption)

-- What the answer on a schedule and a certificate is: the figures, or why there are none. If there are figures, each task's response is
-- within its bound and its blocking within its value. The ticks of its three classes add up to those at which its jobs are blocked in
-- their windows. They also add up to those at which its jobs are blocked at all.
pub record IsAudited (keeps : Rule → Trace → ℕ → Type 0) (interferes : Trace → ℕ → ℕ → Bool) (charges : Trace → ℕ → ℕ → Option Charge)
    (f : SourceDef) (c : CertificateDef) (w : Trace) (n : ℕ) (result : Result (Vec TaskFigures Global) AuditStop) : Type 0 where
  pub audits : Audits keeps interferes charges f c w n result
  pub within : IfOk result (λ v. All LieWithin v.items)
  pub adds_up : IfOk result (λ v. (x : ℕ) → x < length w.set.tasks
      → charged_ticks (slice_index_or v.items x no_figures) ≡ blocked_sum interferes w (slice_index c.bounds) n x)
  pub adds_up_to_all : IfOk result (λ v. (x : ℕ) → x < length w.set.tasks
      → charged_ticks (slice_index_or v.items x no_figures) ≡ blocked_ticks interferes w n x)
