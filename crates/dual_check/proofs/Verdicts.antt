-- What an answer says of schedules.
use Rattle.std.proofs.Common.{ℕ, Bool, List, Ok, Err, IfOk}
use Rattle.std.specs.Prelude.{Result}
use Rattle.program_form.specs.Certificate.{CertificateDef}
use Rattle.schedule_model.specs.RowDef.{Trace}
use Rattle.schedule_model.specs.declared.rule.Rule.{Rule}
use Rattle.program_sources.specs.Recurrence.{SourceDef}
use Rattle.program_sources.specs.Valid.{IsValid}
use Rattle.soundness_laws.specs.Sound.{Sound}
use Rattle.soundness_laws.specs.Analyses.{AreValues}
use Rattle.dual_check.specs.Answers.{Judges}
use Rattle.schedule_answers.specs.declared.checked.Valid.{Valid}
use Rattle.schedule_answers.specs.declared.checked.Invalid.{Invalid}

-- What is Ok is sound where valid certificates are.
pub sound_where_valid : (keeps : Rule → Trace → ℕ → Type 0) (interferes : Trace → ℕ → ℕ → Bool) (f : SourceDef)
    (c : CertificateDef) (r : Result Valid Invalid)
    → ((values : List ℕ) → IsValid f c → AreValues f c values → Sound keeps interferes f.set c.bounds values) → Judges r f c
    → IfOk r (λ v. Sound keeps interferes f.set c.bounds v.values.items)
sound_where_valid keeps interferes f c (Ok v) sound (valid, values) = sound v.values.items valid values
sound_where_valid keeps interferes f c (Err e) sound judges = tt
