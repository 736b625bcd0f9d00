-- The work of `settle`.
use Rattle.std.specs.Prelude.{◌≡◌, ℕ, ◌<◌, ◌⊎◌, List, length}
use Rattle.program_form.specs.Certificate.{CertificateDef}
use Rattle.program_sources.specs.Recurrence.{SourceDef}
use Rattle.sporadic_model.specs.SetDef.{SetDef, task_at}
use Rattle.protocol_names.specs.Names.{word_of}
use Rattle.protocol_names.specs.declared.ProtocolName.{ProtocolName}
use Rattle.response_fixpoint.specs.Rounds.{Ending, Schedulable, NotShown, EndsIn}
use Rattle.response_fixpoint.specs.Runs.{rounds_of}
use Rattle.refusal_laws.specs.Steps.{StepDef, Holds}
use Rattle.refusal_cert.specs.Refuting.{refuting}
use Rattle.refusal_cert.specs.Steps.{refusal_of}
use Rattle.settling.specs.Rising.{IsProvedLeast}
use Rattle.settling.specs.Answers.{IsNotShown, IsLeftOpen, IsWalkedTo, IsToRefuse, MayBeWide, MayWantMore}
use Rattle.settling.specs.Ways.{NoneNeedsMore}
use Rattle.cert_json.specs.Text.{certificate_text}
use Rattle.refusal_json.specs.Ranges.{IsWritable}
use Rattle.refusal_json.specs.Text.{refusal_text}
use Rattle.named_laws.specs.Named.{source_of}
use Rattle.reply_texts.specs.Texts.{wide_text, allowance_text}
use Rattle.command_inputs.specs.Known.{Answer}
use Rattle.run_plans.specs.Plans.{Work}

-- Does the certificate settle the set? Its bounds are the least that fit, and it is valid. No task needs more than 63 bits. It is that of
-- the analysis, or, if the analysis is wide, of the walk with exact points.
pub record IsSettledBy (f : SourceDef) (allowance : ℕ) (c : CertificateDef) : Type 0 where
  pub proved : IsProvedLeast f c
  pub enough : NoneNeedsMore f
  pub from : EndsIn (rounds_of f) allowance (Schedulable c.bounds c.duals)
      ⊎ IsWalkedTo f allowance c.bounds c.duals

-- Are these the steps of the rounds of refusals?
abbrev pub AreStepsOfRounds : SourceDef → ℕ → List StepDef → Type 0
AreStepsOfRounds f allowance steps = (i : ℕ) × (value : ℕ) × (ends : EndsIn (refuting f) allowance (NotShown i value))
    × (steps ≡ refusal_of (refuting f) allowance (NotShown i value) ends)

-- Does the refusal settle the set? It holds, and can be written. Its steps are those of the rounds of refusals, and the analysis doesn't
-- show the set. Or it is left to a walk to refuse it.
pub record IsRefusedBy (f : SourceDef) (allowance : ℕ) (steps : List StepDef) : Type 0 where
  pub holds : Holds f steps
  pub writable : IsWritable steps
  pub from : ((IsNotShown f allowance) × AreStepsOfRounds f allowance steps) ⊎ IsToRefuse f allowance

-- What goes out with a certificate, and with a refusal, of a set whose bytes have this digest.
abbrev pub settled_answer : ProtocolName → List ℕ → CertificateDef → Answer
settled_answer protocol digest c = record { status = 0; text = certificate_text (word_of protocol) digest c }

abbrev pub refused_answer : ProtocolName → List ℕ → List StepDef → Answer
refused_answer protocol digest steps = record { status = 1; text = refusal_text (word_of protocol) digest steps }

-- What goes out if a task's program isn't settled, and if units ran out.
abbrev pub unsettled_answer : SetDef → ℕ → Answer
unsettled_answer set i = record { status = 5; text = wide_text (task_at set i).name }

abbrev pub short_answer : Answer
short_answer = record { status = 6; text = allowance_text }

-- Is this an answer of `settle` with this allowance?
abbrev pub IsSettlement : ProtocolName → List ℕ → SetDef → ℕ → Answer → Type 0
IsSettlement protocol digest set allowance answer =
    ((c : CertificateDef) × (IsSettledBy (source_of protocol set) allowance c) × (answer ≡ settled_answer protocol digest c))
    ⊎ (((steps : List StepDef) × (IsRefusedBy (source_of protocol set) allowance steps) × (answer ≡ refused_answer protocol digest steps))
    ⊎ (((i : ℕ) × (i < length set.tasks) × (MayBeWide (source_of protocol set) allowance i) × (answer ≡ unsettled_answer set i))
    ⊎ ((MayWantMore (source_of protocol set) allowance) × (answer ≡ short_answer))))

-- It has status 0 or 1 if units may not be too few, and if no task may be left wide. If the rounds don't leave the set open, there is one
-- answer. If they do, there may be several, since a walk may refuse a set by any refusal that holds.
abbrev pub settlement_of : ProtocolName → List ℕ → SetDef → ℕ → Work
settlement_of protocol digest set allowance = record {
  answers = IsSettlement protocol digest set allowance;
  ends = (MayWantMore (source_of protocol set) allowance → ⊥) × ((i : ℕ) → MayBeWide (source_of protocol set) allowance i → ⊥);
  one = IsLeftOpen (source_of protocol set) allowance → ⊥;
}

-- How did rounds of `settle` end: those of the analysis, or those of refusals if the analysis doesn't show the set?
abbrev pub SettlingEnds : SourceDef → ℕ → Ending → Type 0
SettlingEnds f allowance e = (EndsIn (rounds_of f) allowance e) ⊎ ((IsNotShown f allowance) × EndsIn (refuting f) allowance e)
