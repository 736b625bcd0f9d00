-- The works of the commands on refusals.
use Rattle.std.specs.Prelude.{◌≡◌, ℕ, ◌⊎◌, List}
use Rattle.sporadic_model.specs.SetDef.{SetDef, task_at}
use Rattle.protocol_names.specs.Names.{word_of}
use Rattle.protocol_names.specs.declared.ProtocolName.{ProtocolName}
use Rattle.response_fixpoint.specs.Rounds.{Ending, Schedulable, NotShown, Wide, Allowance, EndsIn}
use Rattle.refusal_laws.specs.Steps.{StepDef, Holds}
use Rattle.refusal_confirm.specs.Faults.{IsFault}
use Rattle.refusal_confirm.specs.declared.fault.Fault.{Fault}
use Rattle.refusal_cert.specs.Refuting.{refuting}
use Rattle.refusal_cert.specs.Steps.{refusal_of}
use Rattle.refusal_json.specs.Text.{refusal_text}
use Rattle.named_laws.specs.Named.{source_of}
use Rattle.reply_texts.specs.Texts.{wide_text, allowance_text}
use Rattle.reply_texts.specs.Refuted.{schedulable_text, confirmed_text, unconfirmed_text}
use Rattle.command_inputs.specs.Known.{Answer}
use Rattle.run_plans.specs.Plans.{Work}

-- What goes out if the rounds that refuse end in this way, with these steps of the refusal. The set's bytes have this digest.
abbrev pub refuting_answer : ProtocolName → List ℕ → SetDef → Ending → List StepDef → Answer
refuting_answer protocol digest set (Schedulable bounds points) steps = record { status = 1; text = schedulable_text }
refuting_answer protocol digest set (NotShown i value) steps =
    record { status = 0; text = refusal_text (word_of protocol) digest steps }
refuting_answer protocol digest set (Wide i) steps = record { status = 5; text = wide_text (task_at set i).name }
refuting_answer protocol digest set Allowance steps = record { status = 6; text = allowance_text }

-- The answer of those rounds with this allowance.
abbrev pub IsRefutation : ProtocolName → List ℕ → SetDef → ℕ → Answer → Type 0
IsRefutation protocol digest set allowance answer =
    (e : Ending) × (ends : EndsIn (refuting (source_of protocol set)) allowance e)
    × (answer ≡ refuting_answer protocol digest set e (refusal_of (refuting (source_of protocol set)) allowance e ends))

-- It has status 0 or 1 if the rounds come to a verdict.
abbrev pub refutation_of : ProtocolName → List ℕ → SetDef → ℕ → Work
refutation_of protocol digest set allowance = record {
  answers = IsRefutation protocol digest set allowance;
  ends = ((i : ℕ) → EndsIn (refuting (source_of protocol set)) allowance (Wide i) → ⊥)
      × (EndsIn (refuting (source_of protocol set)) allowance Allowance → ⊥);
  one = Unit {0};
}

-- The answer on a refusal: that it holds, or its first fault.
abbrev pub confirmed_answer : Answer
confirmed_answer = record { status = 0; text = confirmed_text }

abbrev pub unconfirmed_answer : Fault → Answer
unconfirmed_answer e = record { status = 1; text = unconfirmed_text e }

abbrev pub IsConfirmation : ProtocolName → SetDef → List StepDef → Answer → Type 0
IsConfirmation protocol set steps answer =
    (Holds (source_of protocol set) steps × (answer ≡ confirmed_answer))
    ⊎ ((e : Fault) × IsFault e (source_of protocol set) steps × (answer ≡ unconfirmed_answer e))
