-- The reply to `settle`, from its result.
use Rattle.std.proofs.Common.{ℕ, List, arith, inl, inr, ◌⊎◌, Ok, Err}
use Rattle.std.specs.Prelude.{Result, slice_index_or}
use Rattle.program_form.specs.Certificate.{certificate_seen}
use Rattle.sporadic_model.specs.SetDef.{SetDef}
use Rattle.protocol_names.specs.declared.ProtocolName.{ProtocolName}
use Rattle.refusal_laws.specs.Steps.{StepDef}
use Rattle.refusal_laws.specs.Seen.{steps_seen}
use Rattle.refusal_laws.specs.declared.refusal.Refusal.{Refusal}
use Rattle.refusal_cert.specs.Answers.{Refutes}
use Rattle.refusal_cert.specs.declared.answer.Answer.TheVariants as refutation
use Rattle.refusal_json.specs.Ranges.{IsWritableStep, IsWritable}
use Rattle.named_laws.specs.Named.{source_of}
use Rattle.settling.specs.Answers.{IsAnswerFor, IsNotShown, IsToRefuse, IsSmallStep, HasSmallSteps}
use Rattle.settling.specs.Trails.{HasSmallPoints}
use Rattle.settling.specs.declared.answer.Settled.{Settled}
use Rattle.settling.specs.declared.answer.Settled.TheVariants as settled
use Rattle.settling.specs.declared.answer.SettleStop.{SettleStop}
use Rattle.settling.specs.declared.answer.SettleStop.TheVariants as stop
use Rattle.command_inputs.specs.Known.{Answer}
use Rattle.run_plans.specs.Settling.{AreStepsOfRounds, IsSettlement}
use Rattle.run_plans.specs.SettlementReplies.{RepliesToSettling}

-- A refusal with small steps can be written.
step_writable : (s : StepDef) → IsSmallStep s → IsWritableStep s
step_writable s small = record {
  task = small.task;
  value = small.value;
  point = record {
    positive = small.positive;
    small = omega (arith, small.point.den);
    numerators = λ m z there. omega (arith, small.point.num m z there);
  };
}

steps_writable : (steps : List StepDef) → HasSmallSteps steps → IsWritable steps
steps_writable steps small = λ k d here. step_writable (slice_index_or steps k d) (small k d here)

refused_from : (p : ProtocolName) (set : SetDef) (n : ℕ) (refusal : Refusal)
    → ((IsNotShown (source_of p set) n) × Refutes (Ok (refutation.Refused refusal)) (source_of p set) n)
    ⊎ ((IsToRefuse (source_of p set) n) × HasSmallPoints (steps_seen refusal))
    → ((IsNotShown (source_of p set) n) × AreStepsOfRounds (source_of p set) n (steps_seen refusal)) ⊎ IsToRefuse (source_of p set) n
refused_from p set n refusal (inl (late, rounds)) = inl (late, rounds)
refused_from p set n refusal (inr (to, small)) = inr to

pub settlement_of_answer : (p : ProtocolName) (digest : List ℕ) (set : SetDef) (n : ℕ) (r : Result Settled SettleStop) (a : Answer)
    → IsAnswerFor (source_of p set) n r → RepliesToSettling p digest set r a → IsSettlement p digest set n a
settlement_of_answer p digest set n (Ok (settled.Schedulable c)) a answers is =
    inl (certificate_seen c, record { proved = answers.right; enough = answers.enough; from = answers.settles }, is)
settlement_of_answer p digest set n (Ok (settled.Refused refusal)) a answers is = inr (inl (
  steps_seen refusal,
  record {
    holds = answers.right.0;
    writable = steps_writable (steps_seen refusal) answers.small_steps;
    from = refused_from p set n refusal answers.settles;
  },
  is,
))
settlement_of_answer p digest set n (Err (stop.Wide task)) a answers is =
    inr (inr (inl (task.0, answers.names, answers.settles, is)))
settlement_of_answer p digest set n (Err stop.Allowance) a answers is = inr (inr (inr (answers.settles, is)))
settlement_of_answer p digest set n (Err stop.Memory) a answers is = absurd is
