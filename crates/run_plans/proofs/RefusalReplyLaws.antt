-- The reply to `refute`, from its result, and what is known of a refusal that is read.
use Rattle.std.proofs.Common.{ℕ, List, ◌∙◌, ap, Ok, Err}
use Rattle.std.specs.Prelude.{Result}
use Rattle.sporadic_model.specs.SetDef.{SetDef}
use Rattle.protocol_names.specs.Names.{word_of}
use Rattle.protocol_names.specs.declared.ProtocolName.{ProtocolName}
use Rattle.response_fixpoint.specs.Rounds.{Schedulable, NotShown, Wide, Allowance}
use Rattle.refusal_laws.specs.Steps.{StepDef, no_step, HasDenominators}
use Rattle.refusal_cert.specs.Answers.{Refutes}
use Rattle.refusal_cert.specs.declared.answer.Answer.{Answer as Refutation}
use Rattle.refusal_cert.specs.declared.answer.Answer.TheVariants as refutation
use Rattle.refusal_cert.specs.declared.answer.RefuteStop.{RefuteStop}
use Rattle.refusal_cert.specs.declared.answer.RefuteStop.TheVariants as stop
use Rattle.refusal_json.specs.Ranges.{HasSmallPoints}
use Rattle.refusal_json.specs.Text.{refusal_text}
use Rattle.named_laws.specs.Named.{source_of}
use Rattle.command_inputs.specs.Known.{Answer}
use Rattle.run_plans.specs.Refuting.{IsRefutation}
use Rattle.command_inputs.specs.Halts.{reply_seen}
use Rattle.run_plans.specs.RefusalReplies.{NamesWide, RepliesToRefutation}
use Rattle.command_inputs.specs.declared.halt.Reply.{Reply}

refutation_of_answer : (p : ProtocolName) (digest : List ℕ) (set : SetDef) (n : ℕ) (r : Result Refutation RefuteStop) (a : Answer)
    → Refutes r (source_of p set) n → RepliesToRefutation p digest set r a → IsRefutation p digest set n a
refutation_of_answer p digest set n (Ok (refutation.Refused refusal)) a (i, value, ends, steps) is = (
  NotShown i value,
  ends,
  is ∙ ap (λ (s : List StepDef). record { status = 0; text = refusal_text (word_of p) digest s }) steps,
)
refutation_of_answer p digest set n (Ok refutation.Schedulable) a (bounds, points, ends) is = (Schedulable bounds points, ends, is)
refutation_of_answer p digest set n (Err (stop.Wide task)) a ends is = (Wide task.0, ends, is)
refutation_of_answer p digest set n (Err stop.Allowance) a ends is = (Allowance, ends, is)
refutation_of_answer p digest set n (Err stop.Memory) a ends is = absurd is

pub refutation_replied : (p : ProtocolName) (digest : List ℕ) (set : SetDef) (n : ℕ) (r : Result Refutation RefuteStop) (reply : Reply)
    → Refutes r (source_of p set) n → RepliesToRefutation p digest set r (reply_seen reply) → IsRefutation p digest set n (reply_seen reply)
refutation_replied p digest set n r reply ends is = refutation_of_answer p digest set n r (reply_seen reply) ends is

pub names_wide : (p : ProtocolName) (set : SetDef) (n : ℕ) (r : Result Refutation RefuteStop) → Refutes r (source_of p set) n
    → NamesWide set r
names_wide p set n (Ok (refutation.Refused refusal)) ends = tt
names_wide p set n (Ok refutation.Schedulable) ends = tt
names_wide p set n (Err (stop.Wide task)) ends = ends.3
names_wide p set n (Err stop.Allowance) ends = tt
names_wide p set n (Err stop.Memory) ends = tt

-- The points of a refusal that is read have denominators of at least 1.
pub small_denominators : (steps : List StepDef) → HasSmallPoints steps → HasDenominators steps
small_denominators steps small = λ k here. (small k no_step here).positive
