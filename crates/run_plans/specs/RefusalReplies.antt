-- What contracts see of an answer to `refute` before it goes out.
use Rattle.std.specs.Prelude.{◌≡◌, ℕ, ◌<◌, List, length, Result, Ok, Err}
use Rattle.sporadic_model.specs.SetDef.{SetDef, task_at}
use Rattle.protocol_names.specs.Names.{word_of}
use Rattle.protocol_names.specs.declared.ProtocolName.{ProtocolName}
use Rattle.refusal_laws.specs.Seen.{steps_seen}
use Rattle.refusal_cert.specs.declared.answer.Answer.{Answer as Refutation}
use Rattle.refusal_cert.specs.declared.answer.Answer.TheVariants as refutation
use Rattle.refusal_cert.specs.declared.answer.RefuteStop.{RefuteStop}
use Rattle.refusal_cert.specs.declared.answer.RefuteStop.TheVariants as stop
use Rattle.refusal_json.specs.Text.{refusal_text}
use Rattle.reply_texts.specs.Texts.{wide_text, allowance_text}
use Rattle.reply_texts.specs.Refuted.{schedulable_text}
use Rattle.command_inputs.specs.Known.{Answer}

-- Is the task that the stop names, if any, a task of the set?
abbrev pub NamesWide : SetDef → Result Refutation RefuteStop → Type 0
NamesWide set (Err (stop.Wide task)) = task.0 < length set.tasks
NamesWide set _ = Unit {0}

-- Is this the answer to `refute` with this result? Running out of memory has none.
abbrev pub RepliesToRefutation : ProtocolName → List ℕ → SetDef → Result Refutation RefuteStop → Answer → Type 0
RepliesToRefutation protocol digest set (Ok (refutation.Refused refusal)) answer =
    answer ≡ record { status = 0; text = refusal_text (word_of protocol) digest (steps_seen refusal) }
RepliesToRefutation protocol digest set (Ok refutation.Schedulable) answer = answer ≡ record { status = 1; text = schedulable_text }
RepliesToRefutation protocol digest set (Err (stop.Wide task)) answer =
    answer ≡ record { status = 5; text = wide_text (task_at set task.0).name }
RepliesToRefutation protocol digest set (Err stop.Allowance) answer = answer ≡ record { status = 6; text = allowance_text }
RepliesToRefutation protocol digest set (Err stop.Memory) answer = ⊥
