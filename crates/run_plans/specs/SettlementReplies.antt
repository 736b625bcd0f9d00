-- What contracts see of an answer to `settle` before it goes out.
use Rattle.std.specs.Prelude.{◌≡◌, ℕ, List, Result, Ok, Err}
use Rattle.program_form.specs.Certificate.{certificate_seen}
use Rattle.sporadic_model.specs.SetDef.{SetDef}
use Rattle.protocol_names.specs.declared.ProtocolName.{ProtocolName}
use Rattle.refusal_laws.specs.Seen.{steps_seen}
use Rattle.settling.specs.declared.answer.Settled.{Settled}
use Rattle.settling.specs.declared.answer.Settled.TheVariants as settled
use Rattle.settling.specs.declared.answer.SettleStop.{SettleStop}
use Rattle.settling.specs.declared.answer.SettleStop.TheVariants as stop
use Rattle.command_inputs.specs.Known.{Answer}
use Rattle.run_plans.specs.Settling.{settled_answer, refused_answer, unsettled_answer, short_answer}

-- Is this the answer to `settle` with this result? Running out of memory has none.
abbrev pub RepliesToSettling : ProtocolName → List ℕ → SetDef → Result Settled SettleStop → Answer → Type 0
RepliesToSettling protocol digest set (Ok (settled.Schedulable certificate)) answer =
    answer ≡ settled_answer protocol digest (certificate_seen certificate)
RepliesToSettling protocol digest set (Ok (settled.Refused refusal)) answer = answer ≡ refused_answer protocol digest (steps_seen refusal)
RepliesToSettling protocol digest set (Err (stop.Wide task)) answer = answer ≡ unsettled_answer set task.0
RepliesToSettling protocol digest set (Err stop.Allowance) answer = answer ≡ short_answer
RepliesToSettling protocol digest set (Err stop.Memory) answer = ⊥
