-- The reply, as contracts see it, before anything goes out.
use Rattle.std.specs.Prelude.{◌≡◌, List, ℕ, Result, Ok, Err, map}
use Rattle.outside_ports.specs.Ports.{ShelfDef}
use Rattle.program_form.specs.Certificate.{dual_seen}
use Rattle.sporadic_model.specs.SetDef.{SetDef}
use Rattle.protocol_names.specs.declared.ProtocolName.{ProtocolName}
use Rattle.response_fixpoint.specs.Rounds.{Schedulable, NotShown, Wide, Allowance}
use Rattle.response_fixpoint.specs.declared.verdict.Verdict.{Verdict}
use Rattle.response_fixpoint.specs.declared.verdict.Verdict.TheVariants as verdict
use Rattle.response_fixpoint.specs.declared.verdict.Stop.{Stop}
use Rattle.response_fixpoint.specs.declared.verdict.Stop.TheVariants as stop
use Rattle.command_inputs.specs.Known.{Answer, shown}
use Rattle.command_inputs.specs.Halts.{Answered}
use Rattle.command_inputs.specs.declared.halt.Reply.{Reply}
use Rattle.command_inputs.specs.declared.halt.Halt.{Halt}
use Rattle.run_plans.specs.Plans.{Plan}
use Rattle.run_plans.specs.Commands.{ending_answer}
use Rattle.run_plans.specs.Outcome.{IsReplyOf}

-- Is this the answer to an analysis with this result?
abbrev pub RepliesTo : ProtocolName → List ℕ → SetDef → Result Verdict Stop → Answer → Type 0
RepliesTo protocol digest set (Ok (verdict.Schedulable certificate)) answer =
    answer ≡ ending_answer protocol digest set (Schedulable certificate.bounds.items (map dual_seen certificate.duals.items))
RepliesTo protocol digest set (Ok (verdict.NotShown task bound)) answer = answer ≡ ending_answer protocol digest set (NotShown task.0 bound)
RepliesTo protocol digest set (Err (stop.Wide task)) answer = answer ≡ ending_answer protocol digest set (Wide task.0)
RepliesTo protocol digest set (Err stop.Allowance) answer = answer ≡ ending_answer protocol digest set Allowance
RepliesTo protocol digest set (Err stop.Memory) answer = ⊥

-- Is this a reply of the plan, if the shelf changes in this way? Running out of memory says nothing.
abbrev pub AnswersPlan : Result Reply Halt → ShelfDef → ShelfDef → Plan → Type 0
AnswersPlan result old new plan = Answered result (IsReplyOf (shown old new) plan)
