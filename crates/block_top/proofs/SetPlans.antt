-- Every command on a set begins with the set.
use Rattle.std.proofs.Common.{ℕ, List}
use Rattle.protocol_names.specs.declared.ProtocolName.{ProtocolName}
use Rattle.sporadic_model.specs.SetDef.{SetDef}
use Rattle.outside_ports.specs.Ports.{ShelfDef}
use Rattle.command_words.specs.declared.words.PlainWork.{PlainWork}
use Rattle.command_words.specs.declared.words.PlainWork.TheVariants as plain
use Rattle.command_words.specs.declared.words.TiedWork.{TiedWork}
use Rattle.command_words.specs.declared.words.TiedWork.TheVariants as tied
use Rattle.command_words.specs.FormSeen.{plain_form, tied_form}
use Rattle.run_plans.specs.Plans.{Plan, Reading}
use Rattle.command_inputs.specs.Inputs.{set_input}
use Rattle.run_plans.specs.Commands.{plan_of}
use Rattle.command_inputs.specs.Known.{shown}
use Rattle.run_plans.specs.Outcome.{IsReplyOf}
use Rattle.command_inputs.specs.Got.{IsUngot}
use Rattle.command_inputs.specs.Halts.{HaltsWith}
use Rattle.command_inputs.specs.declared.halt.Halt.{Halt}
use Rattle.run_plans.proofs.ReplyLaws.{replied_ungot}

begins_plain : (P : Plan → Type 0) (protocol : ProtocolName) (name : List ℕ) (w : PlainWork)
    → ((next : List ℕ → SetDef → Plan) → P (Reading (set_input protocol) name next)) → P (plan_of (plain_form protocol name w))
begins_plain P protocol name plain.Report holds = holds _
begins_plain P protocol name (plain.Conform jobs rows) holds = holds _
begins_plain P protocol name (plain.Simulate jobs ticks) holds = holds _

begins_tied : (P : Plan → Type 0) (protocol : ProtocolName) (name : List ℕ) (w : TiedWork)
    → ((next : List ℕ → SetDef → Plan) → P (Reading (set_input protocol) name next)) → P (plan_of (tied_form protocol name w))
begins_tied P protocol name (tied.Analyse allowance) holds = holds _
begins_tied P protocol name (tied.Refute allowance) holds = holds _
begins_tied P protocol name (tied.Settle allowance) holds = holds _
begins_tied P protocol name (tied.Check certificate) holds = holds _
begins_tied P protocol name (tied.Confirm refusal) holds = holds _
begins_tied P protocol name (tied.Upgrade certificate) holds = holds _
begins_tied P protocol name (tied.FullReport certificate) holds = holds _
begins_tied P protocol name (tied.Audit inputs) holds = holds _

-- So the answer to a set that gives nothing is the reply to each command.
pub ungot_plain : (old new : ShelfDef) (protocol : ProtocolName) (name : List ℕ) (w : PlainWork) (h : Halt)
    → HaltsWith h (IsUngot (shown old new) (set_input protocol) name)
    → HaltsWith h (IsReplyOf (shown old new) (plan_of (plain_form protocol name w)))
ungot_plain old new protocol name w h says = begins_plain (λ plan. HaltsWith h (IsReplyOf (shown old new) plan)) protocol name w
    (λ next. replied_ungot (shown old new) (set_input protocol) name next h says)

pub ungot_tied : (old new : ShelfDef) (protocol : ProtocolName) (name : List ℕ) (w : TiedWork) (h : Halt)
    → HaltsWith h (IsUngot (shown old new) (set_input protocol) name)
    → HaltsWith h (IsReplyOf (shown old new) (plan_of (tied_form protocol name w)))
ungot_tied old new protocol name w h says = begins_tied (λ plan. HaltsWith h (IsReplyOf (shown old new) plan)) protocol name w
    (λ next. replied_ungot (shown old new) (set_input protocol) name next h says)
