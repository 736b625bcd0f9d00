use Rattle.std.proofs.Common.{refl}
use Rattle.schedule_model.specs.RowDef.{trace_in, ticks_of}
use Rattle.named_laws.specs.Named.{rules_of, interference_of}
use Rattle.command_inputs.specs.Known.{Answer}
use Rattle.run_plans.specs.Plans.{Working}
use Rattle.command_inputs.specs.Inputs.{rows_input}
use Rattle.run_plans.specs.Commands.{IsConformance, conformance_of}
use Rattle.run_plans.proofs.ReplyLaws.{replied_work}
use Rattle.block_top.proofs.commands.rows_reply.Goals as goal

pub returns-clause-reply : goal.returns-clause-reply
returns-clause-reply g c =
    replied_work (g.S.Shelf.seen c.args.shelf.now) (g.S.Shelf.seen c.get_rows.new.shelf) (rows_input c.args.jobs.now) c.args.rows.now
    (λ bytes d. Working (conformance_of c.args.protocol c.args.jobs.now d)) c.in_ok-rows.rows
    (IsConformance (rules_of c.args.protocol) (interference_of c.args.protocol) (trace_in c.args.jobs.now c.in_ok-rows.rows.runs)
    (ticks_of c.in_ok-rows.rows.runs)) c.conformance.result
    c.get_rows.ensures.keeps c.in_ok-rows.ensures.got (λ (a : Answer) is. (is, refl)) c.conformance.ensures
