use Rattle.std.proofs.Common.{refl, sym, subst}
use Rattle.command_inputs.specs.Known.{Answer}
use Rattle.command_inputs.specs.Inputs.{set_input}
use Rattle.command_words.specs.declared.words.PlainWork.{PlainWork}
use Rattle.command_words.specs.FormSeen.{plain_form}
use Rattle.run_plans.specs.Plans.{Working}
use Rattle.run_plans.specs.Commands.{IsTable, table_of, judging_jobs, simulating_jobs, plan_of}
use Rattle.run_plans.specs.Replies.{AnswersPlan}
use Rattle.run_plans.proofs.ReplyLaws.{replied_got, replied_work}
use Rattle.block_top.proofs.commands.plain_reply.Goals as goal

pub returns-in-Report-clause-reply : goal.returns-in-Report-clause-reply
returns-in-Report-clause-reply g c =
    subst (λ (w : PlainWork). AnswersPlan c.table.result (g.S.Shelf.seen c.args.shelf.now) (g.S.Shelf.seen c.get.new.shelf)
    (plan_of (plain_form c.args.protocol c.args.name.now w))) (sym c.in-Report.is)
    (replied_work (g.S.Shelf.seen c.args.shelf.now) (g.S.Shelf.seen c.get.new.shelf) (set_input c.args.protocol) c.args.name.now
    (λ bytes set. Working (table_of set)) c.in_ok-set.set (IsTable c.in_ok-set.set) c.table.result c.get.ensures.keeps
    c.in_ok-set.ensures.got (λ (a : Answer) is. (is, refl)) c.table.ensures)

pub returns-in-Conform-clause-reply : goal.returns-in-Conform-clause-reply
returns-in-Conform-clause-reply g c =
    subst (λ (w : PlainWork). AnswersPlan c.jobs_reply.result (g.S.Shelf.seen c.args.shelf.now) (g.S.Shelf.seen c.jobs_reply.new.shelf)
    (plan_of (plain_form c.args.protocol c.args.name.now w))) (sym c.in-Conform.is)
    (replied_got (g.S.Shelf.seen c.args.shelf.now) (g.S.Shelf.seen c.get.new.shelf) (g.S.Shelf.seen c.jobs_reply.new.shelf)
    (set_input c.args.protocol) c.args.name.now
    (λ bytes set. judging_jobs c.args.protocol c.in-Conform.jobs.now c.in-Conform.rows.now set) c.in_ok-set.set c.jobs_reply.result
    c.get.ensures.keeps c.in_ok-set.ensures.got (λ works. absurd works) c.jobs_reply.ensures.reply)

pub returns-clause-reply : goal.returns-clause-reply
returns-clause-reply g c =
    subst (λ (w : PlainWork). AnswersPlan c.simulated_reply.result (g.S.Shelf.seen c.args.shelf.now) (g.S.Shelf.seen c.simulated_reply.new.shelf)
    (plan_of (plain_form c.args.protocol c.args.name.now w))) (sym c.in-Simulate.is)
    (replied_got (g.S.Shelf.seen c.args.shelf.now) (g.S.Shelf.seen c.get.new.shelf) (g.S.Shelf.seen c.simulated_reply.new.shelf)
    (set_input c.args.protocol) c.args.name.now
    (λ bytes set. simulating_jobs c.args.protocol c.in-Simulate.jobs.now c.in-Simulate.ticks set) c.in_ok-set.set c.simulated_reply.result
    c.get.ensures.keeps c.in_ok-set.ensures.got (λ works. absurd works) c.simulated_reply.ensures.reply)
