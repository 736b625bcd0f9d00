use Rattle.run_plans.specs.Commands.{judging_rows}
use Rattle.command_inputs.specs.Inputs.{jobs_input}
use Rattle.named_laws.specs.Named.{HasHomes}
use Rattle.sporadic_model.specs.SetDef.{SetDef}
use Rattle.std.proofs.Common.{sym, subst}
use Rattle.run_plans.proofs.ReplyLaws.{replied_got}
use Rattle.block_top.proofs.commands.jobs_reply.Goals as goal

pub rows_reply-requires : goal.rows_reply-requires
rows_reply-requires g c = subst (λ (s : SetDef). HasHomes c.args.protocol s) (sym c.in_ok-jobs.ensures.holds) c.requires

pub returns-clause-reply : goal.returns-clause-reply
returns-clause-reply g c =
    replied_got (g.S.Shelf.seen c.args.shelf.now) (g.S.Shelf.seen c.get.new.shelf) (g.S.Shelf.seen c.rows_reply.new.shelf)
    (jobs_input c.args.set.now) c.args.jobs.now
    (λ bytes list. judging_rows c.args.protocol c.args.rows.now list) c.in_ok-jobs.jobs c.rows_reply.result
    c.get.ensures.keeps c.in_ok-jobs.ensures.got (λ works. absurd works) c.rows_reply.ensures.reply
