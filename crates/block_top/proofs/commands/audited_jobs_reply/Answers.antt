use Rattle.cert_json.specs.File.{file_seen}
use Rattle.run_plans.specs.Commands.{auditing_rows}
use Rattle.command_inputs.specs.Inputs.{jobs_input}
use Rattle.program_form.specs.Certificate.{certificate_seen}
use Rattle.block_top.specs.Replying.{CanJudge}
use Rattle.sporadic_model.specs.SetDef.{SetDef}
use Rattle.std.proofs.Common.{sym, subst}
use Rattle.run_plans.proofs.ReplyLaws.{replied_got}
use Rattle.block_top.proofs.commands.audited_jobs_reply.Goals as goal

pub audited_rows_reply-requires : goal.audited_rows_reply-requires
audited_rows_reply-requires g c =
    subst (λ (s : SetDef). CanJudge c.args.protocol s (certificate_seen c.args.file.now.certificate)) (sym c.in_ok-jobs.ensures.holds)
    c.requires

pub returns-clause-reply : goal.returns-clause-reply
returns-clause-reply g c =
    replied_got (g.S.Shelf.seen c.args.shelf.now) (g.S.Shelf.seen c.get.new.shelf) (g.S.Shelf.seen c.audited_rows_reply.new.shelf)
    (jobs_input c.args.set.now) c.args.jobs.now
    (λ bytes list. auditing_rows c.args.protocol c.args.digest.now (file_seen c.args.file.now) c.args.rows.now list) c.in_ok-jobs.jobs
    c.audited_rows_reply.result
    c.get.ensures.keeps c.in_ok-jobs.ensures.got (λ works. absurd works) c.audited_rows_reply.ensures.reply
