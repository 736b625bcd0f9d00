use Rattle.cert_json.specs.File.{file_seen}
use Rattle.run_plans.specs.Commands.{auditing_jobs}
use Rattle.command_inputs.specs.Inputs.{cert_input}
use Rattle.run_plans.proofs.ReplyLaws.{replied_got}
use Rattle.block_top.proofs.commands.audited_reply.Goals as goal

pub returns-clause-reply : goal.returns-clause-reply
returns-clause-reply g c =
    replied_got (g.S.Shelf.seen c.args.shelf.now) (g.S.Shelf.seen c.get.new.shelf) (g.S.Shelf.seen c.audited_jobs_reply.new.shelf)
    (cert_input c.args.protocol) c.args.inputs.certificate.now
    (λ bytes f. auditing_jobs c.args.protocol c.args.digest.now f c.args.inputs.jobs.now c.args.inputs.rows.now c.args.set.now)
    (file_seen c.in_ok-file.file) c.audited_jobs_reply.result
    c.get.ensures.keeps c.in_ok-file.ensures.got (λ works. absurd works) c.audited_jobs_reply.ensures.reply
