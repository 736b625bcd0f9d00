use Rattle.std.proofs.Common.{refl}
use Rattle.cert_json.specs.File.{file_seen}
use Rattle.command_inputs.specs.Known.{Answer}
use Rattle.run_plans.specs.Plans.{Working}
use Rattle.command_inputs.specs.Inputs.{rows_input}
use Rattle.run_plans.specs.Commands.{IfTied, IsAuditOf, audit_of}
use Rattle.run_plans.proofs.ReplyLaws.{replied_work}
use Rattle.block_top.proofs.commands.audited_rows_reply.Goals as goal

pub returns-clause-reply : goal.returns-clause-reply
returns-clause-reply g c =
    replied_work (g.S.Shelf.seen c.args.shelf.now) (g.S.Shelf.seen c.get_rows.new.shelf) (rows_input c.args.jobs.now) c.args.rows.now
    (λ bytes d. Working (audit_of c.args.protocol c.args.digest.now (file_seen c.args.file.now) c.args.jobs.now d)) c.in_ok-rows.rows
    (IfTied c.args.digest.now (file_seen c.args.file.now) (IsAuditOf c.args.protocol c.args.jobs.now c.in_ok-rows.rows)) c.audit.result
    c.get_rows.ensures.keeps c.in_ok-rows.ensures.got (λ (a : Answer) is. (is, refl)) c.audit.ensures
