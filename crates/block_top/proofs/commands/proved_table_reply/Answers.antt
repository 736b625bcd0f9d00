use Rattle.std.proofs.Common.{refl}
use Rattle.cert_json.specs.File.{file_seen}
use Rattle.command_inputs.specs.Known.{Answer}
use Rattle.run_plans.specs.Plans.{Working}
use Rattle.command_inputs.specs.Inputs.{cert_input}
use Rattle.run_plans.specs.Commands.{IfTied, IsFullTable, full_table_of}
use Rattle.run_plans.proofs.ReplyLaws.{replied_work}
use Rattle.block_top.proofs.commands.proved_table_reply.Goals as goal

pub returns-clause-reply : goal.returns-clause-reply
returns-clause-reply g c =
    replied_work (g.S.Shelf.seen c.args.shelf.now) (g.S.Shelf.seen c.get.new.shelf) (cert_input c.args.protocol) c.args.certificate.now
    (λ bytes f. Working (full_table_of c.args.protocol c.args.digest.now c.args.set.now f)) (file_seen c.in_ok-file.file)
    (IfTied c.args.digest.now (file_seen c.in_ok-file.file) (IsFullTable c.args.protocol c.args.set.now)) c.proved_table.result
    c.get.ensures.keeps c.in_ok-file.ensures.got (λ (a : Answer) is. (is, refl)) c.proved_table.ensures
