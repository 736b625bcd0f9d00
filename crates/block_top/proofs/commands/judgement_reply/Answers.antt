use Rattle.std.proofs.Common.{refl}
use Rattle.cert_json.specs.File.{file_seen}
use Rattle.command_inputs.specs.Known.{Answer}
use Rattle.run_plans.specs.Plans.{Working}
use Rattle.command_inputs.specs.Inputs.{cert_input}
use Rattle.run_plans.specs.Commands.{IfTied, IsCheck, check_of}
use Rattle.run_plans.proofs.ReplyLaws.{replied_work}
use Rattle.block_top.proofs.commands.judgement_reply.Goals as goal

pub returns-clause-reply : goal.returns-clause-reply
returns-clause-reply g c =
    replied_work (g.S.Shelf.seen c.args.shelf.now) (g.S.Shelf.seen c.get.new.shelf) (cert_input c.args.protocol) c.args.certificate.now
    (λ bytes f. Working (check_of c.args.protocol c.args.digest.now c.args.set.now f)) (file_seen c.in_ok-file.file)
    (IfTied c.args.digest.now (file_seen c.in_ok-file.file) (IsCheck c.args.protocol c.args.set.now)) c.judgement.result
    c.get.ensures.keeps c.in_ok-file.ensures.got (λ (a : Answer) is. (is, refl)) c.judgement.ensures
