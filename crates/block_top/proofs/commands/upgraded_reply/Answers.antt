use Rattle.std.proofs.Common.{refl}
use Rattle.program_form.specs.Certificate.{certificate_seen}
use Rattle.command_inputs.specs.Known.{Answer}
use Rattle.run_plans.specs.Plans.{Working}
use Rattle.command_inputs.specs.Inputs.{old_cert_input}
use Rattle.run_plans.specs.Commands.{IsJudgement, upgraded_answer, upgrade_of}
use Rattle.run_plans.proofs.ReplyLaws.{replied_work}
use Rattle.block_top.proofs.commands.upgraded_reply.Goals as goal

pub returns-clause-reply : goal.returns-clause-reply
returns-clause-reply g c =
    replied_work (g.S.Shelf.seen c.args.shelf.now) (g.S.Shelf.seen c.get.new.shelf) (old_cert_input c.args.protocol)
    c.args.certificate.now (λ bytes d. Working (upgrade_of c.args.protocol c.args.digest.now c.args.set.now d))
    (certificate_seen c.in_ok-certificate.certificate)
    (IsJudgement c.args.protocol c.args.set.now (certificate_seen c.in_ok-certificate.certificate)
    (upgraded_answer c.args.protocol c.args.digest.now (certificate_seen c.in_ok-certificate.certificate))) c.upgrade.result
    c.get.ensures.keeps c.in_ok-certificate.ensures.got (λ (a : Answer) is. (is, refl)) c.upgrade.ensures
