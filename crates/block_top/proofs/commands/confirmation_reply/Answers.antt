use Rattle.std.proofs.Common.{refl}
use Rattle.command_inputs.specs.Known.{Answer}
use Rattle.run_plans.specs.Plans.{Working}
use Rattle.command_inputs.specs.RefusalDef.{RefusalDef}
use Rattle.command_inputs.specs.RefusalSeen.{refusal_seen}
use Rattle.command_inputs.specs.Inputs.{refusal_input}
use Rattle.run_plans.specs.Commands.{IsTiedConfirmation, confirmation_of}
use Rattle.run_plans.proofs.ReplyLaws.{replied_work}
use Rattle.block_top.proofs.commands.confirmation_reply.Goals as goal

pub returns-clause-reply : goal.returns-clause-reply
returns-clause-reply g c =
    let file : RefusalDef = refusal_seen c.in_ok-refusal.refusal c.in_ok-refusal.own in
    replied_work (g.S.Shelf.seen c.args.shelf.now) (g.S.Shelf.seen c.get.new.shelf) (refusal_input c.args.protocol) c.args.cert.now
    (λ bytes f. Working (confirmation_of c.args.protocol c.args.digest.now c.args.set.now f)) file
    (IsTiedConfirmation c.args.protocol c.args.digest.now c.args.set.now file) c.confirmation.result
    c.get.ensures.keeps c.in_ok-refusal.ensures.got (λ (a : Answer) is. (is, refl)) c.confirmation.ensures
