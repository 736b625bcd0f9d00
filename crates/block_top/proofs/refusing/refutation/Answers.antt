use Rattle.run_plans.proofs.RefusalReplyLaws.{refutation_replied, names_wide}
use Rattle.block_top.proofs.refusing.refutation.Goals as goal

pub refuting_reply-requires : goal.refuting_reply-requires
refuting_reply-requires c =
    names_wide c.args.protocol c.args.set.now c.args.allowance c.refute-answer.result c.refute-answer.ensures.rounds

pub returns : goal.returns
returns c = refutation_replied c.args.protocol c.args.digest.now c.args.set.now c.args.allowance c.refute-answer.result
    c.in_ok-refuting_reply.field-0 c.refute-answer.ensures.rounds c.in_ok-refuting_reply.ensures
