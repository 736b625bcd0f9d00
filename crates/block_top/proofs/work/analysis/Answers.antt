use Rattle.run_plans.proofs.ReplyLaws.{analysis_replied, names_task}
use Rattle.block_top.proofs.work.analysis.Goals as goal

pub verdict_reply-requires : goal.verdict_reply-requires
verdict_reply-requires g c =
    names_task c.args.protocol c.args.set.now c.args.allowance c.analyse-verdict.result c.analyse-verdict.ensures.rounds

pub returns : goal.returns
returns g c = analysis_replied c.args.protocol c.args.digest.now c.args.set.now c.args.allowance c.analyse-verdict.result
    c.in_ok-verdict_reply.field-0 c.analyse-verdict.ensures.rounds c.in_ok-verdict_reply.ensures
