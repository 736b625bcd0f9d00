use Rattle.command_inputs.specs.Halts.{reply_seen}
use Rattle.run_plans.proofs.SettlementReplyLaws.{settlement_of_answer}
use Rattle.block_top.proofs.deciding.settlement.Goals as goal

pub returns : goal.returns
returns g c = settlement_of_answer c.args.protocol c.args.digest.now c.args.set.now c.args.allowance c.settle-answer.result
    (reply_seen c.in_ok-settling_reply.field-0) c.settle-answer.ensures c.in_ok-settling_reply.ensures
