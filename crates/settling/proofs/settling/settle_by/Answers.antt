use Rattle.std.proofs.Common.{arith}
use Rattle.program_sources.specs.Recurrence.{SourceDef, source_at}
use Rattle.sporadic_model.proofs.Laws.{numbers_of_accepted}
use Rattle.response_fixpoint.proofs.RunLaws.{CostsFit}
use Rattle.settling.proofs.SmallSteps.{small_steps_of}
use Rattle.settling.proofs.AnswerLaws.{keeps_of, exactly_of}
use Rattle.settling.proofs.settling.settle_by.Goals as goal

pub returns : goal.returns
returns g c =
    let f : SourceDef = source_at (g.P.ProgramSource.source c.args.protocol.now) c.args.set.now in
    let fit : CostsFit f = λ i here.
    (let numbers = numbers_of_accepted c.args.set.now i c.keeps_the_model.ensures.accepted here in omega (arith, numbers.jitter_to)) in
    record {
      settles = c.settle.ensures.settles;
      keeps = keeps_of f c.args.allowance c.settle.result (c.the_rounds_have_one_ending.ensures f c.args.allowance) c.settle.ensures.settles;
      right = c.settle.ensures.right;
      exactly = exactly_of f c.settle.result c.settle.ensures.right;
      enough = c.settle.ensures.enough;
      names = c.settle.ensures.names;
      small_steps = small_steps_of f c.args.allowance c.settle.result fit c.settle.ensures.bits c.settle.ensures.settles c.settle.ensures.right;
    }
