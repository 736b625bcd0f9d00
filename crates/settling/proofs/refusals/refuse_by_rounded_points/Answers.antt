use Rattle.std.proofs.Common.{inr, subst, arith}
use Rattle.program_sources.specs.Recurrence.{SourceDef, source_at}
use Rattle.settling.specs.Rising.{IsFixed, Rises, duals_found}
use Rattle.settling.specs.declared.finding.Points.TheVariants.{Rounded}
use Rattle.settling.specs.declared.rising.Risen.{Risen}
use Rattle.settling.proofs.AnswerLaws.{answers_refused, answers_rounded_stop, answers_unrefuted}
use Rattle.settling.proofs.refusals.refuse_by_rounded_points.Goals as goal

pub returns-in-Ok-Late-Some : goal.returns-in-Ok-Late-Some
returns-in-Ok-Late-Some g c =
    let f : SourceDef = source_at (g.P.ProgramSource.source c.args.protocol.now) c.args.set.now in
    answers_refused f c.args.allowance c.answer_refusal.result c.requires.left c.answer_refusal.ensures

pub returns-in-Ok-Fixed : goal.returns-in-Ok-Fixed
returns-in-Ok-Fixed g c =
    let f : SourceDef = source_at (g.P.ProgramSource.source c.args.protocol.now) c.args.set.now in
    let own = c.in-Ok-Fixed in
    let fixed : IsFixed Rounded f c.args.allowance own.field-0-0.items own.field-0-1.items =
    subst (λ (x : Risen). Rises Rounded f c.args.allowance x) own.field-0-is own.ensures.rises in
    answers_unrefuted f c.args.allowance c.args.task c.requires.left (inr (own.field-0-0.items, duals_found own.field-0-1.items, fixed.ends))
    (omega (arith, c.requires.task))

pub returns : goal.returns
returns g c =
    let f : SourceDef = source_at (g.P.ProgramSource.source c.args.protocol.now) c.args.set.now in
    answers_rounded_stop f c.args.allowance c.in-Err.stop c.requires.left c.in-Err.ensures.stops
