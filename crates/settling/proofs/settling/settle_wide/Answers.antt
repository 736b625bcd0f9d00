use Rattle.std.proofs.Common.{arith}
use Rattle.program_sources.specs.Recurrence.{SourceDef, source_at}
use Rattle.settling.proofs.AnswerLaws.{answers_refused, answers_stop, to_refuse_of, wide_within}
use Rattle.settling.proofs.BitLaws.{wide_needs_more}
use Rattle.settling.proofs.settling.settle_wide.Goals as goal

pub returns-in-Ok-Late-Some : goal.returns-in-Ok-Late-Some
returns-in-Ok-Late-Some g c =
    let f : SourceDef = source_at (g.P.ProgramSource.source c.args.protocol.now) c.args.set.now in
    let own = c.in-Ok-Late-Some in
    let to = to_refuse_of f c.args.allowance own.field-0 own.field-0-0 (c.args.task.0, c.requires.wide) own.ensures.rises own.field-0-is in
    answers_refused f c.args.allowance c.answer_refusal.result to c.answer_refusal.ensures

pub refuse_by_rounded_points-requires-clause-task : goal.refuse_by_rounded_points-requires-clause-task
refuse_by_rounded_points-requires-clause-task g c =
    let f : SourceDef = source_at (g.P.ProgramSource.source c.args.protocol.now) c.args.set.now in
    omega (arith, wide_within f c.args.allowance c.args.task.0 c.requires.wide)

pub refuse_by_rounded_points-requires-clause-left : goal.refuse_by_rounded_points-requires-clause-left
refuse_by_rounded_points-requires-clause-left g c =
    let f : SourceDef = source_at (g.P.ProgramSource.source c.args.protocol.now) c.args.set.now in
    let own = c.in-Ok-Late-None in
    λ κs h. to_refuse_of f c.args.allowance own.field-0 own.field-0-0 (c.args.task.0, c.requires.wide) own.ensures.rises own.field-0-is

pub returns-in-Err : goal.returns-in-Err
returns-in-Err g c =
    let f : SourceDef = source_at (g.P.ProgramSource.source c.args.protocol.now) c.args.set.now in
    let above = c.recurrence_is_monotone.ensures.reached c.args.protocol.now c.args.set.now c.requires.serves in
    answers_stop f c.args.allowance c.in-Err.stop (c.args.task.0, c.requires.wide)
    (λ i ends. wide_needs_more f c.the_end_is_read_in_one_way.ensures.fits c.what_is_found_is_best.ensures.greatest above
    c.args.allowance i ends) c.in-Err.ensures.stops
