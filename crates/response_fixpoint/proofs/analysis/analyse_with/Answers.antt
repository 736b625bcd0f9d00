use Rattle.std.proofs.Common.{arith}
use Rattle.sporadic_model.specs.Accepted.{TaskNumbers}
use Rattle.program_sources.specs.Recurrence.{SourceDef, source_at}
use Rattle.response_fixpoint.proofs.AnswerLaws.{only_of, right_of, exactly_of, never_wide_of, never_short_of}
use Rattle.response_fixpoint.proofs.analysis.analyse_with.Goals as goal

pub returns-clause-only : goal.returns-clause-only
returns-clause-only g c =
    let f : SourceDef = source_at (g.P.ProgramSource.source c.args.protocol.now) c.args.set.now in
    only_of f c.args.allowance c.verdict_of_rounds.result c.verdict_of_rounds.ensures

pub returns-clause-right : goal.returns-clause-right
returns-clause-right g c =
    let f : SourceDef = source_at (g.P.ProgramSource.source c.args.protocol.now) c.args.set.now in
    right_of f c.args.allowance c.verdict_of_rounds.result
    (c.recurrence_is_monotone.ensures.reached c.args.protocol.now c.args.set.now c.requires.serves) c.verdict_of_rounds.ensures

pub returns-clause-exactly : goal.returns-clause-exactly
returns-clause-exactly g c =
    let f : SourceDef = source_at (g.P.ProgramSource.source c.args.protocol.now) c.args.set.now in
    exactly_of f c.verdict_of_rounds.result
    (right_of f c.args.allowance c.verdict_of_rounds.result
    (c.recurrence_is_monotone.ensures.reached c.args.protocol.now c.args.set.now c.requires.serves)
    c.verdict_of_rounds.ensures)

pub returns-clause-never_wide : goal.returns-clause-never_wide
returns-clause-never_wide g c =
    let f : SourceDef = source_at (g.P.ProgramSource.source c.args.protocol.now) c.args.set.now in
    never_wide_of f c.args.allowance c.verdict_of_rounds.result c.verdict_of_rounds.ensures

pub returns-clause-enough : goal.returns-clause-enough
returns-clause-enough g c =
    let f : SourceDef = source_at (g.P.ProgramSource.source c.args.protocol.now) c.args.set.now in
    never_short_of f c.args.allowance c.verdict_of_rounds.result
    (c.recurrence_is_monotone.ensures.value c.args.protocol.now c.args.set.now c.requires.serves)
    (λ i here. let numbers : TaskNumbers c.args.set.now i = c.tasks-tasks.ensures.numbers i here in omega (arith, numbers.jitter_to))
    c.verdict_of_rounds.ensures
