use Rattle.std.proofs.Common.{arith}
use Rattle.sporadic_model.specs.Accepted.{TaskNumbers}
use Rattle.program_sources.specs.Recurrence.{SourceDef, source_at}
use Rattle.refusal_cert.proofs.Analyses.{follows_of}
use Rattle.refusal_cert.proofs.AnswerLaws.{only_of, right_of}
use Rattle.refusal_cert.proofs.refuting.refute.Goals as goal

pub returns-clause-only : goal.returns-clause-only
returns-clause-only g c =
    let f : SourceDef = source_at (g.P.ProgramSource.source c.args.protocol.now) c.args.set.now in
    only_of f c.args.allowance c.answer_of_rounds.result c.answer_of_rounds.ensures

pub returns-clause-follows : goal.returns-clause-follows
returns-clause-follows g c =
    let f : SourceDef = source_at (g.P.ProgramSource.source c.args.protocol.now) c.args.set.now in
    follows_of f c.args.allowance c.answer_of_rounds.result c.answer_of_rounds.ensures

pub returns-clause-right : goal.returns-clause-right
returns-clause-right g c =
    let f : SourceDef = source_at (g.P.ProgramSource.source c.args.protocol.now) c.args.set.now in
    right_of f c.args.allowance c.answer_of_rounds.result
    (c.recurrence_is_monotone.ensures.reached c.args.protocol.now c.args.set.now c.requires.serves)
    (λ i r s here most. g.met.P.ProgramSource.rises c.args.protocol.now c.args.set.now i r s c.requires.serves here most)
    (λ i here. let numbers : TaskNumbers c.args.set.now i = c.tasks-tasks.ensures.numbers i here in omega (arith, numbers.jitter_to))
    c.answer_of_rounds.ensures
