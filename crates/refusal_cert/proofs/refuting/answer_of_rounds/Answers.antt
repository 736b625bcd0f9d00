use Rattle.std.proofs.Common.{rules}
use Rattle.program_sources.specs.Recurrence.{SourceDef, source_at}
use Rattle.refusal_cert.proofs.AnswerLaws.{round_taken}
use Rattle.refusal_cert.proofs.refuting.answer_of_rounds.Goals as goal

pub take_rounds-requires-clause-takes : goal.take_rounds-requires-clause-takes
take_rounds-requires-clause-takes g c = λ s b left p served begun.
    let f : SourceDef = source_at (g.P.ProgramSource.source c.args.protocol.now) c.args.set.now in
    ((served, begun), λ given t gives. round_taken f b.now left s.now.steps t.now.steps given (search rules))

pub returns-in-Err : goal.returns-in-Err
returns-in-Err g c = rw c.answer_of_stop.ensures c.in-Err.ensures
