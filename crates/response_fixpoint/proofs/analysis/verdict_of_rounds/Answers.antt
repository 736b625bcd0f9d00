use Rattle.std.proofs.Common.{rules, refl, Ok}
use Rattle.program_sources.specs.Recurrence.{SourceDef, source_at}
use Rattle.response_fixpoint.specs.Given.{BeginsRound}
use Rattle.response_fixpoint.specs.Answers.{found_of}
use Rattle.response_fixpoint.specs.Taking.{EndsWith}
use Rattle.response_fixpoint.proofs.AnswerLaws.{settled_answers, round_taken}
use Rattle.response_fixpoint.proofs.analysis.verdict_of_rounds.Goals as goal

pub take_rounds-requires-clause-takes : goal.take_rounds-requires-clause-takes
take_rounds-requires-clause-takes g c = λ s b left p served begun.
    let f : SourceDef = source_at (g.P.ProgramSource.source c.args.protocol.now) c.args.set.now in
    let begins : BeginsRound (g.P.ProgramSource.serves c.args.protocol.now) f b.now left p.items =
    record { serves = served.serves; range = served.range; plan = begun } in
    ((begins, search rules), λ given t gives. round_taken f b.now left given (search rules))

pub take_rounds-requires-clause-stands : goal.take_rounds-requires-clause-stands
take_rounds-requires-clause-stands g c = (0, (refl, c.in_ok-first.ensures.first))

pub take_rounds-requires-clause-plan : goal.take_rounds-requires-clause-plan
take_rounds-requires-clause-plan g c = rw c.deref.ensures.value at c.in_ok-begun.ensures

pub returns-in-Ok : goal.returns-in-Ok
returns-in-Ok g c =
    let f : SourceDef = source_at (g.P.ProgramSource.source c.args.protocol.now) c.args.set.now in
    let last = c.in-Ok.field-0 in
    let ends : EndsWith f c.args.allowance (Ok last) = rw c.in-Ok.is at c.take_rounds.ensures in
    settled_answers f c.args.allowance c.verdict_at_fixpoint.result (found_of last).values (found_of last).duals ends
    c.verdict_at_fixpoint.ensures

pub returns-in-Err : goal.returns-in-Err
returns-in-Err g c = rw c.verdict_of_stop.ensures c.in-Err.ensures
