use Rattle.std.proofs.Common.{refl}
use Rattle.program_sources.specs.Recurrence.{SourceDef, source_at}
use Rattle.response_fixpoint.proofs.AnswerLaws.{within_of}
use Rattle.response_fixpoint.proofs.SolutionLaws.{renewed_is_program, renewed_planned, kept_planned}
use Rattle.response_fixpoint.proofs.plan.planned_after.Goals as goal

pub returns-then-keeps_limits : goal.returns-then-keeps_limits
returns-then-keeps_limits g c = λ left.
    let f : SourceDef = source_at (g.P.ProgramSource.source c.args.protocol.now) c.args.set.now in
    kept_planned f c.args.i.0 c.args.earlier.now c.args.bounds.now c.args.kept c.take_over.result left
    (λ q r most. g.met.P.ProgramSource.rises c.args.protocol.now c.args.set.now c.args.i.0 q r c.requires.served.serves c.requires.served.task most)
    c.requires.before.kept (c.if-keeps_limits.ensures refl) c.take_over.ensures

pub renew-requires : goal.renew-requires
renew-requires g c =
    let f : SourceDef = source_at (g.P.ProgramSource.source c.args.protocol.now) c.args.set.now in
    renewed_is_program f c.args.i.0 c.args.earlier.now c.args.bounds.now c.in_ok-limits.limits.items c.args.kept
    (λ q r most. g.met.P.ProgramSource.rises c.args.protocol.now c.args.set.now c.args.i.0 q r c.requires.served.serves c.requires.served.task most)
    c.requires.before.kept c.in_ok-limits.ensures
    (g.met.P.ProgramSource.is_program c.args.protocol.now c.args.set.now c.args.i.0 c.args.bounds.now c.requires.served.serves
    c.tasks-tasks.ensures.accepted c.requires.served.task (within_of c.args.set.now c.args.bounds.now c.requires.served.range))

pub returns : goal.returns
returns g c = λ left.
    let f : SourceDef = source_at (g.P.ProgramSource.source c.args.protocol.now) c.args.set.now in
    renewed_planned f c.args.i.0 c.args.earlier.now c.args.bounds.now c.in_ok-limits.limits.items c.args.kept c.renew.result left
    (λ q r most. g.met.P.ProgramSource.rises c.args.protocol.now c.args.set.now c.args.i.0 q r c.requires.served.serves c.requires.served.task most)
    c.requires.before.kept c.in_ok-limits.ensures c.renew.ensures
