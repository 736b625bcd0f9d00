use Rattle.std.proofs.Common.{arith}
use Rattle.program_laws.proofs.WrittenPrograms.{limits_follow}
use Rattle.protocol_programs.proofs.keeping.keeps_jobs.Goals as goal

pub returns-clause-limits : goal.returns-clause-limits
returns-clause-limits c = λ p yes.
    limits_follow p c.args.set.now c.args.i.0 c.args.earlier.now c.args.bounds.now c.requires.task
    (λ x here. c.loop-x.invariant x (omega (arith, here, c.loop-x-test.false, c.tasks-x-end.ensures.value)))
