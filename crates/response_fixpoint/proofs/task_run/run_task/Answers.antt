use Rattle.program_sources.specs.Recurrence.{SourceDef, source_at}
use Rattle.response_fixpoint.specs.Solutions.{IsSolution}
use Rattle.response_fixpoint.proofs.SolutionLaws.{short_run}
use Rattle.response_fixpoint.proofs.task_run.run_task.Goals as goal

pub returns-then-solution-left : goal.returns-then-solution-left
returns-then-solution-left g c =
    let f : SourceDef = source_at (g.P.ProgramSource.source c.args.protocol.now) c.args.set.now in
    let is : IsSolution (f.program c.args.i.0 c.args.bounds.now) c.in-Ok.solution = rw c.requires.program at c.in-Ok.ensures in
    short_run f c.args.bounds.now c.args.i.0 c.args.left c.in-Ok.solution is c.if-solution-left.true
