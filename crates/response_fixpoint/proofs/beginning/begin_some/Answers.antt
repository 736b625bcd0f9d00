use Rattle.std.proofs.Common.{length, arith}
use Rattle.program_sources.specs.Recurrence.{SourceDef, source_at}
use Rattle.response_fixpoint.specs.Solutions.{IsPlanned}
use Rattle.response_fixpoint.proofs.PlaceLaws.{placed_more}
use Rattle.response_fixpoint.proofs.beginning.begin_some.Goals as goal

pub loop-i-preserved : goal.loop-i-preserved
loop-i-preserved g c =
    let f : SourceDef = source_at (g.P.ProgramSource.source c.args.protocol.now) c.args.set.now in
    rw c.in_ok-push.ensures.items (placed_more (IsPlanned f c.args.bounds.now c.args.left) (length c.args.set.now.tasks)
    c.loop-i.begun.items (record { task = record { 0 = c.loop-i.i }; found = c.in_ok-planned.planned }) c.loop-i.invariant
    (omega (arith, c.loop-i-test.true, c.tasks-i-end.ensures.value)) c.in_ok-planned.ensures)
