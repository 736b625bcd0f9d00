use Rattle.std.proofs.Common.{length, arith}
use Rattle.program_sources.specs.Recurrence.{SourceDef, source_at}
use Rattle.response_fixpoint.proofs.PlaceLaws.{placed_more}
use Rattle.settling.specs.Rising.{IsFoundAt}
use Rattle.settling.proofs.ahead.reach_some.Goals as goal

pub returns-then-not-is_on : goal.returns-then-not-is_on
returns-then-not-is_on g c =
    let f : SourceDef = source_at (g.P.ProgramSource.source c.args.protocol.now) c.args.set.now in
    rw c.in_ok-push.ensures.items (placed_more (IsFoundAt c.args.points f c.args.bounds.now) (length c.args.set.now.tasks)
    c.loop-i.found.items (record { task = record { 0 = c.loop-i.i }; found = c.in-Ok.reached }) c.loop-i.invariant
    (omega (arith, c.loop-i-test.true, c.tasks-i-end.ensures.value)) c.in-Ok.ensures.found)

pub loop-i-preserved : goal.loop-i-preserved
loop-i-preserved g c =
    let f : SourceDef = source_at (g.P.ProgramSource.source c.args.protocol.now) c.args.set.now in
    rw c.in_ok-push.ensures.items (placed_more (IsFoundAt c.args.points f c.args.bounds.now) (length c.args.set.now.tasks)
    c.loop-i.found.items (record { task = record { 0 = c.loop-i.i }; found = c.in-Ok.reached }) c.loop-i.invariant
    (omega (arith, c.loop-i-test.true, c.tasks-i-end.ensures.value)) c.in-Ok.ensures.found)
