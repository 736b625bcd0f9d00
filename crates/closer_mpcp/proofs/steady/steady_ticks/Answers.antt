use Rattle.std.proofs.Common.{arith}
use Rattle.std.specs.Prelude.{slice_index}
use Rattle.closer_mpcp.specs.Steady.{JobsStay}
use Rattle.closer_mpcp.proofs.SteadyJobs.{one_more_to, stays_less}
use Rattle.closer_mpcp.proofs.steady.steady_ticks.Goals as goal

pub loop-x-preserved : goal.loop-x-preserved
loop-x-preserved c =
    let set = c.args.set.now in
    let bounds = slice_index c.args.bounds.now in
    one_more_to (JobsStay set bounds) c.loop-x.x c.loop-x.ticks c.steady_of.result.ticks c.min-ticks.result (stays_less set bounds)
    c.loop-x.invariant c.steady_of.ensures.stay (omega (arith, c.min-ticks.ensures)) (omega (arith, c.min-ticks.ensures))
