use Rattle.std.proofs.Common.{arith}
use Rattle.std.specs.Prelude.{slice_index}
use Rattle.closer_mpcp.specs.Steady.{IsCommonOf}
use Rattle.closer_mpcp.proofs.SteadyJobs.{one_more_to, common_less}
use Rattle.closer_mpcp.proofs.steady.common_ticks.Goals as goal

pub loop-x-preserved : goal.loop-x-preserved
loop-x-preserved c =
    let set = c.args.set.now in
    let r = slice_index c.args.earlier.now in
    let s = slice_index c.args.bounds.now in
    one_more_to (IsCommonOf set r s) c.loop-x.x c.loop-x.ticks c.common_ticks_of.result c.min-ticks.result (common_less set r s)
    c.loop-x.invariant c.common_ticks_of.ensures (omega (arith, c.min-ticks.ensures)) (omega (arith, c.min-ticks.ensures))
