use Rattle.std.proofs.Common.{ℕ, ◌<◌}
use Rattle.std.specs.Prelude.{slice_index}
use Rattle.closer_mpcp.specs.Steady.{JobsStay}
use Rattle.closer_mpcp.proofs.steady.steady_ticks.Given as goal

abbrev pub invariant-loop-x : goal.invariant-loop-x
invariant-loop-x l = (x : ℕ) → x < l.x → JobsStay l.set (slice_index l.bounds) x l.ticks
