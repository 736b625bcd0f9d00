use Rattle.std.proofs.Common.{arith}
use Rattle.fraction128.proofs.ScalingLemmas.{least_none}
use Rattle.fraction128.proofs.scaling.common_denominator.Goals as goal

pub loop-value-init : goal.loop-value-init
loop-value-init c = (least_none, omega arith)
