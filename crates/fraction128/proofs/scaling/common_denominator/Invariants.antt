use Rattle.std.proofs.Common.{take}
use Rattle.fraction128.specs.Scaling.{GivesCommon}
use Rattle.fraction128.proofs.scaling.common_denominator.Given as goal

abbrev pub invariant-loop-value : goal.invariant-loop-value
invariant-loop-value l = GivesCommon l.common (take l.value-index l.values)
