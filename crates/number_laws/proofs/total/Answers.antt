use Rattle.std.proofs.Common.{arith}
use Rattle.std.proofs.lemmas.Int.{ints, to_z-of_z}
use Rattle.number_laws.proofs.TotalLaws.{total_below-next}
use Rattle.number_laws.proofs.total.Goals as goal

pub loop-value-preserved : goal.loop-value-preserved
loop-value-preserved c = record {
  total = grind (arith, ints, to_z-of_z, total_below-next);
  high = omega (arith, ints);
  low = omega (arith, ints);
}
