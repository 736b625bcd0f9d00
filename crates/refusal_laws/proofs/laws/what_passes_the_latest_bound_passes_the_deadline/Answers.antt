use Rattle.std.proofs.Common.{arith}
use Rattle.refusal_laws.proofs.laws.what_passes_the_latest_bound_passes_the_deadline.Goals as goal

pub returns : goal.returns
returns c = λ set x v numbers. ((λ late. omega (arith, numbers.jitter_to, late)), λ late. omega (arith, numbers.jitter_to, late))
