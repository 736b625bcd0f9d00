use Rattle.std.proofs.Common.{arith}
use Rattle.charge.proofs.charger.ChargerKeeper.span.Goals as goal

pub returns-clause-spans : goal.returns-clause-spans
returns-clause-spans g c = λ n l y j listed current later. omega (arith, l, c.until_due.ensures.clear y j listed current later)
