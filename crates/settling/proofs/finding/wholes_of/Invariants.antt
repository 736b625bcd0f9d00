use Rattle.std.proofs.Common.{◌≡◌, take}
use Rattle.settling.proofs.finding.wholes_of.Given as goal

abbrev pub invariant-loop-number : goal.invariant-loop-number
invariant-loop-number l = l.wholes.items ≡ take l.number-index l.numbers
