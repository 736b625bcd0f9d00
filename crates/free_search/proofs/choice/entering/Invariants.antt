use Rattle.free_search.proofs.LeastPlaces.{EntersBelow}
use Rattle.free_search.proofs.choice.entering.Given as goal

abbrev pub invariant-loop-k : goal.invariant-loop-k
invariant-loop-k l = EntersBelow l.least l.k l.nums l.outside
