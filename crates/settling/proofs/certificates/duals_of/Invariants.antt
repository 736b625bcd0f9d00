use Rattle.std.proofs.Common.{◌≡◌, ◌++◌, map}
use Rattle.settling.specs.declared.reached.Reached.{Reached}
use Rattle.settling.proofs.certificates.duals_of.Given as goal

abbrev pub invariant-loop-last : goal.invariant-loop-last
invariant-loop-last l =
    l.duals.items ++ map (λ (r : Reached). r.dual) l.last-iterator.rest.items ≡ map (λ (r : Reached). r.dual) l.fn.reached.items
