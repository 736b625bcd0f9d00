use Rattle.std.proofs.Common.{◌≡◌, ◌++◌, map}
use Rattle.program_form.specs.Certificate.{dual_seen}
use Rattle.response_fixpoint.specs.declared.plan.Kept.{Kept}
use Rattle.response_fixpoint.proofs.analysis.duals_of.Given as goal

-- the duals so far, and those of the solutions that are left, are all duals
abbrev pub invariant-loop-last : goal.invariant-loop-last
invariant-loop-last l =
    map dual_seen l.duals.items ++ map (λ (k : Kept). dual_seen k.solution.dual) l.last-iterator.rest.items
    ≡ map (λ (k : Kept). dual_seen k.solution.dual) l.fn.kept.items
