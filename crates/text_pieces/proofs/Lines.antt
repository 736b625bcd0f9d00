-- Lines that are added one after another.
use Rattle.std.proofs.Common.{◌≡◌, ◌++◌, ℕ, ◌+◌, List, add-one, append_assoc, ap, ◌∙◌}
use Rattle.number_laws.specs.Sums.{collect_below}

-- Behind the lines of the numbers below k comes the line of k.
pub lines_more : (f : ℕ → List ℕ) (old mid new : List ℕ) (k : ℕ) → mid ≡ old ++ collect_below k f → new ≡ mid ++ f k
    → new ≡ old ++ collect_below (k + 1) f
lines_more f old mid new k before here = rw add-one (here ∙ ap (λ t. t ++ f k) before ∙ append_assoc old (collect_below k f) (f k))
