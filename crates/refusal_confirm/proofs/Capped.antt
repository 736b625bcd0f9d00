-- What sums that stop growing tell of what they are compared with.
use Rattle.std.proofs.Common.{◌≡◌, ℕ, ◌+◌, ◌*◌, ◌/◌, ◌≤◌, ◌↔◌, min, arith, IsTrue}
use Rattle.std.specs.Prelude.{nat_eq, nat_le}
use Rattle.std.proofs.lemmas.Bool.{eqb-true, eq-eqb, leb-true, le-leb}
use Rattle.std.proofs.Math.Nat.{le-div_iff_mul-le}

-- A sum that went no further than one above what is due is at most that exactly where the whole sum is.
pub kept : (sum due most whole : ℕ) → sum ≡ min (due + 1) whole → due ≡ most → IsTrue (nat_le sum due) ↔ (whole ≤ most)
kept sum due most whole capped is = (
  (λ yes. let below : sum ≤ due = leb-true sum due yes in omega (arith, capped, is)),
  λ most. le-leb sum due (omega (arith, capped, is)),
)

-- A sum that went no further than n times d has come to that exactly where the quotient of the whole sum and d is at least n.
pub reached : (sum due n d whole : ℕ) → 1 ≤ d → sum ≡ min due whole → due ≡ n * d → IsTrue (nat_eq sum due) ↔ (n ≤ whole / d)
reached sum due n d whole positive capped is = (
  (λ yes.
      let same : sum ≡ due = eqb-true sum due yes in
      let enough : n * d ≤ whole = omega (arith, capped, is, same) in
      (le-div_iff_mul-le {k = d} {x = n} {y = whole} positive).1 enough),
  λ enough.
      let least : n * d ≤ whole = (le-div_iff_mul-le {k = d} {x = n} {y = whole} positive).0 enough in
      eq-eqb sum due (omega (arith, capped, is, least)),
)
