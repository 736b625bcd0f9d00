use Rattle.std.proofs.Common.{ℤ, pos, ◌<ℤ◌, refl, subst, arith}
use Rattle.std.proofs.lemmas.Int.{ints}
use Rattle.free_search.proofs.Rows.{unchanged}
use Rattle.free_search.proofs.tableau.take_from.Goals as goal

pub returns-then-is_zero : goal.returns-then-is_zero
returns-then-is_zero c = record {
  places = refl;
  changed = λ divided is positive.
      unchanged c.args.row.now divided c.args.k
      (subst (λ (z : ℤ). pos 0 <ℤ z) c.den-positive.ensures.value (omega (arith, ints, c.den-positive.ensures.positive)))
      (rw c.num.ensures at (c.is_zero.ensures.0 c.if-is_zero.true));
}
