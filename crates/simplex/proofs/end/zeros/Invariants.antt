use Rattle.std.proofs.Common.{◌≡◌, ℕ, vec_len, pos}
use Rattle.fraction128.specs.Fraction.{whole}
use Rattle.fraction128.specs.Scaling.{fraction_at}
use Rattle.simplex.proofs.end.zeros.Given as goal

abbrev pub invariant-loop : goal.invariant-loop
invariant-loop l = record {
  len : vec_len l.list ≡ l.counter;
  zero : (c : ℕ) → fraction_at l.list.items c ≡ whole (pos 0);
}
