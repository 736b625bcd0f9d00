use Rattle.std.proofs.Common.{◌≡◌, ◌≤◌, false}
use Rattle.std.specs.Prelude.{slice_index_or}
use Rattle.number_laws.specs.Tests.{count_below}
use Rattle.closer_spin.proofs.tables.how_many.Given as goal

abbrev pub invariant-loop-q : goal.invariant-loop-q
invariant-loop-q l = record {
  value : l.count ≡ count_below l.q (λ q. slice_index_or l.table q false);
  most : l.count ≤ l.q;
}
