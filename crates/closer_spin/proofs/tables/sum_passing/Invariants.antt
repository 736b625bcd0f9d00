use Rattle.std.proofs.Common.{◌≡◌, ◌*◌, ◌≤◌, false}
use Rattle.std.specs.Prelude.{slice_index, slice_index_or}
use Rattle.number_laws.specs.Sums.{sum_below, only_if}
use Rattle.closer_spin.proofs.tables.sum_passing.Given as goal

abbrev pub invariant-loop-q : goal.invariant-loop-q
invariant-loop-q l = record {
  value : l.total ≡ sum_below l.q (λ q. only_if (slice_index_or l.table q false) (slice_index l.requests q));
  most : l.total ≤ l.q * 128000000001000;
}
