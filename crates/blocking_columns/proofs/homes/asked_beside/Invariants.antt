use Rattle.std.proofs.Common.{◌≡◌, ℕ, ◌<◌, false, length}
use Rattle.std.specs.Prelude.{slice_index_or}
use Rattle.blocking_columns.specs.Columns.{requests_beside}
use Rattle.blocking_columns.proofs.homes.asked_beside.Given as goal

abbrev pub invariant-loop-q : goal.invariant-loop-q
invariant-loop-q l = record {
  one_each : length l.beside.items ≡ l.q;
  each : (q : ℕ) → q < l.q → slice_index_or l.beside.items q false ≡ requests_beside l.set l.i.0 q;
}
