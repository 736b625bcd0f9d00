use Rattle.std.proofs.Common.{◌≡◌, ℕ, ◌<◌, false, length}
use Rattle.std.specs.Prelude.{slice_index_or}
use Rattle.spin_protocol.proofs.tables.table_of.Given as goal

abbrev pub invariant-loop-q : goal.invariant-loop-q
invariant-loop-q g l = record {
  one_each : length l.table.items ≡ l.q;
  each : (q : ℕ) → q < l.q → slice_index_or l.table.items q false ≡ g.R.ResourceTest.passes l.test l.set l.i.0 q;
}
