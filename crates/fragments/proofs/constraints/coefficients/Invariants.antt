use Rattle.std.proofs.Common.{◌≡◌, ℕ, ◌<◌, ◌≤◌, length}
use Rattle.std.specs.Prelude.{slice_index, slice_index_or}
use Rattle.blocking_columns.specs.declared.columns.Fragment.{Fragment}
use Rattle.blocking_columns.specs.ColumnDef.{column_seen}
use Rattle.fragments.proofs.constraints.coefficients.Given as goal

abbrev pub invariant-loop-place : goal.invariant-loop-place
invariant-loop-place g l = record {
  len : length l.list.items ≡ length l.columns;
  done : (k : ℕ) (d : Fragment) → k < l.place → slice_index l.list.items k
      ≡ (g.K.RowKind.row_of l.kind l.set l.i.0).coefficient (column_seen (slice_index_or l.columns k d));
  left : (k : ℕ) → l.place ≤ k → k < length l.columns → slice_index l.list.items k ≡ 0;
}
