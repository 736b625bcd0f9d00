use Rattle.std.proofs.Common.{◌<◌, ◌^◌, length}
use Rattle.fragments.specs.NonzeroCoefficients.{HasRowBegun}
use Rattle.fragments.proofs.sparse_rows.SparseRowsRowTaker.take.Given as goal

abbrev pub invariant-loop-place : goal.invariant-loop-place
invariant-loop-place g l = length l.columns < 2 ^ 32
    → HasRowBegun l.fn.self (g.K.RowKind.row_of l.kind l.set l.i.0) l.columns l.place l.limit l.self
