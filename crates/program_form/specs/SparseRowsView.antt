-- What contracts see of a `SparseRows`, and what is true of every one.
use Rattle.std.specs.Prelude.{length}
use Rattle.program_form.specs.SparseRows.{SparseRowsDef}
use Rattle.program_form.specs.RowCuts.{rows_cut, AreStarts}
use Rattle.program_form.specs.declared.sparse_rows.SparseRows.TheInside.{Inside}

abbrev pub sparse_rows_view : Inside → SparseRowsDef
sparse_rows_view b = record { rows = rows_cut b.coefficients.items b.starts.items; limits = b.limits.items }

abbrev pub IsKept : Inside → Type 0
IsKept b = AreStarts (length b.coefficients.items) b.starts.items
