-- What contracts see of a `SparseRow` as a row, and what every `SparseRow` keeps.
use Rattle.simplex.specs.Rows.{RowDef, IsSparseRow}
use Rattle.simplex.specs.declared.row.SparseRow.TheInside.{Inside}

abbrev pub row_view : Inside → RowDef
row_view row = record { entries = row.entries.items; place = row.place; limit = row.limit }

abbrev pub IsKept : Inside → Type 0
IsKept row = IsSparseRow (row_view row)
