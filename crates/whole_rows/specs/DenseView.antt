-- What contracts see of a `DenseRow` as a row, and what every `DenseRow` keeps.
use Rattle.whole_rows.specs.Rows.{RowDef, IsBounded}
use Rattle.whole_rows.specs.declared.dense_row.DenseRow.TheInside.{Inside}

abbrev pub dense_view : Inside → RowDef
dense_view row = record { nums = row.nums.items; limit = row.limit; den = row.den }

abbrev pub IsKept : Inside → Type 0
IsKept row = IsBounded (dense_view row) row.most
