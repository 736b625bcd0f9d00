-- What contracts see of a `ShortRow` as a row, and what every `ShortRow` keeps.
use Rattle.whole_rows.specs.Rows.{RowDef, IsBounded, AreSparse, AreBelow, listed_row}
use Rattle.whole_rows.specs.declared.short_row.ShortRow.TheInside.{Inside}

abbrev pub short_view : Inside → RowDef
short_view row = listed_row row.places row.entries.items row.limit

-- Do the places of the nonzero numbers rise below the row's places, and does the bound hold?
pub record IsKept (row : Inside) : Type 0 where
  pub sparse : AreSparse row.entries.items
  pub below : AreBelow row.places row.entries.items
  pub bounded : IsBounded (short_view row) row.most
