-- What contracts see of a `WholeRow` as a row.
use Rattle.whole_rows.specs.Rows.{RowDef}
use Rattle.whole_rows.specs.declared.row.Form.{Form}
use Rattle.whole_rows.specs.declared.row.Form.TheVariants.{Short, Dense}
use Rattle.whole_rows.specs.declared.row.WholeRow.TheInside.{Inside}

abbrev pub form_row : Form → RowDef
form_row (Short row) = row
form_row (Dense row) = row

abbrev pub row_view : Inside → RowDef
row_view row = form_row row.form
