-- What a contract sees of a text of rows: its rows.
use Rattle.std.specs.Prelude.{◌≡◌}
use Rattle.schedule_model.specs.RowDef.{ticks_of}
use Rattle.schedule_model.specs.Fitting.{RowsDef, IsRowList}
use Rattle.trace_csv.specs.declared.row_text.RowText.TheInside.{Inside}
use Rattle.trace_csv.specs.RowsFile.{IsRowsFile, runs_in}
use Rattle.trace_csv.specs.RowTexts.{rows_in}

abbrev pub row_text_view : Inside → RowsDef
row_text_view text = rows_in text.jobs.now text.bytes.items

-- It was judged, and its ticks were counted.
pub record IsJudged (text : Inside) : Type 0 where
  pub file : IsRowsFile text.jobs.now text.bytes.items
  pub listed : IsRowList (rows_in text.jobs.now text.bytes.items)
  pub counted : text.ticks ≡ ticks_of (runs_in text.jobs.now text.bytes.items)
