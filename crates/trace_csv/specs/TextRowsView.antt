-- What a contract sees of a reader of a text of rows.
use Rattle.std.specs.Prelude.{◌≡◌, ◌<◌, ◌+◌, ◌^◌, length, drop, option_map, slice_get}
use Rattle.schedule_model.specs.Fitting.{IsRowList}
use Rattle.schedule_model.specs.Seen.{run_seen}
use Rattle.trace_csv.specs.declared.text_rows.TextRows.TheInside.{Inside}
use Rattle.trace_csv.specs.Records.{records_in}
use Rattle.trace_csv.specs.RowsFile.{IsRowsFile, runs_in}
use Rattle.trace_csv.specs.RowTexts.{ReaderDef, rows_in}

abbrev pub text_rows_view : Inside → ReaderDef
text_rows_view r = record { rows = rows_in r.jobs.now r.bytes.now; at = r.at }

-- The text is a file of rows. The current run is the one of that number, if there is one, and the lines after it are left.
pub record IsKept (r : Inside) : Type 0 where
  pub file : IsRowsFile r.jobs.now r.bytes.now
  pub listed : IsRowList (rows_in r.jobs.now r.bytes.now)
  pub here : option_map run_seen r.run ≡ slice_get (runs_in r.jobs.now r.bytes.now) r.at
  pub left : r.lines ≡ drop (r.at + 1) (drop 1 (records_in r.bytes.now))
  pub few : length (records_in r.bytes.now) < 2 ^ 64
