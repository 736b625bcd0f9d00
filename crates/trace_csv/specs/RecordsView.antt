-- What a contract sees of a reader: the records that are left.
use Rattle.std.specs.Prelude.{◌≡◌, false, List}
use Rattle.csv.specs.Machine.{ends_at_end}
use Rattle.trace_csv.specs.declared.records.Records.TheInside.{Inside}
use Rattle.trace_csv.specs.Places.{place_seen}
use Rattle.trace_csv.specs.Records.{Fields}
use Rattle.trace_csv.specs.RecordAnswers.{records_left}

abbrev pub records_view : Inside → List Fields
records_view reader = records_left (place_seen reader.place) reader.rest.now

-- It is between records, where the end of the text would end no record.
abbrev pub IsKept : Inside → Type 0
IsKept reader = ends_at_end (place_seen reader.place) ≡ false
