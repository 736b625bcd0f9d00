use Rattle.std.proofs.Common.{◌≡◌, drop}
use Rattle.csv.specs.Machine.{next_record}
use Rattle.csv.specs.Reading.{default_config}
use Rattle.trace_csv.specs.Places.{place_seen}
use Rattle.trace_csv.specs.Records.{fields_seen}
use Rattle.trace_csv.specs.RecordAnswers.{record_next}
use Rattle.trace_csv.proofs.records.read_record.Given as goal

-- The record from the first place on is the one that is left to be read.
abbrev pub invariant-loop-i : goal.invariant-loop-i
invariant-loop-i l =
    record_next (place_seen l.fn.from) l.text
    ≡ next_record default_config (place_seen l.place) (fields_seen l.fields.items) l.field.items (drop l.i l.text)
