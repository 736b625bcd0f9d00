use Rattle.std.proofs.Common.{◌≡◌, ◌++◌, [], map, drop}
use Rattle.csv.specs.Records.{fields_of, partial_of}
use Rattle.schedule_model.specs.Seen.{place_seen}
use Rattle.trace_csv.specs.Written.{cell_of}
use Rattle.trace_csv.proofs.writing.push_cells.Given as goal

abbrev pub invariant-loop-place : goal.invariant-loop-place
invariant-loop-place l = record {
  fields : fields_of l.row ++ map cell_of (map place_seen (drop l.place-index l.places))
      ≡ fields_of l.initial.row ++ map cell_of (map place_seen l.places);
  partial : partial_of l.row ≡ [];
}
