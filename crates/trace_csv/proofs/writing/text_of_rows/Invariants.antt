use Rattle.std.proofs.Common.{◌≡◌, ◌++◌, map, drop}
use Rattle.schedule_model.specs.Seen.{run_seen}
use Rattle.trace_csv.specs.Written.{line_of, text_of, rows_text}
use Rattle.trace_csv.proofs.writing.text_of_rows.Given as goal

abbrev pub invariant-loop-run : goal.invariant-loop-run
invariant-loop-run l =
    l.text.items ++ text_of (map line_of (map run_seen (drop l.run-index l.run-items))) ≡ rows_text l.fn.set l.fn.rows.runs
