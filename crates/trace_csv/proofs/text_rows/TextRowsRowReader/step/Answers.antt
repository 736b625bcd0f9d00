use Rattle.std.proofs.Common.{◌+◌, ◌∙◌, List, drop, slice_get, ap, sym}
use Rattle.trace_csv.specs.Records.{Fields, records_in}
use Rattle.trace_csv.proofs.RowTexts.{line_short, next_here}
use Rattle.trace_csv.proofs.text_rows.TextRowsRowReader.step.Goals as goal

pub next_run-requires : goal.next_run-requires
next_run-requires c = λ line e.
    let reader = c.self.inside in
    line_short reader.jobs.now (records_in reader.bytes.now) c.self.invariant.file (reader.at + 1) line
    (ap (λ (ls : List Fields). slice_get ls 0) (sym (c.again-lines.ensures ∙ c.self.invariant.left)) ∙ e)

pub invariant_of-self : goal.invariant_of-self
invariant_of-self c =
    let reader = c.self.inside in
    let next = next_here reader.jobs.now (drop 1 (records_in reader.bytes.now)) (reader.at + 1) c.in_ok-run.run' c.again-lines.result
    c.next_run.new.lines (c.again-lines.ensures ∙ c.self.invariant.left) c.in_ok-run.ensures in
    record {
      file = c.self.invariant.file;
      listed = c.self.invariant.listed;
      here = next.0;
      left = next.1;
      few = c.self.invariant.few;
    }
