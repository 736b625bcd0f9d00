use Rattle.std.proofs.Common.{◌≡◌, ◌∙◌, List, drop, slice_get, Some, ap, sym, arith}
use Rattle.trace_csv.specs.Records.{Fields, records_in}
use Rattle.trace_csv.proofs.RowTexts.{header_short, line_short}
use Rattle.trace_csv.proofs.text_rows.TextRows.new.Goals as goal

pub next_line-requires : goal.next_line-requires
next_line-requires c = λ line e.
    let records = records_in c.args.bytes.now in
    let here : slice_get records 0 ≡ Some line = ap (λ (ls : List Fields). slice_get ls 0) (sym c.new-lines.ensures.records) ∙ e in
    omega (arith, header_short c.args.jobs.now records c.requires.file line here, c.fields_per_line.ensures)

pub next_run-requires : goal.next_run-requires
next_run-requires c = λ line e.
    let records = records_in c.args.bytes.now in
    let behind : c.next_line.new.lines ≡ drop 1 records =
    c.in_ok-_header.ensures.1 ∙ ap (λ (ls : List Fields). drop 1 ls) c.new-lines.ensures.records in
    line_short c.args.jobs.now records c.requires.file 0 line (ap (λ (ls : List Fields). slice_get ls 0) (sym behind) ∙ e)
