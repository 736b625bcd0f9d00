use Rattle.std.proofs.Common.{[], nat_lt, length, slice_index, slice_index_or, sym, arith, lt-ltb, ◌<◌}
use Rattle.std.proofs.lemmas.List.{length-map}
use Rattle.number_laws.proofs.TestLaws.{any_below-from}
use Rattle.program_form.specs.RowBlock.{rows_seen}
use Rattle.program_form.proofs.program.is_held.Goals as goal

pub returns-then-entry_at-gt0 : goal.returns-then-entry_at-gt0
returns-then-entry_at-gt0 c =
    let within : c.loop-row.row < length (rows_seen c.args.rows.now) = omega (arith, length-map c.args.rows.now (λ row. row.items)) in
    let above : 0 < slice_index (slice_index_or (rows_seen c.args.rows.now) c.loop-row.row []) c.args.column = omega arith in
    sym (any_below-from (length (rows_seen c.args.rows.now))
    (λ r. nat_lt 0 (slice_index (slice_index_or (rows_seen c.args.rows.now) r []) c.args.column))
    c.loop-row.row within (lt-ltb 0 (slice_index (slice_index_or (rows_seen c.args.rows.now) c.loop-row.row []) c.args.column) above))
