use Rattle.std.proofs.Common.{◌∷◌, [], map}
use Rattle.blocking_columns.specs.ColumnDef.{column_seen}
use Rattle.closer_laws.specs.CloserRows.{local_preemption_row, local_wait_row, local_runner_row}
use Rattle.closer_fmlp.proofs.rows.add_local_rows.Goals as goal

pub returns : goal.returns
returns g c =
    let set = c.args.set.now in
    let i = c.args.i.0 in
    let seen = map column_seen c.args.columns.now in
    let behind = g.met.T.RowTaker.behind in
    behind c.args.taker.now c.add_row_limited.new.taker c.add_row-2.new.taker seen (local_preemption_row set i ∷ [])
    (local_wait_row set i ∷ local_runner_row set i ∷ []) c.args.bounds.now c.in_ok-add_row_limited.ensures
    (behind c.add_row_limited.new.taker c.add_row.new.taker c.add_row-2.new.taker seen (local_wait_row set i ∷ []) (local_runner_row set i ∷ [])
    c.args.bounds.now c.in_ok-add_row.ensures c.in_ok-add_row-2.ensures)
