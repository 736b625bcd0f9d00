use Rattle.std.proofs.Common.{◌∷◌, [], map}
use Rattle.blocking_columns.specs.ColumnDef.{column_seen}
use Rattle.closer_laws.specs.CloserRows.{local_preemption_row}
use Rattle.closer_mpcp_laws.specs.CloserMpcpRows.{lower_wait_row}
use Rattle.closer_mpcp.proofs.rows.add_single_rows.Goals as goal

pub returns : goal.returns
returns g c =
    let set = c.args.set.now in
    let i = c.args.i.0 in
    let seen = map column_seen c.args.columns.now in
    g.met.T.RowTaker.behind c.args.taker.now c.add_row_limited.new.taker c.add_row.new.taker seen (local_preemption_row set i ∷ [])
    (lower_wait_row set i ∷ []) c.args.bounds.now c.in_ok-add_row_limited.ensures c.in_ok-add_row.ensures
