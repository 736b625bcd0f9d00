use Rattle.std.proofs.Common.{map}
use Rattle.blocking_columns.specs.ColumnDef.{column_seen}
use Rattle.closer_mpcp_laws.specs.CloserMpcpRows.{further_rows}
use Rattle.mpcp_window_laws.specs.WaitRows.{held_in_waits, wait_rows}
use Rattle.closer_mpcp.proofs.rows.add_closer_rows.Goals as goal

pub returns : goal.returns
returns g c =
    let set = c.args.set.now in
    let i = c.args.i.0 in
    g.met.T.RowTaker.behind c.args.taker.now c.add_further_rows.new.taker c.add_wait_rows.new.taker (map column_seen c.args.columns.now)
    (further_rows set (held_in_waits set i) i) (wait_rows set i) c.args.bounds.now c.in_ok-add_further_rows.ensures
    c.in_ok-add_wait_rows.ensures
