use Rattle.std.proofs.Common.{map, length}
use Rattle.blocking_columns.specs.ColumnDef.{column_seen}
use Rattle.fragments.specs.Constraints.{per, per_pair}
use Rattle.closer_mpcp_laws.specs.CloserMpcpRows.{shared_holding_row, resource_holding_row}
use Rattle.mpcp_window_laws.specs.WaitRows.{held_in_waits}
use Rattle.closer_mpcp.proofs.rows.add_holding_rows.Goals as goal

pub returns : goal.returns
returns g c =
    let set = c.args.set.now in
    let i = c.args.i.0 in
    g.met.T.RowTaker.behind c.args.taker.now c.add_per_task.new.taker c.add_per_request_at.new.taker (map column_seen c.args.columns.now)
    (per (length set.tasks) (shared_holding_row set (held_in_waits set i) i))
    (per_pair (length set.tasks) (length set.resources) (resource_holding_row set (held_in_waits set i) i)) c.args.bounds.now c.in_ok-add_per_task.ensures
    (rw c.tasks-tasks.ensures.value at c.in_ok-add_per_request_at.ensures)
