use Rattle.std.proofs.Common.{map}
use Rattle.blocking_columns.specs.ColumnDef.{column_seen}
use Rattle.direct_constraints.specs.Rows.{common_rows}
use Rattle.mpcp_window_laws.proofs.Programs.{behind, holders, holders_and_behind}
use Rattle.closer_mpcp.proofs.programs.add_rows.Goals as goal

pub returns : goal.returns
returns g c =
    let set = c.args.set.now in
    let i = c.args.i.0 in
    let cs = map column_seen c.args.columns.now in
    g.met.T.RowTaker.behind c.args.taker.now c.add_common.new.taker c.add_closer_rows.new.taker cs
    (common_rows set i) (holders_and_behind set i) c.args.bounds.now c.in_ok-places.ensures.rows
    (g.met.T.RowTaker.behind c.add_common.new.taker c.add_own.new.taker c.add_closer_rows.new.taker cs
    (holders set i) (behind set i) c.args.bounds.now c.in_ok-add_own.ensures c.in_ok-add_closer_rows.ensures)
