use Rattle.std.proofs.Common.{◌++◌, map}
use Rattle.blocking_columns.specs.ColumnDef.{column_seen}
use Rattle.closer_fmlp.specs.Rows.{holder_rows, other_holder_rows, lower_rows, local_rows}
use Rattle.closer_fmlp.proofs.rows.add_closer_rows.Goals as goal

pub returns : goal.returns
returns g c =
    let set = c.args.set.now in
    let i = c.args.i.0 in
    let seen = map column_seen c.args.columns.now in
    let behind = g.met.T.RowTaker.behind in
    behind c.args.taker.now c.add_holder_rows.new.taker c.add_local_rows.new.taker seen (holder_rows set i)
    (other_holder_rows set i ++ (lower_rows set i ++ local_rows set i)) c.args.bounds.now c.in_ok-add_holder_rows.ensures
    (behind c.add_holder_rows.new.taker c.add_other_holder_rows.new.taker c.add_local_rows.new.taker seen (other_holder_rows set i)
    (lower_rows set i ++ local_rows set i) c.args.bounds.now c.in_ok-add_other_holder_rows.ensures
    (behind c.add_other_holder_rows.new.taker c.add_lower_rows.new.taker c.add_local_rows.new.taker seen (lower_rows set i) (local_rows set i)
    c.args.bounds.now c.in_ok-add_lower_rows.ensures c.in_ok-add_local_rows.ensures))
