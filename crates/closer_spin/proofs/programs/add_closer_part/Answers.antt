use Rattle.std.proofs.Common.{◌++◌, map}
use Rattle.blocking_columns.specs.ColumnDef.{column_seen}
use Rattle.closer_spin_laws.specs.CloserSpinRows.{closer_spinning_rows, together_rows, lone_spinning_rows}
use Rattle.closer_spin.proofs.programs.add_closer_part.Goals as goal

pub returns : goal.returns
returns g c =
    let set = c.args.set.now in
    let i = c.args.i.0 in
    let bounds = c.args.bounds.now in
    let seen = map column_seen c.args.columns.now in
    let end = c.add_closer_rows.new.taker in
    let behind = g.met.T.RowTaker.behind in
    let spinning = closer_spinning_rows set i in
    let lone = lone_spinning_rows set i in
    behind c.args.taker.now c.add_together_rows.new.taker end seen (together_rows set i) (lone ++ spinning) bounds
    c.in_ok-add_together_rows.ensures
    (behind c.add_together_rows.new.taker c.add_groups.new.taker end seen lone spinning bounds
    c.in_ok-add_groups.ensures c.in_ok-add_closer_rows.ensures)
