use Rattle.std.proofs.Common.{◌+◌, ◌++◌, map, length}
use Rattle.blocking_columns.specs.ColumnDef.{column_seen}
use Rattle.fragments.specs.Constraints.{per, per_pair}
use Rattle.closer_spin_laws.specs.CloserSpinRows.{lower_spinning_row, other_lower_spinning_row, lone_spinning_with_row}
use Rattle.closer_spin.proofs.programs.add_together_rows.Goals as goal

pub returns : goal.returns
returns g c =
    let set = c.args.task.now.set.now in
    let i = c.args.task.now.i.0 in
    let m = length set.resources in
    let bounds = c.args.task.now.bounds.now in
    let seen = map column_seen c.args.task.now.columns.now in
    let end = c.add_pairs-2.new.taker in
    let behind = g.met.T.RowTaker.behind in
    let all = per set.processors (λ k. lower_spinning_row set i (k + 1)) in
    let others = per_pair set.processors m (λ k q. other_lower_spinning_row set i (k + 1) q) in
    let lone = per_pair set.processors m (λ k q. lone_spinning_with_row set i (k + 1) q) in
    behind c.args.taker.now c.add_groups.new.taker end seen all (others ++ lone) bounds c.in_ok-add_groups.ensures
    (behind c.add_groups.new.taker c.add_pairs.new.taker end seen others lone bounds c.in_ok-add_pairs.ensures c.in_ok-add_pairs-2.ensures)
