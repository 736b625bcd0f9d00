use Rattle.std.proofs.Common.{◌++◌, ◌∷◌, [], map}
use Rattle.blocking_columns.specs.ColumnDef.{column_seen}
use Rattle.direct_constraints.specs.Rows.{common_rows}
use Rattle.spin_charging.specs.SpinPrograms.{lower_request_row}
use Rattle.closer_spin_laws.specs.CloserSpinRows.{closer_spinning_rows, own_spinning_rows, together_rows, lone_spinning_rows}
use Rattle.closer_spin.proofs.programs.add_rows.Goals as goal

pub returns : goal.returns
returns g c =
    let set = c.args.set.now in
    let i = c.args.i.0 in
    let bounds = c.args.bounds.now in
    let seen = map column_seen c.args.columns.now in
    let end = c.add_closer_part.new.taker in
    let behind = g.met.T.RowTaker.behind in
    let further = together_rows set i ++ (lone_spinning_rows set i ++ closer_spinning_rows set i) in
    let rest = own_spinning_rows set i ++ further in
    behind c.args.taker.now c.add_common.new.taker end seen (common_rows set i) (lower_request_row ∷ rest) bounds
    c.in_ok-add_common.ensures.rows
    (behind c.add_common.new.taker c.add_lower_requests.new.taker end seen (lower_request_row ∷ []) rest bounds
    c.in_ok-add_lower_requests.ensures
    (behind c.add_lower_requests.new.taker c.add_own_spinning.new.taker end seen (own_spinning_rows set i) further bounds
    c.in_ok-add_own_spinning.ensures c.in_ok-add_closer_part.ensures))
