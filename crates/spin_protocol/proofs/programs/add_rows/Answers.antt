use Rattle.std.proofs.Common.{◌∷◌, [], map}
use Rattle.blocking_columns.specs.ColumnDef.{column_seen}
use Rattle.direct_constraints.specs.Rows.{common_rows}
use Rattle.spin_charging.specs.SpinPrograms.{lower_request_row, spinning_rows}
use Rattle.spin_protocol.specs.SpinRows.{rows_of_kind}
use Rattle.spin_protocol.specs.declared.rows.Spinning.TheVariants as spinning
use Rattle.spin_protocol.proofs.programs.add_rows.Goals as goal

pub returns : goal.returns
returns g c =
    let set = c.args.set.now in
    let i = c.args.i.0 in
    let bounds = c.args.bounds.now in
    let seen = map column_seen c.args.columns.now in
    let end = c.add_own_spinning.new.taker in
    let behind = g.met.T.RowTaker.behind in
    behind c.args.taker.now c.add_common.new.taker end seen (common_rows set i) (lower_request_row ∷ spinning_rows set i) bounds
    c.in_ok-add_common.ensures.rows
    (behind c.add_common.new.taker c.add_lower_requests.new.taker end seen (lower_request_row ∷ []) (spinning_rows set i) bounds
    c.in_ok-add_lower_requests.ensures
    (behind c.add_lower_requests.new.taker c.add_spinning_rows.new.taker end seen (rows_of_kind spinning.All set i)
    (rows_of_kind spinning.Own set i) bounds c.in_ok-add_spinning_rows.ensures c.in_ok-add_own_spinning.ensures))
