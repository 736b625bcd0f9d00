use Rattle.std.proofs.Common.{List, ◌++◌, map, subst}
use Rattle.blocking_columns.specs.ColumnDef.{column_seen}
use Rattle.fragments.specs.Constraints.{ConstraintDef}
use Rattle.direct_constraints.specs.Rows.{common_rows, own_rows}
use Rattle.preempt_constraints.specs.Rows.{preemption_rows}
use Rattle.indirect_constraints.specs.Rows.{indirect_rows}
use Rattle.program_laws.proofs.RowKinds.{direct_then_indirect}
use Rattle.protocol_programs.proofs.programs.add_rows.Goals as goal

pub returns-clause-rows : goal.returns-clause-rows
returns-clause-rows g c =
    let p = c.args.protocol in
    let set = c.args.set.now in
    let i = c.args.i.0 in
    let bounds = c.args.bounds.now in
    let seen = map column_seen c.args.columns.now in
    let behind = g.met.T.RowTaker.behind in
    let last = behind c.add_interval_rows.new.taker c.add_own.new.taker c.add_rows.new.taker seen (own_rows p set i) (indirect_rows p set i)
    bounds c.in_ok-add_own.ensures c.in_ok-add_rows.ensures in
    let three = behind c.add_common.new.taker c.add_interval_rows.new.taker c.add_rows.new.taker seen (preemption_rows set i)
    (own_rows p set i ++ indirect_rows p set i) bounds c.in_ok-add_interval_rows.ensures last in
    let four = behind c.args.taker.now c.add_common.new.taker c.add_rows.new.taker seen (common_rows set i)
    (preemption_rows set i ++ (own_rows p set i ++ indirect_rows p set i)) bounds c.in_ok-places.ensures.rows three in
    subst (λ (rows : List ConstraintDef). g.T.RowTaker.takes c.args.taker.now seen
    (common_rows set i ++ (preemption_rows set i ++ rows)) bounds c.add_rows.new.taker) (direct_then_indirect p set i) four
