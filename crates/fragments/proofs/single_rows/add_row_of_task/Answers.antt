use Rattle.std.proofs.Common.{◌≡◌, map, arith}
use Rattle.blocking_columns.specs.ColumnDef.{column_seen}
use Rattle.fragments.specs.RowStretch.{IsRowOver}
use Rattle.fragments.proofs.RowStretches.{row_over_task, none_held}
use Rattle.fragments.proofs.single_rows.add_row_of_task.Goals as goal

pub returns-then-stretch : goal.returns-then-stretch
returns-then-stretch g c =
    let set = c.args.set.now in
    let x = c.args.x.0 in
    let cs = c.args.columns.now in
    let row = g.K.TaskRow.row_of c.args.kind.now set c.args.i.0 x in
    let over : IsRowOver set c.args.i.0 row (λ column. column.task ≡ x) cs c.args.stretch.0 c.args.stretch.1 = row_over_task row c.requires.columns
    (omega (arith, c.resources-resources.ensures.most, c.resources-resources.ensures.value))
    (g.met.K.TaskRow.alone c.args.kind.now set c.args.i.0 x) in
    g.met.T.RowTaker.missing c.args.taker.now (map column_seen cs) row c.args.bounds.now
    (none_held row cs c.args.stretch.0 c.args.stretch.1 over.stretch (omega (arith, c.if-stretch.true)))

pub add_row_limited-requires-clause-row : goal.add_row_limited-requires-clause-row
add_row_limited-requires-clause-row g c =
    let set = c.args.set.now in
    let i = c.args.i.0 in
    let x = c.args.x.0 in
    row_over_task (g.K.TaskRow.row_of c.args.kind.now set i x) c.requires.columns
    (omega (arith, c.resources-resources.ensures.most, c.resources-resources.ensures.value)) (g.met.K.TaskRow.alone c.args.kind.now set i x)
