use Rattle.std.proofs.Common.{◌+◌, List, map, arith, sym, subst}
use Rattle.blocking_columns.specs.ColumnDef.{column_seen}
use Rattle.fragments.specs.Constraints.{ConstraintDef}
use Rattle.fragments.proofs.Rows.{no_rows_below}
use Rattle.fragments.proofs.RowStretches.{columns_between}
use Rattle.fragments.proofs.walks.add_per_lower_task.Goals as goal

pub loop-x-init : goal.loop-x-init
loop-x-init g c =
    let rows = g.R.PerTask.rows_of c.args.rows.now c.args.set.now c.args.i.0 in
    let seen = map column_seen c.args.columns.now in
    let taker = c.args.taker.now in
    let taken : List ConstraintDef → Type 0 = λ xs. g.T.RowTaker.takes taker seen xs c.args.bounds.now taker in
    subst taken (sym (no_rows_below (c.args.i.0 + 1) rows (λ k l. c.requires.none k (omega (arith, l)))))
    (g.met.T.RowTaker.none taker seen c.args.bounds.now)

pub add-requires-clause-columns : goal.add-requires-clause-columns
add-requires-clause-columns g c = columns_between c.args.set.now c.args.bounds.now c.args.i.0 c.loop-x.x c.args.columns.now c.args.places.now _ _
    c.requires.laid (omega (arith, c.loop-x-test.true, c.tasks-tasks.ensures.value))
