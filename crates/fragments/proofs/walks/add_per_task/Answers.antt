use Rattle.std.proofs.Common.{arith}
use Rattle.fragments.proofs.RowStretches.{columns_between}
use Rattle.fragments.proofs.walks.add_per_task.Goals as goal

pub add-requires-clause-columns : goal.add-requires-clause-columns
add-requires-clause-columns g c = columns_between c.args.set.now c.args.bounds.now c.args.i.0 c.loop-x.x c.args.columns.now c.args.places.now _ _
    c.requires.laid (omega (arith, c.loop-x-test.true, c.tasks-x-end.ensures.value))
