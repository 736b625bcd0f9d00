use Rattle.std.proofs.Common.{arith}
use Rattle.blocking_columns.proofs.KnownColumns.{given_known}
use Rattle.blocking_columns.proofs.Order.{given_in_order}
use Rattle.blocking_columns.proofs.stretches.passing_stand_in_order.Goals as goal

pub returns : goal.returns
returns g c = record {
  known = given_known (g.T.ColumnTest.passes c.args.test.now c.args.set.now c.args.i.0) c.args.set.now
      c.args.columns.now c.requires.columns;
  order = given_in_order (g.T.ColumnTest.passes c.args.test.now c.args.set.now c.args.i.0) c.args.set.now
      c.args.columns.now (omega (arith, c.resources-resources.ensures.most, c.resources-resources.ensures.value)) c.requires.columns;
}
