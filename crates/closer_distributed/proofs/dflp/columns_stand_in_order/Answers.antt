use Rattle.std.proofs.Common.{arith}
use Rattle.blocking_columns.proofs.Order.{given_in_order}
use Rattle.dflp_laws.specs.Programs.{is_dflp_column}
use Rattle.closer_distributed.proofs.dflp.columns_stand_in_order.Goals as goal

pub returns : goal.returns
returns c = given_in_order (is_dflp_column c.args.set.now c.args.i.0) c.args.set.now c.args.columns.now
    (omega (arith, c.resources-resources.ensures.most, c.resources-resources.ensures.value)) c.requires.columns
