use Rattle.direct_constraints.proofs.AskedColumns.{columns_asked}
use Rattle.direct_constraints.proofs.add_own.Goals as goal

pub add_lower_holder_rows-requires-clause-asked : goal.add_lower_holder_rows-requires-clause-asked
add_lower_holder_rows-requires-clause-asked g c =
    columns_asked c.args.protocol c.args.set.now c.args.i.0 c.args.columns.now c.requires.at.columns
