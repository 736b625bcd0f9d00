use Rattle.std.proofs.Common.{◌≡◌, map, subst}
use Rattle.sporadic_model.specs.declared.ids.Protocol.{Protocol}
use Rattle.blocking_columns.specs.ColumnDef.{column_seen}
use Rattle.blocking_columns.specs.Columns.{columns_of}
use Rattle.indirect_constraints.proofs.AskedAtHome.{columns_asked_at_home}
use Rattle.indirect_constraints.proofs.add_rows.Goals as goal

pub add_home_rows-requires-clause-asked : goal.add_home_rows-requires-clause-asked
add_home_rows-requires-clause-asked g c = columns_asked_at_home c.args.set.now c.args.i.0 c.args.columns.now
    (subst (λ (p : Protocol). map column_seen c.args.columns.now ≡ columns_of p c.args.set.now c.args.i.0) c.in-Dpcp.is c.requires.at.columns)
