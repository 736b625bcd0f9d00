use Rattle.std.proofs.Common.{◌≡◌, false}
use Rattle.std.specs.List.{AllWithin}
use Rattle.blocking_columns.specs.declared.columns.Class.TheVariants.{Indirect}
use Rattle.blocking_columns.specs.ColumnDef.{column_seen, is_class}
use Rattle.closer_mpcp.proofs.rows.has_indirect.Given as goal

abbrev pub invariant-loop-place : goal.invariant-loop-place
invariant-loop-place l = AllWithin (λ c. is_class Indirect (column_seen c).class ≡ false) l.columns l.from l.place
