use Rattle.std.proofs.Common.{◌≡◌, false, take}
use Rattle.std.specs.List.{list_any}
use Rattle.blocking_columns.specs.Columns.{is_lower_local}
use Rattle.spin_protocol.proofs.rows.is_used_below.Given as goal

abbrev pub invariant-loop-x : goal.invariant-loop-x
invariant-loop-x l = list_any (λ x. is_lower_local l.set l.i.0 x.0) (take l.x-index l.users) ≡ false
