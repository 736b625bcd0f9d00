use Rattle.std.proofs.Common.{◌≡◌, ◌&&◌, false, take, nat_le}
use Rattle.std.specs.List.{list_any}
use Rattle.blocking_columns.specs.Columns.{have_one_processor}
use Rattle.sporadic_model.specs.declared.ids.TaskId.{TaskId}
use Rattle.closer_spin.proofs.tables.is_used_above.Given as goal

abbrev pub invariant-loop-x : goal.invariant-loop-x
invariant-loop-x l = list_any (λ (x : TaskId). nat_le x.0 l.i.0 && have_one_processor l.set x.0 l.i.0) (take l.x-index l.users) ≡ false
