use Rattle.std.proofs.Common.{◌≡◌, not, false, take}
use Rattle.std.specs.List.{list_any}
use Rattle.blocking_columns.specs.Columns.{have_one_processor}
use Rattle.shared_requests.proofs.sharing.is_shared_out.Given as goal

abbrev pub invariant-loop-y : goal.invariant-loop-y
invariant-loop-y l = list_any (λ y. not (have_one_processor l.set y.0 l.x.0)) (take l.y-index l.users) ≡ false
