use Rattle.std.proofs.Common.{◌≡◌, ◌==◌, ◌&&◌, not, false, take}
use Rattle.std.specs.List.{list_any}
use Rattle.blocking_columns.specs.Columns.{have_one_processor}
use Rattle.spin_protocol.proofs.programs.UsedBesideResourceTest.test.Given as goal

abbrev pub invariant-loop-z : goal.invariant-loop-z
invariant-loop-z l =
    list_any (λ z. not (z.0 == l.i.0) && have_one_processor l.set z.0 l.i.0) (take l.z-index l.users) ≡ false
