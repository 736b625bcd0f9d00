-- How the answer of `load` follows from the answer of its one `start`.
use Rattle.std.specs.Prelude.{◌≡◌, Result, Ok, Err, IsErrOf}
use Rattle.outside_ports.specs.declared.shelf.ShelfFault.{ShelfFault}
use Rattle.outside_ports.specs.declared.shelf.ShelfFault.TheVariants as shelf
use Rattle.outside_ports.specs.declared.whole.LoadFault.{LoadFault}
use Rattle.outside_ports.specs.declared.whole.LoadFault.TheVariants as load

-- Is this the answer of a load whose `start` had this answer? A fault of `start` ends the load. If `start` had none, `Absent` never comes.
abbrev pub FollowsStart : {A : Type 0} → Result (Unit {0}) ShelfFault → Result A LoadFault → Type 0
FollowsStart (Ok _) answer = IsErrOf answer load.Absent → ⊥
FollowsStart (Err shelf.Absent) answer = answer ≡ Err load.Absent
FollowsStart (Err shelf.Failed) answer = answer ≡ Err load.Read
FollowsStart (Err shelf.Memory) answer = answer ≡ Err load.Memory
