-- How each call of a shelf changes its readings.
use Rattle.std.specs.Prelude.{◌≡◌, ℕ, List, ◌∷◌, take, Result, Ok, Err}
use Rattle.outside_ports.specs.Past.{Asked, begun, unbegun, extended}
use Rattle.outside_ports.specs.declared.shelf.ShelfFault.{ShelfFault}

-- Do the readings have this start of this name added, and nothing else?
abbrev pub AsksFor : List Asked → List Asked → List ℕ → Result (Unit {0}) ShelfFault → Type 0
AsksFor old new name (Ok _) = new ≡ begun name ∷ old
AsksFor old new name (Err fault) = new ≡ unbegun name fault ∷ old

-- Do the readings have the bytes of this read, which are at the front of the buffer? A read that failed changes nothing.
abbrev pub ReadsOn : {E : Type 0} → List Asked → List Asked → Result ℕ E → List ℕ → Type 0
ReadsOn old new (Ok count) buffer = new ≡ extended old (take count buffer)
ReadsOn old new (Err _) buffer = new ≡ old
