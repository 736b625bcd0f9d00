-- What a load of an input makes of a shelf, and leaves in its readings.
use Rattle.std.specs.Prelude.{◌≡◌, ℕ, ◌+◌, ◌<◌, ◌≤◌, ◌↔◌, true, List, ◌∷◌, length, vec_len, is_some, Result, Ok, Err, IfOk, OnOk, IsErrOf, Vec}
use Rattle.std.specs.Io.KnownBytes.{IsAtEnd, Consumes}
use Rattle.std.specs.Global.{Global}
use Rattle.outside_ports.specs.Counts.{Rose}
use Rattle.outside_ports.specs.Ports.{ShelfDef}
use Rattle.outside_ports.specs.Rests.{HasMore}
use Rattle.outside_ports.specs.Past.{Asked, begun, unbegun, wholly, partly}
use Rattle.outside_ports.specs.declared.shelf.ShelfFault.TheVariants as shelf
use Rattle.outside_ports.specs.declared.whole.LoadFault.{LoadFault}
use Rattle.outside_ports.specs.declared.whole.LoadFault.TheVariants as load
use Rattle.outside_ports.specs.declared.whole.TheConstants.{GREATEST_INPUT_BYTES}

-- Each load adds one reading of its name. It answers with what that reading gave, from the start to the end. If the input is absent, it was
-- refused as absent. If it is too long, it gave more than the limit, and no read gave its end.
abbrev pub Leaves : Result (Vec ℕ Global) LoadFault → List ℕ → List Asked → List Asked → Type 0
Leaves (Ok bytes) name old new = new ≡ wholly name bytes.items ∷ old
Leaves (Err load.Absent) name old new = new ≡ unbegun name shelf.Absent ∷ old
Leaves (Err load.TooLong) name old new = (bytes : List ℕ) × (new ≡ partly name bytes ∷ old) × (GREATEST_INPUT_BYTES < length bytes)
Leaves (Err _) name old new = (asked : Asked) × (new ≡ asked ∷ old) × (asked.name ≡ name)

-- The same for a load after its start.
abbrev pub LeavesBegun : Result (Vec ℕ Global) LoadFault → List Asked → List Asked → Type 0
LeavesBegun answer old new = (name : List ℕ) → (earlier : List Asked) → old ≡ begun name ∷ earlier → Leaves answer name earlier new

-- What a load makes of a shelf, and what its answer says of it. With all bytes the rest is at its end. `Read` comes only where the count
-- of faults rose, and `TooLong` exactly where more than the limit was given. Success and want of memory leave the count as it was. A
-- shelf that promises that no call fails promises it still, and raised no count.
pub record LoadsFrom (old new : ShelfDef) (answer : Result (Vec ℕ Global) LoadFault) : Type 0 where
  pub ended : OnOk answer (IsAtEnd new.rest)
  pub size : IfOk answer (λ bytes. (vec_len bytes ≡ new.given) × (vec_len bytes ≤ GREATEST_INPUT_BYTES))
  pub read : IsErrOf answer load.Read → Rose old.faults new.faults
  pub too_long : (IsErrOf answer load.TooLong) ↔ (GREATEST_INPUT_BYTES < new.given)
  pub same : new.names ≡ old.names
  pub tells : is_some new.rest ≡ is_some old.rest
  pub later : old.faults ≤ new.faults
  pub calm : OnOk answer (new.faults ≡ old.faults)
  pub want : IsErrOf answer load.Memory → new.faults ≡ old.faults
  pub steady : old.steady ≡ true → (new.steady ≡ true) × (new.faults ≡ old.faults) × (IsErrOf answer load.Read → ⊥)

-- What a load makes of a shelf after its start, of which nothing was read yet. The answer's bytes are what the rest lost. An input that was
-- started isn't absent, and one that is too long had a longer rest. There is at most one call more than an input may have bytes.
pub record ReadsAll (old new : ShelfDef) (answer : Result (Vec ℕ Global) LoadFault) : Type 0 where
  pub whole : IfOk answer (λ bytes. Consumes old.rest new.rest bytes.items)
  pub loads : LoadsFrom old new answer
  pub present : IsErrOf answer load.Absent → ⊥
  pub longer : IsErrOf answer load.TooLong → HasMore old.rest GREATEST_INPUT_BYTES
  pub few_calls : new.calls ≤ old.calls + (GREATEST_INPUT_BYTES + 1)
