-- What each call of a shelf or of a sink makes of it.
use Rattle.std.specs.Prelude.{◌≡◌, ℕ, ◌+◌, ◌-◌, ◌^◌, ◌<◌, ◌≤◌, min, true, List, length, is_some, Result, IsOk, IfOk, IfErr, IsErrOf, OnOk, OnErr, MatchResult}
use Rattle.std.specs.Io.{ReadsAtMost}
use Rattle.std.specs.Io.KnownBytes.{ReadConsumes, WriteAppends, IsAtEnd}
use Rattle.outside_ports.specs.Counts.{Rose}
use Rattle.outside_ports.specs.Names.{Opens, IsAbsent}
use Rattle.outside_ports.specs.Ports.{ShelfDef, SinkDef}
use Rattle.outside_ports.specs.Readings.{AsksFor, ReadsOn}
use Rattle.outside_ports.specs.declared.shelf.ShelfFault.{ShelfFault}
use Rattle.outside_ports.specs.declared.shelf.ShelfFault.TheVariants.{Absent, Failed, Memory}

-- What does a start of this name make of a shelf, and what does its answer say? The shelf tells what it told before, and its inputs stay.
-- Its rest is the named input, or at its end after an error. A shelf that promises that no call fails promises it still, raised no count
-- and didn't answer `Failed`.
pub record Starts (old new : ShelfDef) (name : List ℕ) (answer : Result (Unit {0}) ShelfFault) : Type 0 where
  pub same : new.names ≡ old.names
  pub tells : is_some new.rest ≡ is_some old.rest
  pub opens : OnOk answer (Opens old.names name new.rest)
  pub closes : OnErr answer (IsAtEnd new.rest)
  pub given : new.given ≡ 0
  pub later : old.faults ≤ new.faults
  pub calm : OnOk answer (new.faults ≡ old.faults)
  pub want : IsErrOf answer Memory → new.faults ≡ old.faults
  pub absent : IsErrOf answer Absent → IsAbsent old.names name old.faults new.faults
  pub failed : IsErrOf answer Failed → Rose old.faults new.faults
  pub asks : AsksFor old.readings new.readings name answer
  pub one_call : new.calls ≤ old.calls + 1
  pub steady : old.steady ≡ true → (new.steady ≡ true) × (new.faults ≡ old.faults) × (IsErrOf answer Failed → ⊥)

-- What does a read make of a shelf, if it leaves these bytes in its buffer? The rest loses, and the readings get, as many bytes of the
-- buffer's front as the answer says, and none after an error. A shelf that promises that no call fails promises it still, raised no count,
-- and the read succeeded.
pub record Reads (old new : ShelfDef) (answer : Result ℕ ShelfFault) (buffer : List ℕ) : Type 0 where
  pub same : new.names ≡ old.names
  pub tells : is_some new.rest ≡ is_some old.rest
  pub bound : ReadsAtMost answer buffer
  pub bytes : ReadConsumes old.rest new.rest answer buffer
  pub given : MatchResult answer (λ n. new.given ≡ min (old.given + n) (2 ^ 64 - 1)) (λ _. new.given ≡ old.given)
  pub later : old.faults ≤ new.faults
  pub calm : OnOk answer (new.faults ≡ old.faults)
  pub failed : OnErr answer (Rose old.faults new.faults)
  pub only : IfErr answer (λ fault. fault ≡ Failed)
  pub reads : ReadsOn old.readings new.readings answer buffer
  pub one_call : new.calls ≤ old.calls + 1
  pub steady : old.steady ≡ true → (new.steady ≡ true) × (new.faults ≡ old.faults) × IsOk answer

-- What does a write of this piece make of a sink? The told bytes get as many bytes of the piece's front as the answer says. A piece that
-- fits the promised room is taken with no fault, and the room falls by no more than was taken.
pub record Writes {E : Type 0} (old new : SinkDef) (answer : Result ℕ E) (piece : List ℕ) : Type 0 where
  pub some : IfOk answer (λ n. 0 < n)
  pub bound : IfOk answer (λ n. n ≤ length piece)
  pub tells : is_some new.written ≡ is_some old.written
  pub appends : WriteAppends old.written new.written answer piece
  pub later : old.faults ≤ new.faults
  pub failed : OnErr answer (Rose old.faults new.faults)
  pub one_call : new.calls ≤ old.calls + 1
  pub takes : length piece ≤ old.room
      → MatchResult answer (λ n. (old.room ≤ new.room + n) × (new.faults ≡ old.faults)) (λ _. ⊥)
