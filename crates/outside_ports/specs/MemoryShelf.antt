-- A shelf in memory: inputs, and a list of the calls that fail.
use Rattle.std.specs.Prelude.{◌≡◌, ℕ, ◌==◌, ◌++◌, min, Bool, List, length, take, drop, Option, Some, None, Result, Ok, Err, if◌then◌else◌}
use Rattle.std.specs.List.{list_any}
use Rattle.outside_ports.specs.Counts.{counted}
use Rattle.outside_ports.specs.Names.{Inputs, bytes_of}
use Rattle.outside_ports.specs.Past.{Asked}
use Rattle.outside_ports.specs.Ports.{ShelfDef}
use Rattle.outside_ports.specs.declared.shelf.ShelfFault.{ShelfFault}
use Rattle.outside_ports.specs.declared.shelf.ShelfFault.TheVariants.{Absent, Failed}

-- `piece` is the most bytes of one read, `calls` counts each `start` and `read`, `failing` lists the numbers of
-- calls that fail, `given` counts the bytes given since the last `start`, `rest` is what is left of the input, and
-- `readings` are its starts and what each of them gave, the last one first
pub record MemoryShelf : Type 0 where
  pub inputs : Inputs
  pub piece : ℕ
  pub failing : List ℕ
  pub calls : ℕ
  pub faults : ℕ
  pub given : ℕ
  pub rest : List ℕ
  pub readings : List Asked

-- Is the number of the next call listed?
abbrev pub fails_next : MemoryShelf → Bool
fails_next shelf = list_any (λ number. number == counted shelf.calls) shelf.failing

-- Will no call fail?
abbrev pub never_fails : MemoryShelf → Bool
never_fails shelf = length shelf.failing == 0

-- What contracts see of it as of a shelf. It tells all.
abbrev pub as_shelf : MemoryShelf → ShelfDef
as_shelf shelf = record {
  names = Some shelf.inputs;
  rest = Some shelf.rest;
  given = shelf.given;
  faults = shelf.faults;
  calls = shelf.calls;
  steady = never_fails shelf;
  readings = shelf.readings;
}

-- Is there an input?
abbrev pub found : Option (List ℕ) → Result (Unit {0}) ShelfFault
found None = Err Absent
found (Some bytes) = Ok tt

-- What does the next `start` answer? It fails if its number is listed. Else it looks for the name.
abbrev pub start_answer : MemoryShelf → List ℕ → Result (Unit {0}) ShelfFault
start_answer shelf name = if fails_next shelf then Err Failed else found (bytes_of shelf.inputs name)

-- What does every call do to the shelf's counts? It is counted. Its fault is counted exactly if its number is listed. What was given to
-- `new` stays.
pub record CountsCall (old new : MemoryShelf) : Type 0 where
  pub inputs : new.inputs ≡ old.inputs
  pub piece : new.piece ≡ old.piece
  pub failing : new.failing ≡ old.failing
  pub calls : new.calls ≡ counted old.calls
  pub faults : new.faults ≡ (if fails_next old then counted old.faults else old.faults)

-- Was this many bytes moved from the front of the rest to the front of the buffer? It is the least of `piece` and of both lengths.
pub record MovesFront (rest : List ℕ) (piece : ℕ) (old new : List ℕ) (moved_bytes : ℕ) : Type 0 where
  pub count : moved_bytes ≡ min (min piece (length old)) (length rest)
  pub moved : rest ≡ take moved_bytes new ++ drop moved_bytes rest
