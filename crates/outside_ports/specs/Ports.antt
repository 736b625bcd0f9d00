-- What contracts see of a shelf and of a sink.
use Rattle.std.specs.Prelude.{ℕ, Bool, false, List, Option, Some, None}
use Rattle.outside_ports.specs.Names.{Inputs}
use Rattle.outside_ports.specs.Past.{Asked}

-- A shelf: its inputs with their bytes, if it tells them; the rest of the started input, if it tells it; the number of bytes given since
-- the last start; the count of faults; the number of its calls, if it counts them; whether it promises that no later call fails; and what
-- it was asked for and gave, the last reading first.
pub record ShelfDef : Type 0 where
  pub names : Option Inputs
  pub rest : Option (List ℕ)
  pub given : ℕ
  pub faults : ℕ
  pub calls : ℕ
  pub steady : Bool
  pub readings : List Asked

-- A sink: the bytes written, if it tells them; the count of faults; the number of its writes, if it counts them; and how many more bytes it
-- promises to take with no fault.
pub record SinkDef : Type 0 where
  pub written : Option (List ℕ)
  pub faults : ℕ
  pub calls : ℕ
  pub room : ℕ

-- A shelf that tells no inputs, counts no calls and promises nothing of later ones.
abbrev pub untold : ℕ → ℕ → List Asked → ShelfDef
untold given faults readings = record {
  names = None;
  rest = None;
  given = given;
  faults = faults;
  calls = 0;
  steady = false;
  readings = readings;
}

-- A sink that tells its bytes, counts no writes and promises no room.
abbrev pub uncounted : List ℕ → ℕ → SinkDef
uncounted written faults = record { written = Some written; faults = faults; calls = 0; room = 0 }
