-- How the fields of a `MemShelf` are read as a shelf in memory.
use Rattle.std.specs.Prelude.{◌≡◌, ℕ, List, [], ◌∷◌, map, drop, String, Vec, string_bytes, Option, Some, None}
use Rattle.std.specs.Global.{Global}
use Rattle.outside_ports.specs.Names.{Inputs, bytes_of}
use Rattle.outside_ports.specs.MemoryShelf.{MemoryShelf}
use Rattle.outside_ports.specs.declared.memory_shelf.MemShelf.TheInside.{Inside}

-- the inputs of a list of files
abbrev pub inputs_of : List (String Global × Vec ℕ Global) → Inputs
inputs_of files = map (λ file. (string_bytes file.0, file.1.items)) files

-- the bytes of the first input, and none if there is no input
abbrev pub first_bytes : Inputs → List ℕ
first_bytes [] = []
first_bytes (input ∷ inputs) = input.1

-- the bytes of the input at a place, from `at` on, and none past the last place
abbrev pub rest_at : Inputs → ℕ → ℕ → List ℕ
rest_at inputs place at = drop at (first_bytes (drop place inputs))

-- Has the input at this place the bytes that belong to the name? There is no place only if no input has the name.
abbrev pub IsPlaceOf : Inputs → List ℕ → Option ℕ → Type 0
IsPlaceOf inputs name None = bytes_of inputs name ≡ None
IsPlaceOf inputs name (Some place) = bytes_of inputs name ≡ Some (rest_at inputs place 0)

abbrev pub memory_shelf : Inside → MemoryShelf
memory_shelf shelf = record {
  inputs = inputs_of shelf.files.items;
  piece = shelf.piece;
  failing = shelf.failing.items;
  calls = shelf.calls;
  faults = shelf.faults;
  given = shelf.given;
  rest = rest_at (inputs_of shelf.files.items) shelf.place shelf.at;
  readings = shelf.history.past.readings;
}
