-- What a shelf was asked for and gave, and what a sink took. Only proofs read this.
use Rattle.std.specs.Prelude.{◌≡◌, ℕ, ◌==◌, Bool, true, false, List, [], ◌∷◌, ◌++◌, length, Option, Some, None, codes, refl}
use Rattle.outside_ports.specs.declared.shelf.ShelfFault.{ShelfFault}
use Rattle.outside_ports.specs.declared.shelf.ShelfFault.TheVariants.{Absent}

-- One start of an input: its name; why it wasn't started, if it wasn't; the bytes that reads gave since; and whether the last of these
-- reads gave none, which is the input's end.
pub record Asked : Type 0 where
  pub name : List ℕ
  pub fault : Option ShelfFault
  pub bytes : List ℕ
  pub ended : Bool

-- an input that was started, and of which nothing was read yet
abbrev pub begun : List ℕ → Asked
begun name = record { name = name; fault = None; bytes = []; ended = false }

-- an input that wasn't started
abbrev pub unbegun : List ℕ → ShelfFault → Asked
unbegun name fault = record { name = name; fault = Some fault; bytes = []; ended = false }

-- an input that gave these bytes, and then its end
abbrev pub wholly : List ℕ → List ℕ → Asked
wholly name bytes = record { name = name; fault = None; bytes = bytes; ended = true }

-- an input that gave these bytes, and no end yet
abbrev pub partly : List ℕ → List ℕ → Asked
partly name bytes = record { name = name; fault = None; bytes = bytes; ended = false }

-- The readings after one more read. Its bytes belong to the last start. If there are none, it is the end.
abbrev pub extended : List Asked → List ℕ → List Asked
extended [] bytes = []
extended (asked ∷ earlier) bytes = record asked { bytes = asked.bytes ++ bytes; ended = length bytes == 0 } ∷ earlier

-- The readings of a shelf, the last one first, and the bytes that a sink took.
pub record Past : Type 0 where
  pub readings : List Asked
  pub written : List ℕ

-- nothing was asked for or given yet
abbrev pub nothing_yet : Past
nothing_yet = record { readings = []; written = [] }

-- two bytes, one byte and then none are an input of three bytes that was read to its end
pub extended-example : extended (extended (extended (begun (codes "set") ∷ []) (codes "ab")) (codes "c")) [] ≡ wholly (codes "set") (codes "abc") ∷ []
extended-example = refl

-- a read of nothing after a start that failed ends no earlier input
pub extended-refused : extended (unbegun (codes "b") Absent ∷ partly (codes "a") (codes "x") ∷ []) []
    ≡ record (unbegun (codes "b") Absent) { ended = true } ∷ partly (codes "a") (codes "x") ∷ []
extended-refused = refl
