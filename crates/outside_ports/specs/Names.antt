-- The inputs of a shelf: names with their bytes. A shelf tells them, or doesn't.
use Rattle.std.specs.Prelude.{◌≡◌, ℕ, ◌<◌, List, [], ◌∷◌, length, Option, Some, None, IsSomeAnd, codes, refl, if◌then◌else◌}
use Rattle.std.specs.Str.{bytes_eq}
use Rattle.outside_ports.specs.Counts.{Rose}

-- inputs in their order, each a name with its bytes
abbrev pub Inputs : Type 0
Inputs = List (List ℕ × List ℕ)

-- The bytes of the input of this name. If two have the same name, the first counts.
abbrev pub bytes_of : Inputs → List ℕ → Option (List ℕ)
bytes_of [] name = None
bytes_of (input ∷ inputs) name = if bytes_eq input.0 name then Some input.1 else bytes_of inputs name

-- of two inputs of one name the first is found, and none is found if no name is equal
pub bytes_of-first : bytes_of ((codes "set", codes "one") ∷ (codes "set", codes "two") ∷ []) (codes "set") ≡ Some (codes "one")
bytes_of-first = refl

pub bytes_of-absent : bytes_of ((codes "set", codes "one") ∷ []) (codes "sets") ≡ None
bytes_of-absent = refl

-- Are these the bytes of the named input, if the names are told?
abbrev pub IsNamed : Option Inputs → List ℕ → List ℕ → Type 0
IsNamed None name bytes = Unit {0}
IsNamed (Some inputs) name bytes = bytes_of inputs name ≡ Some bytes

-- Has the named input more bytes than the limit, if the names are told?
abbrev pub IsLonger : Option Inputs → List ℕ → ℕ → Type 0
IsLonger None name limit = Unit {0}
IsLonger (Some inputs) name limit = IsSomeAnd (bytes_of inputs name) (λ bytes. limit < length bytes)

-- Is the named input started, with this rest? If the rest isn't told, the names aren't told either.
abbrev pub Opens : Option Inputs → List ℕ → Option (List ℕ) → Type 0
Opens names name None = names ≡ None
Opens names name (Some rest) = IsNamed names name rest

-- May a shelf say that the input is absent? If it tells its names, they lack this one. If it doesn't, its count rose.
abbrev pub IsAbsent : Option Inputs → List ℕ → ℕ → ℕ → Type 0
IsAbsent None name before now = Rose before now
IsAbsent (Some inputs) name before now = bytes_of inputs name ≡ None
