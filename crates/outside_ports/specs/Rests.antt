-- The rest of a started input, if a shelf tells it.
use Rattle.std.specs.Prelude.{ℕ, ◌<◌, List, length, Option, Some, None}

-- Has the rest more bytes than the limit?
abbrev pub HasMore : Option (List ℕ) → ℕ → Type 0
HasMore None limit = Unit {0}
HasMore (Some rest) limit = limit < length rest
