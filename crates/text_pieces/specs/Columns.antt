-- Texts in columns of a fixed width, filled with spaces.
use Rattle.std.specs.Prelude.{ℕ, ◌-◌, List, ◌++◌, length, replicate}

-- The code of a space.
abbrev pub space : ℕ
space = 32

-- A text on the left of this many places. A longer text stays as it is.
abbrev pub left : ℕ → List ℕ → List ℕ
left width text = text ++ replicate (width - length text) space

-- A text on the right of this many places. A longer text stays as it is.
abbrev pub right : ℕ → List ℕ → List ℕ
right width text = replicate (width - length text) space ++ text
