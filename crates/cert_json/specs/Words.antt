-- The words in a certificate.
use Rattle.std.specs.Prelude.{ℕ, Bool, List, codes}
use Rattle.std.specs.Str.{bytes_eq}

-- Is it the word of the verdict that every deadline is met?
abbrev pub is_verdict_word : List ℕ → Bool
is_verdict_word word = bytes_eq word (codes "schedulable")
