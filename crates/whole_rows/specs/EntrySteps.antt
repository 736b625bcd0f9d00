-- What is added to a list of nonzero numbers.
use Rattle.std.specs.Prelude.{◌≡◌, ◌≢◌, ◌⊎◌, ℕ, List, [], ◌∷◌, ◌++◌, ℤ, pos}
use Rattle.whole_rows.specs.declared.entries.Entry.{Entry}

-- Is `after` the list with one more number at its end? Zero gets no entry.
abbrev pub IsPushed : List Entry → ℕ → ℤ → List Entry → Type 0
IsPushed before k n after = ((n ≡ pos 0) × (after ≡ before)) ⊎ ((n ≢ pos 0) × (after ≡ before ++ record { place = k; num = n } ∷ []))
