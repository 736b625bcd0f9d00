-- What contracts see of a row of a table. All else reads it only by its places and its cells.
use Rattle.std.specs.Prelude.{◌≡◌, ℕ, ◌+◌, ◌==◌, if◌then◌else◌, List, [], pos}
use Rattle.fraction128.specs.Fraction.{Fraction, IsForm, whole}
use Rattle.simplex.specs.declared.entries.Entry.{Entry}
use Rattle.simplex.specs.Entries.{listed_at, AreSparse, AreBelow}

-- The nonzero cells in order of their variables, and the limit. The limit is at the place after all variables.
pub record RowDef : Type 0 where
  pub entries : List Entry
  pub place : ℕ
  pub limit : Fraction

-- The row of these cells, with its limit at this place.
abbrev pub row_with : List Entry → ℕ → Fraction → RowDef
row_with entries place limit = record { entries = entries; place = place; limit = limit }

-- How many places has the row?
abbrev pub places : RowDef → ℕ
places row = row.place + 1

-- The fraction at place v. It is zero if none is listed, and past the places too.
abbrev pub cell_at : RowDef → ℕ → Fraction
cell_at row v = if row.place == v then row.limit else listed_at row.entries v

-- Has the row a place for each of this many variables, and one for its limit?
abbrev pub Fits : ℕ → RowDef → Type 0
Fits variables row = places row ≡ variables + 1

-- Do the variables rise up to the place of the limit? Is no cell but the limit zero? And can a `Frac` hold each cell?
pub record IsSparseRow (row : RowDef) : Type 0 where
  pub sparse : AreSparse row.entries
  pub below : AreBelow row.place row.entries
  pub limit_form : IsForm row.limit

-- Can a `Frac` hold each cell?
abbrev pub HasForms : RowDef → Type 0
HasForms row = (v : ℕ) → IsForm (cell_at row v)

-- Is it the row's cell at place v? And can a `Frac` hold each of its cells?
pub record IsCellRead (row : RowDef) (v : ℕ) (f : Fraction) : Type 0 where
  pub value : f ≡ cell_at row v
  pub forms : HasForms row

-- The row without variables, whose limit is zero.
abbrev pub no_row : RowDef
no_row = record { entries = []; place = 0; limit = whole (pos 0) }
