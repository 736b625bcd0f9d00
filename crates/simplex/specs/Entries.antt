-- Lists of nonzero cells, each at its variable.
use Rattle.std.specs.Prelude.{◌≡◌, ◌≢◌, ℕ, ◌<◌, ◌≤◌, ◌==◌, if◌then◌else◌, List, [], ◌∷◌, length, slice_index_or, Option}
use Rattle.std.specs.Prelude.{Some, None, Bool, true, false, pos, ◌≤ℤ◌, ◌<ℤ◌}
use Rattle.fraction128.specs.Fraction.{Fraction, IsForm, whole}
use Rattle.simplex.specs.declared.entries.Entry.{Entry}

-- The value at variable v, and zero if v isn't listed.
abbrev pub listed_at : List Entry → ℕ → Fraction
listed_at [] v = whole (pos 0)
listed_at (e ∷ es) v = if e.variable == v then e.value else listed_at es v

-- the entry at a place of a list
abbrev pub entry_at : List Entry → ℕ → Entry
entry_at entries k = slice_index_or entries k (record { variable = 0; value = whole (pos 0) })

-- Do the variables rise, can a `Frac` hold each value, and is none zero?
pub record AreSparse (entries : List Entry) : Type 0 where
  pub rise : (i j : ℕ) → i < j → j < length entries → (entry_at entries i).variable < (entry_at entries j).variable
  pub forms : (k : ℕ) → k < length entries → IsForm (entry_at entries k).value
  pub nonzero : (k : ℕ) → k < length entries → (entry_at entries k).value.num ≢ pos 0

-- Are all variables below `end`?
abbrev pub AreBelow : ℕ → List Entry → Type 0
AreBelow end entries = (k : ℕ) → k < length entries → (entry_at entries k).variable < end

-- Are they a list of nonzero cells in order of their variables, all below `end`?
pub record AreSparseBelow (end : ℕ) (entries : List Entry) : Type 0 where
  pub sparse : AreSparse entries
  pub below : AreBelow end entries

-- Is it the value at variable v, which a `Frac` can hold?
pub record IsValueAt (entries : List Entry) (v : ℕ) (f : Fraction) : Type 0 where
  pub value : f ≡ listed_at entries v
  pub form : IsForm f

-- Are the first `count` entries those of variables below v?
pub record IsSplit (entries : List Entry) (count v : ℕ) : Type 0 where
  pub within : count ≤ length entries
  pub before : (k : ℕ) → k < count → (entry_at entries k).variable < v
  pub behind : (k : ℕ) → count ≤ k → k < length entries → v ≤ (entry_at entries k).variable

-- The same of a list of nonzero cells in order of their variables.
pub record IsSplitAt (entries : List Entry) (count v : ℕ) : Type 0 where
  pub sparse : AreSparse entries
  pub split : IsSplit entries count v

-- Is the entry at a place of the list that of variable v?
abbrev pub IsAt : Bool → List Entry → ℕ → ℕ → Type 0
IsAt true entries k v = (k < length entries) × ((entry_at entries k).variable ≡ v)
IsAt false entries k v = k < length entries → (entry_at entries k).variable ≢ v

-- Is v the variable of the entry after this many others, or `end` after the last one?
pub record IsBehind (entries : List Entry) (count end v : ℕ) : Type 0 where
  pub listed : count < length entries → v ≡ (entry_at entries count).variable
  pub past : length entries ≤ count → v ≡ end

-- The first variable whose listed value is above zero, or None if there is none.
abbrev pub IsFirstListed : Option ℕ → List Entry → Type 0
IsFirstListed (Some e) entries =
    ((k : ℕ) × (k < length entries) × ((entry_at entries k).variable ≡ e))
    × (pos 0 <ℤ (listed_at entries e).num) × ((v : ℕ) → v < e → (listed_at entries v).num ≤ℤ pos 0)
IsFirstListed None entries = (v : ℕ) → (listed_at entries v).num ≤ℤ pos 0
