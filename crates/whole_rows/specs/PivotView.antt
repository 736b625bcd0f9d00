-- What contracts see of a `Pivot` as a row that is subtracted from others, and what every `Pivot` keeps.
use Rattle.std.specs.Prelude.{ℕ, ◌<◌, ◌≤◌, ◌^◌, pos, ◌<ℤ◌, unsigned_abs}
use Rattle.whole_rows.specs.Rows.{PivotDef, AreSparse, entry_at}
use Rattle.whole_rows.specs.Large.{IsSizeInPivot}
use Rattle.whole_rows.specs.declared.pivot.Pivot.TheInside.{Inside}

abbrev pub pivot_view : Inside → PivotDef
pivot_view pivot = record { entries = pivot.entries.items; limit = pivot.limit; den = pivot.den }

-- Do the places rise, is no number zero, and is the denominator above zero? And is this the greatest size of a number or of the limit, and
-- does it fit?
pub record IsBoundedPivot (pivot : PivotDef) (most : ℕ) : Type 0 where
  pub sparse : AreSparse pivot.entries
  pub positive : pos 0 <ℤ pivot.den
  pub nums : (j : ℕ) → unsigned_abs (entry_at pivot.entries j).num ≤ most
  pub limit : unsigned_abs pivot.limit ≤ most
  pub fits : most < 2 ^ 63
  pub attained : IsSizeInPivot pivot most

abbrev pub IsKept : Inside → Type 0
IsKept pivot = IsBoundedPivot (pivot_view pivot) pivot.most
