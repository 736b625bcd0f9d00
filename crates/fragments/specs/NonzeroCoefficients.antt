-- The coefficients of a row that aren't zero.
use Rattle.std.specs.Prelude.{◌≡◌, ℕ, ◌<◌, ◌==◌, if◌then◌else◌, List, [], ◌∷◌, ◌++◌, slice_index_or}
use Rattle.program_form.specs.SparseRows.{SparseRowsDef, number_at, AreCoefficients}
use Rattle.program_form.specs.declared.sparse_rows.Coefficient.{Coefficient}
use Rattle.blocking_columns.specs.declared.columns.Fragment.{Fragment}
use Rattle.blocking_columns.specs.ColumnDef.{column_seen}
use Rattle.fragments.specs.Constraints.{ConstraintDef}

-- The list, followed by the coefficient of the column at the place, unless that is zero.
abbrev pub with_nonzero : List Coefficient → ℕ → ℕ → List Coefficient
with_nonzero cs place number = if number == 0 then cs else cs ++ record { column = place; number = number } ∷ []

-- Are these the nonzero coefficients of the row's first n columns?
pub record AreNonzeroOf (row : ConstraintDef) (columns : List Fragment) (n : ℕ) (cs : List Coefficient) : Type 0 where
  pub listed : AreCoefficients n cs
  pub told : (k : ℕ) (d : Fragment) → k < n → number_at cs k ≡ row.coefficient (column_seen (slice_index_or columns k d))

-- Is b what a is with one row more, of this limit, which has the row's nonzero coefficients among its first n columns?
pub record HasRowBegun (a : SparseRowsDef) (row : ConstraintDef) (columns : List Fragment) (n limit : ℕ) (b : SparseRowsDef) : Type 0 where
  pub list : List Coefficient
  pub nonzero : AreNonzeroOf row columns n list
  pub rows : b.rows ≡ a.rows ++ list ∷ []
  pub limits : b.limits ≡ a.limits ++ limit ∷ []
