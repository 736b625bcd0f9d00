-- What contracts see of rows that are kept by their nonzero coefficients: the coefficients of each row, and the full rows that these give.
use Rattle.std.specs.Prelude.{ℕ, ◌<◌, ◌==◌, if◌then◌else◌, List, [], ◌∷◌, map, length, slice_index_or}
use Rattle.std.specs.List.{range_with_len}
use Rattle.program_form.specs.RowBlock.{RowBlockDef}
use Rattle.program_form.specs.declared.sparse_rows.Coefficient.{Coefficient}

-- The coefficients of each row, and the limit of each.
pub record SparseRowsDef : Type 0 where
  pub rows : List (List Coefficient)
  pub limits : List ℕ

-- The number of column v, and zero if v isn't listed.
abbrev pub number_at : List Coefficient → ℕ → ℕ
number_at [] v = 0
number_at (c ∷ cs) v = if c.column == v then c.number else number_at cs v

-- The full row of n columns that these coefficients give.
abbrev pub full_row : ℕ → List Coefficient → List ℕ
full_row n cs = map (number_at cs) (range_with_len 0 n)

-- The coefficient at a place of a list.
abbrev pub coefficient_at : List Coefficient → ℕ → Coefficient
coefficient_at cs k = slice_index_or cs k (record { column = 0; number = 0 })

-- Do the columns rise below n, and is no number zero?
pub record AreCoefficients (n : ℕ) (cs : List Coefficient) : Type 0 where
  pub rise : (j k : ℕ) → j < k → k < length cs → (coefficient_at cs j).column < (coefficient_at cs k).column
  pub below : (k : ℕ) → k < length cs → (coefficient_at cs k).column < n
  pub nonzero : (k : ℕ) → k < length cs → 0 < (coefficient_at cs k).number

-- The coefficients of row r.
abbrev pub list_at : List (List Coefficient) → ℕ → List Coefficient
list_at rows r = slice_index_or rows r []

-- Is each row listed in this way?
abbrev pub AreListed : ℕ → List (List Coefficient) → Type 0
AreListed n rows = (r : ℕ) → r < length rows → AreCoefficients n (list_at rows r)

-- The full rows of n columns, and their limits.
abbrev pub sparse_rows_seen : ℕ → SparseRowsDef → RowBlockDef
sparse_rows_seen n b = record { rows = map (full_row n) b.rows; limits = b.limits }
