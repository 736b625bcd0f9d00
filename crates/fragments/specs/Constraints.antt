-- Rows of a blocking program as data. A row has a coefficient for each column, and a limit that the bounds give.
use Rattle.std.specs.Prelude.{◌≡◌, ℕ, Bool, false, nat_lt, List, [], ◌∷◌, ◌++◌, map, length, if◌then◌else◌, slice_index}
use Rattle.std.specs.List.{filter, list_any}
use Rattle.number_laws.specs.Sums.{collect_below, flag}
use Rattle.program_form.specs.RowBlock.{RowBlockDef}
use Rattle.sporadic_model.specs.SetDef.{SetDef}
use Rattle.blocking_columns.specs.ColumnDef.{ColumnDef}

-- A row: each column's coefficient, and the limit where `bounds x` is task x's bound.
pub record ConstraintDef : Type 0 where
  pub coefficient : ColumnDef → ℕ
  pub limit : (ℕ → ℕ) → ℕ

-- The sum of the columns that pass the test is at most the limit.
abbrev pub counting : (ColumnDef → Bool) → ((ℕ → ℕ) → ℕ) → ConstraintDef
counting test limit = record { coefficient = λ c. flag (test c); limit = limit }

-- One row for each number below n. One for each number below n that passes the test. One for each pair of numbers below m and n.
abbrev pub per : ℕ → (ℕ → ConstraintDef) → List ConstraintDef
per n row = collect_below n (λ k. row k ∷ [])

abbrev pub per_where : (ℕ → Bool) → ℕ → (ℕ → ConstraintDef) → List ConstraintDef
per_where test n row = collect_below n (λ k. if test k then row k ∷ [] else [])

abbrev pub per_pair : ℕ → ℕ → (ℕ → ℕ → ConstraintDef) → List ConstraintDef
per_pair m n row = collect_below m (λ k. per n (row k))

-- The rows of each task of the set, for the analysed task i.
abbrev pub of_each_task : SetDef → ℕ → (SetDef → ℕ → ℕ → List ConstraintDef) → List ConstraintDef
of_each_task set i rows = collect_below (length set.tasks) (rows set i)

-- Does the row count only columns that pass the test?
abbrev pub CountsOnly : (ColumnDef → Bool) → ConstraintDef → Type 0
CountsOnly test row = (c : ColumnDef) → test c ≡ false → row.coefficient c ≡ 0

-- The nonzero rows: those in which some column has a coefficient above zero.
abbrev pub rows_there : List ColumnDef → List ConstraintDef → List ConstraintDef
rows_there columns rows = filter (λ row. list_any (λ c. nat_lt 0 (row.coefficient c)) columns) rows

-- The same test, as proofs name it.
abbrev pub holds_some : List ColumnDef → ConstraintDef → Bool
holds_some columns row = list_any (λ c. nat_lt 0 (row.coefficient c)) columns

-- The nonzero rows as numbers: their coefficients, and their limits at bounds.
abbrev pub coefficients_of : List ColumnDef → List ConstraintDef → List (List ℕ)
coefficients_of columns rows = map (λ row. map row.coefficient columns) (rows_there columns rows)

abbrev pub limits_of : List ColumnDef → List ConstraintDef → List ℕ → List ℕ
limits_of columns rows bounds = map (λ row. row.limit (slice_index bounds)) (rows_there columns rows)

-- The block of the nonzero rows.
abbrev pub block_of : List ColumnDef → List ConstraintDef → List ℕ → RowBlockDef
block_of columns rows bounds = record { rows = coefficients_of columns rows; limits = limits_of columns rows bounds }

-- A block with these rows behind its own.
abbrev pub with_rows : RowBlockDef → List ColumnDef → List ConstraintDef → List ℕ → RowBlockDef
with_rows block columns rows bounds =
    record { rows = block.rows ++ coefficients_of columns rows; limits = block.limits ++ limits_of columns rows bounds }

-- A block without rows.
abbrev pub no_rows : RowBlockDef
no_rows = record { rows = []; limits = [] }

-- A block with one more row, of these coefficients and this limit.
abbrev pub pushed_row : RowBlockDef → List ℕ → ℕ → RowBlockDef
pushed_row block coefficients limit = record { rows = block.rows ++ coefficients ∷ []; limits = block.limits ++ limit ∷ [] }
