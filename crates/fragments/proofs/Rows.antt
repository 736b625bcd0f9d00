-- Nonzero rows, and loops that add the rows of one number after another.
use Rattle.std.proofs.Common.{◌≡◌, ℕ, zero, suc, true, List, [], ◌∷◌, ◌++◌, map, refl, ◌+◌, ◌<◌, add-one, arith}
use Rattle.std.specs.Prelude.{slice_index}
use Rattle.number_laws.specs.Sums.{collect_below}
use Rattle.program_form.specs.RowBlock.{RowBlockDef}
use Rattle.blocking_columns.specs.ColumnDef.{ColumnDef}
use Rattle.fragments.specs.Constraints.{ConstraintDef, holds_some, with_rows, pushed_row}

-- A row in which some column has a coefficient above zero adds its coefficients and its limit.
pub row_there : (b : RowBlockDef) (cs : List ColumnDef) (row : ConstraintDef) (bounds : List ℕ) → holds_some cs row ≡ true
    → with_rows b cs (row ∷ []) bounds ≡ pushed_row b (map row.coefficient cs) (row.limit (slice_index bounds))
row_there b cs row bounds some = rw some refl

-- Properties of the rows of the numbers below n, then of those of n, are properties of the rows below n + 1.
pub next_number : (P : List ConstraintDef → Type 0) (rows : ℕ → List ConstraintDef) (n : ℕ)
    → P (collect_below n rows ++ rows n) → P (collect_below (n + 1) rows)
next_number P rows n h = rw add-one h

-- Numbers that have no rows have none together.
pub no_rows_below : (n : ℕ) (rows : ℕ → List ConstraintDef) → ((k : ℕ) → k < n → rows k ≡ []) → collect_below n rows ≡ []
no_rows_below zero rows none = refl
no_rows_below (suc n) rows none = rw (none n (omega arith), no_rows_below n rows (λ k l. none k (omega (arith, l)))) refl
