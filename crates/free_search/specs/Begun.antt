-- What the first table is made of.
use Rattle.std.specs.Prelude.{◌≡◌, ℕ, ◌+◌, ◌<◌, List, length, slice_index, slice_index_or, ℤ, pos}
use Rattle.program_form.specs.Program.{ProgramDef, columns, height}
use Rattle.program_form.specs.SparseRows.{number_at}
use Rattle.program_form.specs.declared.sparse_rows.Coefficient.{Coefficient}
use Rattle.whole_rows.specs.Rows.{RowDef}
use Rattle.whole_runs.specs.Starts.{IsFirstRow, IsCostRow, IsFirstBasis, AreFirstOutside}
use Rattle.free_search.specs.Tables.{row_at, HasSizes, IsAfter}
use Rattle.free_search.specs.declared.tableau.Tableau.{Tableau}

-- Are these so many zeros?
pub record AreZeros (count : ℕ) (nums : List ℤ) : Type 0 where
  pub as_many : length nums ≡ count
  pub each : (k : ℕ) → slice_index_or nums k (pos 0) ≡ pos 0

-- Has each column its coefficient, in a list as long as before?
pub record AreCoefficientsWritten (before : List ℤ) (cs : List Coefficient) (after : List ℤ) : Type 0 where
  pub as_many : length after ≡ length before
  pub each : (v : ℕ) → slice_index_or after v (pos 0) ≡ pos (number_at cs v)

-- Are these the whole numbers from `first` on, so many of them?
pub record AreCounted (first count : ℕ) (list : List ℕ) : Type 0 where
  pub as_many : length list ≡ count
  pub each : (k : ℕ) → k < count → slice_index list k ≡ first + k

-- Are these the rows of the program?
pub record AreRowsOf (p : ProgramDef) (rows : List RowDef) : Type 0 where
  pub as_many : length rows ≡ height p
  pub each : (i : ℕ) → i < height p → IsFirstRow p i (row_at rows i)

-- Are these the parts of the first table?
pub record AreFirstParts (p : ProgramDef) (tableau : Tableau) : Type 0 where
  pub rows : AreRowsOf p tableau.rows.items
  pub costs : IsCostRow p tableau.objective
  pub basis : IsFirstBasis p tableau.basis.items
  pub outside : AreFirstOutside p tableau.outside.items

-- Is it the table at which the run begins?
pub record IsFirstTable (p : ProgramDef) (tableau : Tableau) : Type 0 where
  pub sizes : HasSizes (columns p) tableau
  pub parts : AreFirstParts p tableau
  pub first : IsAfter p 0 tableau
