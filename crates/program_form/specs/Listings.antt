-- Lists of the coefficients in the rows of a program.
use Rattle.std.specs.Prelude.{◌≡◌, ℕ, ◌<◌, List, [], ◌∷◌, ◌++◌, length}
use Rattle.program_form.specs.Program.{ProgramDef, columns, entry}
use Rattle.program_form.specs.SparseRows.{number_at, list_at, AreCoefficients}
use Rattle.program_form.specs.declared.sparse_rows.Coefficient.{Coefficient}

-- Are these the coefficients of the first n columns in row r of p?
pub record ListsRow (p : ProgramDef) (r n : ℕ) (cs : List Coefficient) : Type 0 where
  pub listed : AreCoefficients n cs
  pub numbers : (v : ℕ) → v < n → number_at cs v ≡ entry p r v

-- Are these the coefficients of the first n rows of p, a list for each row?
pub record ListsRows (p : ProgramDef) (n : ℕ) (rows : List (List Coefficient)) : Type 0 where
  pub row_each : length rows ≡ n
  pub each : (r : ℕ) → r < n → ListsRow p r (columns p) (list_at rows r)

-- Are these the coefficients of the first r rows of p, and of the first n columns of row r?
pub record ListsUpTo (p : ProgramDef) (r n : ℕ) (rows : List (List Coefficient)) : Type 0 where
  pub before : List (List Coefficient)
  pub last : List Coefficient
  pub both : rows ≡ before ++ last ∷ []
  pub whole : ListsRows p r before
  pub begun : ListsRow p r n last
