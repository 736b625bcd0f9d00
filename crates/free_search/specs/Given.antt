-- What the functions on a table and on its rows are given.
use Rattle.std.specs.Prelude.{◌≡◌, ℕ, ◌+◌, ◌<◌, ◌^◌, List, length, slice_index_or, None, IfSome, ℤ, pos, ◌≤ℤ◌, ◌<ℤ◌}
use Rattle.std.specs.declared.option.Option.{Option}
use Rattle.program_form.specs.Program.{ProgramDef, columns, height}
use Rattle.program_form.specs.SparseRows.{AreCoefficients}
use Rattle.program_form.specs.declared.sparse_rows.Coefficient.{Coefficient}
use Rattle.whole_rows.specs.Rows.{RowDef, PivotDef, num_at, AreSparse, AreBelow}
use Rattle.whole_rows.specs.declared.entries.Entry.{Entry}
use Rattle.free_search.specs.Tables.{row_at, HavePlaces, HasSizes, HavePositive, IsAfter}
use Rattle.free_search.specs.RowSteps.{CanTake, IsDivisor}
use Rattle.free_search.specs.Choice.{HaveLimits, EntersAt, IsLeastPlace}
use Rattle.free_search.specs.EndSteps.{IsDenominator}
use Rattle.free_search.specs.declared.tableau.Tableau.{Tableau}

-- Is i a row whose number at place k is above zero?
pub record IsRowAbove (rows : List RowDef) (k i : ℕ) : Type 0 where
  pub row : i < length rows
  pub above : pos 0 <ℤ num_at (row_at rows i) k

-- Is it a divisor of a number above zero?
pub record IsDivisorOfSome (n d : ℕ) : Type 0 where
  pub number : 0 < n
  pub divisor : IsDivisor n d

-- Are these entries of a row with these numbers: do their places rise, and has the row each of them?
pub record AreEntriesIn (nums : List ℤ) (entries : List Entry) : Type 0 where
  pub sparse : AreSparse entries
  pub below : AreBelow (length nums) entries

-- Has the row a place for each coefficient, and are all its numbers zero?
pub record CanWriteAll (nums : List ℤ) (coefficients : List Coefficient) : Type 0 where
  pub listed : AreCoefficients (length nums) coefficients
  pub zero : (v : ℕ) → slice_index_or nums v (pos 0) ≡ pos 0

-- Is `next` a place of the list, and so is the best one so far, if there is one?
pub record ArePlaces (outside : List ℕ) (before : Option ℕ) (next : ℕ) : Type 0 where
  pub other : next < length outside
  pub best : IfSome before (λ k. k < length outside)

-- Has row i a number at place k?
pub record HasPlace (rows : List RowDef) (i k : ℕ) : Type 0 where
  pub row : i < length rows
  pub place : (n : ℕ) × (k < n) × HavePlaces n rows

-- Can the rows be compared where the variable at place k enters? Each has this place and a basic variable, and no limit is below zero.
pub record CanCompareRows (rows : List RowDef) (basics : List ℕ) (k : ℕ) : Type 0 where
  pub place : (n : ℕ) × (k < n) × HavePlaces n rows
  pub basis : length basics ≡ length rows
  pub limits : HaveLimits rows

-- Can row i be compared so with the best one before it, if there is one? Both have numbers above zero there.
pub record CanCompareWith (all : List RowDef) (basics : List ℕ) (k : ℕ) (before : Option ℕ) (i : ℕ) : Type 0 where
  pub rows : CanCompareRows all basics k
  pub one : IsRowAbove all k i
  pub other : IfSome before (IsRowAbove all k)

-- Can row r be divided by its number at place k?
pub record CanDivideRow (rows : List RowDef) (k r : ℕ) : Type 0 where
  pub row : IsRowAbove rows k r
  pub place : k < length (row_at rows r).nums

-- And have all rows that place?
pub record CanExchangeRows (rows : List RowDef) (k r : ℕ) : Type 0 where
  pub row : IsRowAbove rows k r
  pub place : (n : ℕ) × (k < n) × HavePlaces n rows

-- Can the pivot be taken from row i, the row's cell at place k times?
pub record CanTakeFrom (rows : List RowDef) (i k : ℕ) (pivot : PivotDef) : Type 0 where
  pub row : i < length rows
  pub can_take : CanTake (row_at rows i) k pivot

-- Can the variable at place k enter and row r leave?
pub record CanExchange (tableau : Tableau) (k r : ℕ) : Type 0 where
  pub place : k < length tableau.outside.items
  pub row : IsRowAbove tableau.rows.items k r
  pub sizes : HasSizes (length tableau.outside.items) tableau

-- Has the run come to this table, and is k the place of the variable that enters?
pub record CanStep (p : ProgramDef) (tableau : Tableau) (k : ℕ) : Type 0 where
  pub after : (n : ℕ) × IsAfter p n tableau
  pub enters : IsLeastPlace tableau.objective.nums tableau.outside.items k

-- Has the run come to this table with so many units, and can no variable enter?
pub record HasEnded (p : ProgramDef) (tableau : Tableau) (used : ℕ) : Type 0 where
  pub after : (n : ℕ) × (used ≡ n + 1) × IsAfter p n tableau
  pub last : EntersAt None tableau.objective.nums tableau.outside.items

-- Has each number of the objective row its variable, and are `count` variables from `first` on numbers of 64 bits?
pub record CanReadMultipliers (objective : RowDef) (outside : List ℕ) (first count : ℕ) : Type 0 where
  pub places : length objective.nums ≡ length outside
  pub slacks : first + count < 2 ^ 64

-- Is i a row, and is it a common denominator of the values of the columns whose rows are before it? Each row has its basic variable.
pub record IsDenominatorBefore (rows : List RowDef) (basics : List ℕ) (columns i common : ℕ) : Type 0 where
  pub row : i < length rows
  pub basis : length basics ≡ length rows
  pub den : IsDenominator i rows basics columns common

-- Is it a common denominator of the values of all columns, where each row has its basic variable?
pub record IsCommonDenominator (rows : List RowDef) (basics : List ℕ) (columns common : ℕ) : Type 0 where
  pub basis : length basics ≡ length rows
  pub den : IsDenominator (length rows) rows basics columns common

-- Is it that, and is c a column?
pub record IsDenominatorOfColumn (rows : List RowDef) (basics : List ℕ) (columns common c : ℕ) : Type 0 where
  pub den : IsCommonDenominator rows basics columns common
  pub column : c < columns

-- Has the table the form of a last one of the program? No variable can enter, and neither a limit nor the value is below zero.
pub record IsLastTable (p : ProgramDef) (tableau : Tableau) : Type 0 where
  pub sizes : HasSizes (columns p) tableau
  pub rows : length tableau.rows.items ≡ height p
  pub positive : HavePositive tableau.rows.items tableau.objective
  pub last : (k : ℕ) → num_at tableau.objective k ≤ℤ pos 0
  pub below : tableau.objective.limit ≤ℤ pos 0
  pub limits : HaveLimits tableau.rows.items
