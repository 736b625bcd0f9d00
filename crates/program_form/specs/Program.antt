-- Blocking programs as three lists of numbers, and which lists are accepted as a program.
use Rattle.std.specs.Prelude.{◌≡◌, ℕ, ◌<◌, ◌≤◌, ◌^◌, ◌-◌, refl, List, [], length, slice_index, slice_index_or}
use Rattle.program_form.specs.declared.TheConstants.{MOST_NUMBER}

-- A linear program over columns that are at least zero. It maximises the sum of cost times column. In each row the sum of coefficient times
-- column is at most the limit.
pub record ProgramDef : Type 0 where
  pub costs : List ℕ
  pub rows : List (List ℕ)
  pub limits : List ℕ

-- How many columns has the program?
abbrev pub columns : ProgramDef → ℕ
columns p = length p.costs

-- How many rows has it?
abbrev pub height : ProgramDef → ℕ
height p = length p.rows

-- What is a unit of column c worth? Past the last column it is nothing.
abbrev pub cost : ProgramDef → ℕ → ℕ
cost p c = slice_index p.costs c

-- Which coefficients has row r?
abbrev pub row : ProgramDef → ℕ → List ℕ
row p r = slice_index_or p.rows r []

-- What is the coefficient of column c in row r?
abbrev pub entry : ProgramDef → ℕ → ℕ → ℕ
entry p r c = slice_index (row p r) c

-- What may the sum of row r be at most?
abbrev pub limit : ProgramDef → ℕ → ℕ
limit p r = slice_index p.limits r

-- Do the lists have matching lengths?
pub record HasLengths (p : ProgramDef) : Type 0 where
  -- as many limits as rows
  pub limit_each : length p.limits ≡ height p
  -- as many coefficients in each row as there are columns
  pub entry_each : (r : ℕ) → r < height p → length (row p r) ≡ columns p

-- Has column c a coefficient above zero in some row?
pub record IsCovered (p : ProgramDef) (c : ℕ) : Type 0 where
  pub by_row : ℕ
  pub within : by_row < height p
  pub above : 0 < entry p by_row c

-- Has each column one?
abbrev pub AreCovered : ProgramDef → Type 0
AreCovered p = (c : ℕ) → c < columns p → IsCovered p c

-- Is c the first column that has none?
pub record IsFirstUncovered (p : ProgramDef) (c : ℕ) : Type 0 where
  pub within : c < columns p
  pub none : (r : ℕ) → r < height p → entry p r c ≡ 0
  pub earlier : (d : ℕ) → d < c → IsCovered p d

-- the greatest number in a program is the greatest of 63 bits
pub most_number_is : MOST_NUMBER ≡ 2 ^ 63 - 1
most_number_is = refl

-- Is every number at most the greatest that is allowed?
pub record AreSmall (p : ProgramDef) : Type 0 where
  pub costs : (c : ℕ) → cost p c ≤ MOST_NUMBER
  pub entries : (r c : ℕ) → entry p r c ≤ MOST_NUMBER
  pub limits : (r : ℕ) → limit p r ≤ MOST_NUMBER

-- Is it a program: do its lists have matching lengths, is each column covered, and is each number small?
pub record IsProgram (p : ProgramDef) : Type 0 where
  pub lengths : HasLengths p
  pub covered : (c : ℕ) → c < columns p → IsCovered p c
  pub small : AreSmall p
  pub columns_to : columns p < 2 ^ 32
  pub rows_to : height p < 2 ^ 32
