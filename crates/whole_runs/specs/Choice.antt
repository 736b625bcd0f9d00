-- What does the choice of the entering variable and of the leaving row answer?
use Rattle.std.specs.Prelude.{◌≡◌, ℕ, ◌<◌, ◌≤◌, ◌^◌, Bool, true, false, List, length, slice_index}
use Rattle.std.specs.Prelude.{Some, None, pos, ◌≤ℤ◌, ◌<ℤ◌, unsigned_abs}
use Rattle.std.specs.declared.option.Option.{Option}
use Rattle.fraction128.specs.Fraction.{Fraction, IsAtMost, over}
use Rattle.program_form.specs.Program.{ProgramDef, height}
use Rattle.exchange_runs.specs.Table.{Table}
use Rattle.exchange_runs.specs.Exchange.{HasRatio, IsRatioOver, IsLeastOver}
use Rattle.exchange_runs.specs.SmallRuns.{IsSmall}
use Rattle.whole_rows.specs.Rows.{RowDef, num_at, entry_at}
use Rattle.whole_rows.specs.declared.entries.Entry.{Entry}
use Rattle.whole_runs.specs.States.{row_at, limit_seen, stand_at}
use Rattle.whole_runs.specs.declared.choice.Ratio.{Ratio}
use Rattle.whole_runs.specs.declared.stands.Stand.{Stand}
use Rattle.whole_runs.specs.declared.stands.Stand.TheVariants.{Outside}

-- Is no number above zero, of the variables below `end` that are outside the basis?
abbrev pub AreNoneAbove : RowDef → List Stand → ℕ → Type 0
AreNoneAbove row stands end = (v k : ℕ) → v < end → stand_at stands v ≡ Outside k → num_at row k ≤ℤ pos 0

-- The same for the objective row, which is the last.
abbrev pub IsFrom : ProgramDef → List (Option RowDef) → List Stand → ℕ → Type 0
IsFrom p rows stands from = (row : RowDef) → row_at rows (height p) ≡ Some row → AreNoneAbove row stands from

-- The first variable outside the basis whose number is above zero, with its place; none if there is none.
abbrev pub IsFirstAbove : Option (ℕ × ℕ) → RowDef → List Stand → Type 0
IsFirstAbove (Some e) row stands =
    (e.0 < length stands) × (stand_at stands e.0 ≡ Outside e.1) × (pos 0 <ℤ num_at row e.1) × AreNoneAbove row stands e.0
IsFirstAbove None row stands = AreNoneAbove row stands (length stands)

-- Is `least` at most `start`, and at most each variable that is at the place of an entry whose number in the row is above zero?
pub record IsAtMostAbove (row : RowDef) (outside : List ℕ) (entries : List Entry) (start least : ℕ) : Type 0 where
  pub first : least ≤ start
  pub each : (m : ℕ) → m < length entries → pos 0 <ℤ num_at row (entry_at entries m).place
      → least ≤ slice_index outside (entry_at entries m).place

-- The limit over the number: the denominator of the row cancels.
abbrev pub value_of : Ratio → Fraction
value_of ratio = over ratio.limit ratio.num

-- Is it the limit of a cell's row over the number of the cell, which is above zero?
pub record IsRatioRead (p : ProgramDef) (rows : List (Option RowDef)) (cell : Entry) (ratio : Ratio) : Type 0 where
  pub row : ratio.row ≡ cell.place
  pub num : ratio.num ≡ cell.num
  pub above : pos 0 <ℤ cell.num
  pub limit : ratio.limit ≡ (limit_seen p (row_at rows cell.place) cell.place).num
  pub small_num : unsigned_abs cell.num < 2 ^ 63
  pub small_limit : unsigned_abs ratio.limit < 2 ^ 63

-- That ratio, or none if the number isn't above zero.
abbrev pub ReadsRatio : Option Ratio → ProgramDef → List (Option RowDef) → Entry → Type 0
ReadsRatio (Some ratio) p rows cell = IsRatioRead p rows cell ratio
ReadsRatio None p rows cell = cell.num ≤ℤ pos 0

-- Has the row a ratio if e enters, and is it this one?
pub record IsRatioOf (place : ℕ) (t : Table) (e : ℕ) (ratio : Ratio) : Type 0 where
  pub has : HasRatio t e ratio.row
  pub is : IsRatioOver IsSmall place t e ratio.row (value_of ratio)

-- Does one ratio come before another? At equal ratios the lesser basic variable does.
abbrev pub Comes : Bool → Ratio → Ratio → List ℕ → Type 0
Comes true next best basis =
    IsAtMost (value_of next) (value_of best)
    × (IsAtMost (value_of best) (value_of next) → slice_index basis next.row ≤ slice_index basis best.row)
Comes false next best basis =
    IsAtMost (value_of best) (value_of next)
    × (IsAtMost (value_of next) (value_of best) → slice_index basis best.row ≤ slice_index basis next.row)

-- Is it the least ratio of the rows below k?
abbrev pub IsLeastOf : ℕ → Table → ℕ → ℕ → Ratio → Type 0
IsLeastOf place t e k ratio = IsLeastOver IsSmall place t e k ratio.row (value_of ratio)

-- The same, or none if no row below k has a ratio.
abbrev pub IsLeastSoFar : ℕ → Table → ℕ → ℕ → Option Ratio → Type 0
IsLeastSoFar place t e k None = (i : ℕ) → i < k → HasRatio t e i → ⊥
IsLeastSoFar place t e k (Some ratio) = IsLeastOf place t e k ratio
