-- What is done to rows one by one in an exchange.
use Rattle.std.specs.Prelude.{◌≡◌, ◌≢◌, ◌⊎◌, ℕ, ◌<◌, ◌/◌, ◌%◌, List, length, Some, None, Result, pos}
use Rattle.std.specs.Int.{bit_at}
use Rattle.std.specs.declared.option.Option.{Option}
use Rattle.program_form.specs.Program.{ProgramDef}
use Rattle.whole_rows.specs.Marks.{IsMarked, HasRow, AreKept}
use Rattle.whole_rows.specs.declared.marks.RowMarks.{RowMarks}
use Rattle.whole_rows.specs.Rows.{RowDef, PivotDef, num_at, entry_at, IsPivotOf}
use Rattle.whole_rows.specs.declared.entries.Entry.{Entry}
use Rattle.whole_runs.specs.States.{row_at, HasPlaces}
use Rattle.whole_runs.specs.Exchanges.{IsTouched, IsLeft, IsDivided, AreExchanged}
use Rattle.whole_runs.specs.Ends.{GivesOrStops}
use Rattle.whole_runs.specs.Large.{IsTooLargeFor, IsSomeTooLarge, AreTooLarge}
use Rattle.whole_runs.specs.declared.stops.Halt.{Halt}

-- Is it a row of its own now, with the cells of row i?
abbrev pub Touches : ProgramDef → ℕ → Option RowDef → Option RowDef → Type 0
Touches p i before None = ⊥
Touches p i before (Some row) = IsTouched p i before row

-- Is it row r divided by its cell at k, and is this its pivot? Divided by 1, the program's own row stays as it is.
pub record Divides (p : ProgramDef) (r : ℕ) (before : Option RowDef) (k : ℕ) (after : Option RowDef) (pivot : PivotDef) : Type 0 where
  pub places : HasPlaces p r after
  pub row : RowDef
  pub here : IsTouched p r after row
  pub divided : IsDivided p r before k row
  pub is_pivot : IsPivotOf pivot row

-- Is it what is left of row i, with as many places?
pub record IsLeftAt (p : ProgramDef) (i : ℕ) (before : Option RowDef) (k : ℕ) (divided : RowDef) (after : Option RowDef) : Type 0 where
  pub places : HasPlaces p i after
  pub left : IsLeft p i before k divided after

-- The same, if the pivot is that of the divided row.
abbrev pub IsTaken : ProgramDef → ℕ → Option RowDef → ℕ → PivotDef → Option RowDef → Type 0
IsTaken p i before k pivot after = (divided : RowDef) → IsPivotOf pivot divided → IsLeftAt p i before k divided after

-- Take the first n rows that the column lists. Is each of them but r changed in this way, and are all other rows as they were?
pub record AreTakenTo (n : ℕ) (p : ProgramDef) (before after : List (Option RowDef)) (column : List Entry) (k r : ℕ) (pivot : PivotDef)
    : Type 0 where
  pub as_many : length after ≡ length before
  pub listed : (m : ℕ) → m < n → (entry_at column m).place ≢ r
      → IsTaken p (entry_at column m).place (row_at before (entry_at column m).place) k pivot (row_at after (entry_at column m).place)
  pub rest : (i : ℕ) → (i ≡ r) ⊎ ((m : ℕ) → m < n → (entry_at column m).place ≢ i) → row_at after i ≡ row_at before i

-- The rows after an exchange, with the divided row as the pivot.
abbrev pub ExchangesRows : ProgramDef → List (Option RowDef) → List (Option RowDef) → ℕ → ℕ → PivotDef → Type 0
ExchangesRows p before after k r pivot = (h : AreExchanged p before after k r) × IsPivotOf pivot h.row

-- Have the marks at k been joined to those of each place where the divided row has a number?
pub record AreJoined (before after : RowMarks) (divided : RowDef) (k : ℕ) : Type 0 where
  pub kept : AreKept before after
  pub joined : (j i : ℕ) → num_at divided j ≢ pos 0 → HasRow before i → IsMarked before k i → IsMarked after j i

-- What is left of row i. Or Large, if the row is too large for that.
abbrev pub TakesFrom : Result (Unit {0}) Halt → ProgramDef → ℕ → Option RowDef → ℕ → PivotDef → Option RowDef → Type 0
TakesFrom result p i before k pivot after = GivesOrStops result (λ _. IsTaken p i before k pivot after) (IsTooLargeFor p i before k pivot)

-- What is left of each row but r. Or Large, if some row is too large for that.
abbrev pub TakesAll : Result (Unit {0}) Halt → ProgramDef → List (Option RowDef) → List (Option RowDef) → List Entry → ℕ → ℕ → PivotDef
    → Type 0
TakesAll result p before after column k r pivot =
    GivesOrStops result (λ _. AreTakenTo (length column) p before after column k r pivot) (IsSomeTooLarge p before k r pivot)

-- The rows after an exchange. Or Large, if some row is too large for it.
abbrev pub ExchangesOrStops : Result (Unit {0}) Halt → ProgramDef → List (Option RowDef) → List (Option RowDef) → ℕ → ℕ → PivotDef
    → Type 0
ExchangesOrStops result p before after k r pivot =
    GivesOrStops result (λ _. ExchangesRows p before after k r pivot) (AreTooLarge p before k r)

-- Have the rows of word w whose bits are set been marked at the place of each entry?
pub record AreRowBitsJoined (before after : RowMarks) (entries : List Entry) (w bits : ℕ) : Type 0 where
  pub kept : AreKept before after
  pub joined : (m i : ℕ) → m < length entries → i / 64 ≡ w → bit_at bits (i % 64) ≡ 1 → IsMarked after (entry_at entries m).place i

-- Have the rows that are marked at k been marked at the place of each entry?
pub record AreMarksJoined (before after : RowMarks) (entries : List Entry) (k : ℕ) : Type 0 where
  pub kept : AreKept before after
  pub joined : (m i : ℕ) → m < length entries → HasRow before i → IsMarked before k i → IsMarked after (entry_at entries m).place i
