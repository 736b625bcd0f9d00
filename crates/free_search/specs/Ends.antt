-- What a search answers: the end of the run over unbounded fractions, as it is read from the last table.
use Rattle.std.specs.Prelude.{◌≡◌, ◌⊎◌, ℕ, ◌+◌, ◌<◌, ◌≤◌, ◌^◌, List, length, slice_index, Some, None, Result, Ok, Err, IfOk}
use Rattle.std.specs.Prelude.{pos, ◌+ℤ◌, ◌*ℤ◌, ◌≤ℤ◌, ◌<ℤ◌}
use Rattle.std.specs.declared.option.Option.{Option}
use Rattle.fraction128.specs.Fraction.{Fraction, IsFloor}
use Rattle.fraction128.specs.Scaling.{IsScaled}
use Rattle.program_form.specs.Program.{ProgramDef, columns, height}
use Rattle.program_form.specs.Certificate.{DualDef, dual_seen}
use Rattle.exchange_runs.specs.Table.{Table, variables}
use Rattle.exchange_runs.specs.Exchange.{IsEntering, IsLast}
use Rattle.exchange_runs.specs.Readings.{value_of, dual_at, IsValueOf}
use Rattle.exchange_runs.specs.Unbounded.{FreelyReached}
use Rattle.whole_runs.specs.declared.stands.Stand.{Stand}
use Rattle.free_search.specs.Tables.{AreStandsOf, table_with}
use Rattle.free_search.specs.declared.tableau.Tableau.{Tableau}
use Rattle.free_search.specs.declared.found.Found.{Found}
use Rattle.free_search.specs.declared.found.SearchStop.{SearchStop}
use Rattle.free_search.specs.declared.found.SearchStop.TheVariants.{Memory, Units, Lost}

-- Are these the values of the columns, over one denominator?
pub record IsPointOf (p : ProgramDef) (t : Table) (den : ℕ) (num : List ℕ) : Type 0 where
  pub positive : 0 < den
  pub value_each : length num ≡ columns p
  pub values : (c : ℕ) → c < columns p
      → (f : Fraction) × (IsValueOf (variables p) t (height p) c f) × IsScaled den f (slice_index num c)

-- Is k over m the least such number that isn't below f?
pub record IsRoundedUp (f : Fraction) (m k : ℕ) : Type 0 where
  pub not_below : (f.num *ℤ pos m) ≤ℤ (pos k *ℤ f.den)
  pub least : (pos k *ℤ f.den) <ℤ ((f.num *ℤ pos m) +ℤ f.den)

-- Are these the duals of the rows, each rounded up over one denominator of 63 bits, with 63 bits each?
pub record IsRoundedDual (p : ProgramDef) (t : Table) (d : DualDef) : Type 0 where
  pub number_each : length d.num ≡ height p
  pub positive : 1 ≤ d.den
  pub small_den : d.den < 2 ^ 63
  pub rounded : (r : ℕ) → r < height p → IsRoundedUp (dual_at p t r) d.den (slice_index d.num r)
  pub small : (r : ℕ) → r < height p → slice_index d.num r < 2 ^ 63

-- Is it such a dual, where nothing is rounded?
pub record IsExactDual (p : ProgramDef) (t : Table) (d : DualDef) : Type 0 where
  pub rounded : IsRoundedDual p t d
  pub exact : (r : ℕ) → r < height p → IsScaled d.den (dual_at p t r) (slice_index d.num r)

-- Is there no exact dual of 63 bits, over any denominator of 63 bits?
abbrev pub HasNoExactDual : ProgramDef → Table → Type 0
HasNoExactDual p t = (d : DualDef) → IsExactDual p t d → ⊥

-- Is it exact, over the least denominator of an exact dual?
pub record IsLowestDual (p : ProgramDef) (t : Table) (d : DualDef) : Type 0 where
  pub exact : IsExactDual p t d
  pub least : (other : DualDef) → IsExactDual p t other → d.den ≤ other.den

-- Has the dual of some row, rounded up over m, more than 63 bits?
abbrev pub HasGreatDual : ProgramDef → Table → ℕ → Type 0
HasGreatDual p t m = (r : ℕ) × (r < height p) × (k : ℕ) × (IsRoundedUp (dual_at p t r) m k) × (2 ^ 63 ≤ k)

-- Is it rounded up over the greatest power of two below 2^63 at which each number has 63 bits?
pub record IsFinestDual (p : ProgramDef) (t : Table) (d : DualDef) : Type 0 where
  pub power : ℕ
  pub den : d.den ≡ 2 ^ power
  pub rounded : IsRoundedDual p t d
  pub greatest : (power ≡ 62) ⊎ HasGreatDual p t (2 ^ (power + 1))

-- The dual in lowest terms. Only if no exact one has 63 bits, it is rounded up.
abbrev pub IsFoundDual : ProgramDef → Table → DualDef → Type 0
IsFoundDual p t d = IsLowestDual p t d ⊎ (HasNoExactDual p t × IsFinestDual p t d)

-- Is the end too great to be written: is the dual of some row above 2^63 - 1, or is the value 2^64 or more?
abbrev pub IsTooGreat : ProgramDef → Table → Type 0
IsTooGreat p t = HasGreatDual p t 1 ⊎ ((n : ℕ) × (IsFloor (value_of p t) (pos n)) × (2 ^ 64 ≤ n))

-- Is this read from table t, and are these the units?
pub record IsReadFrom (p : ProgramDef) (t : Table) (units : ℕ) (found : Found) : Type 0 where
  pub used : found.used ≡ units
  pub point : IsPointOf p t found.den found.num.items
  pub ticks : IsFloor (value_of p t) (pos found.ticks)
  pub dual : IsFoundDual p t (dual_seen found.dual)

-- What is read from a last table. None if it is too great.
abbrev pub ReadsAt : Option Found → ProgramDef → Table → ℕ → Type 0
ReadsAt (Some found) p t units = IsReadFrom p t units found
ReadsAt None p t units = IsTooGreat p t

abbrev pub Reads : Option Found → ProgramDef → Tableau → ℕ → Type 0
Reads found p tableau units =
    (stands : List Stand) → AreStandsOf p tableau stands → ReadsAt found p (table_with p tableau stands) units

-- The same as an answer. Memory says nothing.
abbrev pub FinishesAt : Result Found SearchStop → ProgramDef → Table → ℕ → Type 0
FinishesAt (Ok found) p t units = IsReadFrom p t units found
FinishesAt (Err Memory) p t units = Unit {0}
FinishesAt (Err Units) p t units = ⊥
FinishesAt (Err Lost) p t units = IsTooGreat p t

abbrev pub Finishes : Result Found SearchStop → ProgramDef → Tableau → ℕ → Type 0
Finishes result p tableau units =
    (stands : List Stand) → AreStandsOf p tableau stands → FinishesAt result p (table_with p tableau stands) units

-- Does the run end at a table after k exchanges?
pub record IsEndAfter (p : ProgramDef) (k : ℕ) (t : Table) : Type 0 where
  pub reached : FreelyReached p k t
  pub last : IsLast p t

-- Is this read from the end of the run? The run takes one unit, and one more for each exchange.
pub record IsReadAt (p : ProgramDef) (found : Found) : Type 0 where
  pub exchanges : ℕ
  pub table : Table
  pub end : IsEndAfter p exchanges table
  pub read : IsReadFrom p table (exchanges + 1) found

-- Does the run need more units?
abbrev pub NeedsMoreThan : ProgramDef → ℕ → Type 0
NeedsMoreThan p units =
    (units ≡ 0) ⊎ ((k : ℕ) × (t : Table) × (e : ℕ) × (k + 1 ≡ units) × (FreelyReached p k t) × IsEntering p t e)

-- The end of the run, if the units are enough for it. Or Units, only if it needs more. Or Lost, only if its end is too great. Memory says
-- nothing.
abbrev pub Searches : Result Found SearchStop → ProgramDef → ℕ → Type 0
Searches (Ok found) p units = (IsReadAt p found) × (found.used ≤ units)
Searches (Err Memory) p units = Unit {0}
Searches (Err Units) p units = NeedsMoreThan p units
Searches (Err Lost) p units = (k : ℕ) × (t : Table) × (k < units) × (IsEndAfter p k t) × IsTooGreat p t

-- What is answered at the end of a run that took so many units: it is what a search with as many, or with more, answers.
pub record AnswersAtEnd (result : Result Found SearchStop) (p : ProgramDef) (used : ℕ) : Type 0 where
  pub searches : (units : ℕ) → used ≤ units → Searches result p units
  pub units : IfOk result (λ found. found.used ≡ used)
