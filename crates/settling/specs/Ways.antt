-- The vectors of the recurrence from the costs on, and what keeps a task from being settled by numbers of 63 bits there.
use Rattle.std.specs.Prelude.{◌≡◌, ◌⊎◌, ℕ, zero, suc, ◌<◌, ◌≤◌, ◌^◌, List, length, slice_index, pos}
use Rattle.fraction128.specs.Fraction.{IsFloor}
use Rattle.program_form.specs.Certificate.{DualDef}
use Rattle.program_form.specs.Duals.{dual_value}
use Rattle.program_form.specs.Points.{IsGreatestReached}
use Rattle.program_form.specs.Program.{ProgramDef}
use Rattle.program_sources.specs.Recurrence.{SourceDef, IsResponse}
use Rattle.program_sources.specs.Fitting.{AreFitting, AreLeastFitting, tasks_of}
use Rattle.exchange_runs.specs.Table.{Table}
use Rattle.exchange_runs.specs.Readings.{value_of}
use Rattle.free_search.specs.Ends.{IsEndAfter, IsFoundDual, IsTooGreat}
use Rattle.refusal_laws.specs.Steps.{costs_of}

-- Are these the recurrence's values at the bounds v, one for each task?
pub record AreResponses (f : SourceDef) (v next : List ℕ) : Type 0 where
  pub one_each : length next ≡ tasks_of f
  pub each : (i : ℕ) → i < tasks_of f → IsResponse f v i (slice_index next i)

-- Is v the vector after k rounds? The rounds begin at the costs, and each gives the recurrence's values at the vector before it.
abbrev pub IsAfterRounds : SourceDef → ℕ → List ℕ → Type 0
IsAfterRounds f zero v = v ≡ costs_of f.set
IsAfterRounds f (suc k) v = (before : List ℕ) × (IsAfterRounds f k before) × AreResponses f before v

-- Is the end of the program's exchange run, over fractions of any size, too great for 63 bits? Is a multiplier, rounded up to a whole
-- number, above 2^63 - 1, or is the whole part of the optimum?
abbrev pub EndsTooGreat : ProgramDef → Type 0
EndsTooGreat p = (k : ℕ) × (t : Table) × (IsEndAfter p k t)
    × ((IsTooGreat p t) ⊎ ((n : ℕ) × (IsFloor (value_of p t) (pos n)) × (2 ^ 63 ≤ n)))

-- Is it the dual of that end, as a search writes it with 63 bits?
abbrev pub IsEndDual : ProgramDef → DualDef → Type 0
IsEndDual p d = (k : ℕ) × (t : Table) × (IsEndAfter p k t) × IsFoundDual p t d

-- Does this dual lose the whole part of the optimum: is its value above the greatest whole blocking that is reached?
pub record LosesWhole (p : ProgramDef) : Type 0 where
  pub dual : DualDef
  pub of_end : IsEndDual p dual
  pub blocking : ℕ
  pub greatest : IsGreatestReached p blocking
  pub above : blocking < dual_value p dual.den (λ r. slice_index dual.num r)

-- Do no bounds fit?
abbrev pub NothingFits : SourceDef → Type 0
NothingFits f = (s : List ℕ) → AreFitting f s → ⊥

-- Does task i's program need more than 63 bits at some vector of the rounds? Its run's end is too great there. Or the vector is the least
-- that fits, and the dual loses the whole part.
abbrev pub NeedsMoreBits : SourceDef → ℕ → Type 0
NeedsMoreBits f i = (k : ℕ) × (v : List ℕ) × (IsAfterRounds f k v) × (i < tasks_of f)
    × ((EndsTooGreat (f.program i v)) ⊎ ((AreLeastFitting f v) × LosesWhole (f.program i v)))

-- Does no task need more?
abbrev pub NoneNeedsMore : SourceDef → Type 0
NoneNeedsMore f = (i : ℕ) → NeedsMoreBits f i → ⊥
