-- The walk: the rounds of an analysis, with the run of each program over fractions of any size.
use Rattle.std.specs.Prelude.{◌≡◌, ◌⊎◌, ℕ, ◌+◌, ◌<◌, ◌≤◌, ◌^◌, List, max, slice_index, pos}
use Rattle.fraction128.specs.Fraction.{IsFloor}
use Rattle.program_form.specs.Certificate.{DualDef}
use Rattle.program_form.specs.Program.{ProgramDef}
use Rattle.program_sources.specs.Recurrence.{SourceDef, response_with}
use Rattle.program_sources.specs.Fitting.{tasks_of, latest_of}
use Rattle.exchange_runs.specs.Table.{Table}
use Rattle.exchange_runs.specs.Readings.{value_of}
use Rattle.free_search.specs.Ends.{IsEndAfter, IsPointOf, IsFoundDual, IsTooGreat, NeedsMoreThan}
use Rattle.free_search.specs.Rounding.{AreWrittenDown, HaveGreatWholes}
use Rattle.refusal_laws.specs.Steps.{costs_of, whole_worth}
use Rattle.response_fixpoint.specs.Rounds.{RunEnd, Valued, TooWide, OutOfUnits, RoundsOf}
use Rattle.response_fixpoint.specs.Rounds.{Schedulable, NotShown, Wide, EndsIn}
use Rattle.settling.specs.declared.finding.Points.{Points}
use Rattle.settling.specs.declared.finding.Points.TheVariants.{Exact, Rounded}

-- Is it the point of a run's end, written with 63 bits? It is in lowest terms. Only if no exact one has 63 bits, each number is rounded
-- down, over the greatest power of two at which all of them have.
abbrev pub IsRoundedPoint : ProgramDef → Table → DualDef → Type 0
IsRoundedPoint p t point = (den : ℕ) × (num : List ℕ) × (IsPointOf p t den num) × AreWrittenDown num den point

-- How many whole ticks does a walk read at the end of a run? With exact points it is the whole part of the optimum. With rounded ones it is
-- what the rounded point is worth.
abbrev pub Reads : Points → ProgramDef → Table → ℕ → Type 0
Reads Exact p t ticks = IsFloor (value_of p t) (pos ticks)
Reads Rounded p t ticks = (point : DualDef) × (IsRoundedPoint p t point) × (ticks ≡ whole_worth p point)

-- Has the rounded point more than 63 bits, over any power of two?
abbrev pub HasGreatPoint : Points → ProgramDef → Table → Type 0
HasGreatPoint Exact p t = ⊥
HasGreatPoint Rounded p t = (den : ℕ) × (num : List ℕ) × (IsPointOf p t den num) × HaveGreatWholes num den

-- Is the end too great to be read: its dual, its point or the ticks?
abbrev pub IsPastReading : Points → ProgramDef → Table → Type 0
IsPastReading points p t = (IsTooGreat p t) ⊎ ((HasGreatPoint points p t) ⊎ ((ticks : ℕ) × (Reads points p t ticks) × (2 ^ 63 ≤ ticks)))

-- Does the run of task i's program at the bounds r end within the units that are left, with this dual? Is `used` the number of units that it
-- takes: one, and one more for each exchange? Is the optimum's whole part below 2^64? And is the value the response time with the ticks
-- that are read, or the task's bound if that is greater?
pub record IsWalked (points : Points) (f : SourceDef) (r : List ℕ) (i left used value : ℕ) (dual : DualDef) : Type 0 where
  pub exchanges : ℕ
  pub table : Table
  pub end : IsEndAfter (f.program i r) exchanges table
  pub units : used ≡ exchanges + 1
  pub within : used ≤ left
  pub dual_is : IsFoundDual (f.program i r) table dual
  pub whole : ℕ
  pub floor : IsFloor (value_of (f.program i r) table) (pos whole)
  pub counted : whole < 2 ^ 64
  pub ticks : ℕ
  pub reads : Reads points (f.program i r) table ticks
  pub small : ticks < 2 ^ 63
  pub value_is : value ≡ max (response_with f r i ticks) (slice_index r i)

-- How does the run end: it is walked, or its end is too great to be read, or it needs more units than are left?
abbrev pub WalkRuns : Points → SourceDef → List ℕ → ℕ → ℕ → RunEnd → Type 0
WalkRuns points f r i left (Valued used value dual) = IsWalked points f r i left used value dual
WalkRuns points f r i left TooWide = (k : ℕ) × (t : Table) × (k < left) × (IsEndAfter (f.program i r) k t)
    × IsPastReading points (f.program i r) t
WalkRuns points f r i left OutOfUnits = NeedsMoreThan (f.program i r) left

-- The rounds of a walk. They begin at the costs.
abbrev pub walk : Points → SourceDef → RoundsOf
walk points f = record { tasks = tasks_of f; first = costs_of f.set; latest = latest_of f; runs = WalkRuns points f }

-- Does the walk end late: at a value that passes its task's latest bound?
abbrev pub WalksLate : Points → SourceDef → ℕ → Type 0
WalksLate points f allowance = (i : ℕ) × (value : ℕ) × EndsIn (walk points f) allowance (NotShown i value)

-- Does the walk with rounded points pass no latest bound? A run's end is too great on the way. Or no bound rises any more.
abbrev pub IsUnrefuted : SourceDef → ℕ → Type 0
IsUnrefuted f allowance = ((i : ℕ) × EndsIn (walk Rounded f) allowance (Wide i))
    ⊎ ((bounds : List ℕ) × (duals : List DualDef) × EndsIn (walk Rounded f) allowance (Schedulable bounds duals))
