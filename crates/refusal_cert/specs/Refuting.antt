-- The rounds that write a refusal. They are those of an analysis. If a task's value is above its bound at the round's start, the task's
-- run gives the point of a step as well.
use Rattle.std.specs.Prelude.{◌≡◌, ◌⊎◌, ℕ, ◌<◌, ◌≤◌, ◌^◌, List, All, slice_index}
use Rattle.fraction128.specs.Fraction.{Fraction}
use Rattle.fraction128.specs.Scaling.{IsLeastCommon, AreScaled, IsWideOver}
use Rattle.program_form.specs.Certificate.{DualDef}
use Rattle.program_sources.specs.Recurrence.{SourceDef}
use Rattle.program_sources.specs.Fitting.{tasks_of}
use Rattle.program_sources.specs.Valid.{no_dual}
use Rattle.response_fixpoint.specs.Rounds.{RunEnd, Valued, TooWide, OutOfUnits, Found, RoundsOf, ComesTo}
use Rattle.response_fixpoint.specs.Runs.{TaskRuns, rounds_of}

-- Is this the best point of a run, written over its least common denominator, with no number above 2^63 - 1?
pub record IsWritten (best : List Fraction) (point : DualDef) : Type 0 where
  pub least : IsLeastCommon best point.den
  pub scaled : AreScaled point.den best point.num
  pub small_den : point.den < 2 ^ 63
  pub small_num : All (λ k. k < 2 ^ 63) point.num

-- Can't it be written in this way: does its least common denominator, or a number over it, pass 2^63 - 1?
pub record IsUnwritable (best : List Fraction) : Type 0 where
  pub common : ℕ
  pub least : IsLeastCommon best common
  pub wide : IsWideOver common best

-- The point that a task's run gives. If the value is above the bound that the task had, it is the written point, for a step. If not,
-- there is none.
pub record GivesPoint (bound value : ℕ) (best : List Fraction) (point : DualDef) : Type 0 where
  pub above : bound < value → IsWritten best point
  pub none : value ≤ bound → point ≡ no_dual

-- How does task i's run end at the bounds r? As in an analysis, with two differences. The point of its step takes the place of the
-- dual. And the end is too wide if that point can't be written.
abbrev pub PointRuns : SourceDef → List ℕ → ℕ → ℕ → RunEnd → Type 0
PointRuns f r i left (Valued used value point) = (dual : DualDef) × (run : TaskRuns f r i left (Valued used value dual))
    × GivesPoint (slice_index r i) value run.ends.best point
PointRuns f r i left TooWide = (TaskRuns f r i left TooWide)
    ⊎ ((used : ℕ) × (value : ℕ) × (dual : DualDef) × (run : TaskRuns f r i left (Valued used value dual))
    × (slice_index r i < value) × IsUnwritable run.ends.best)
PointRuns f r i left OutOfUnits = TaskRuns f r i left OutOfUnits

-- The rounds of an analysis, with these runs.
abbrev pub refuting : SourceDef → RoundsOf
refuting f = record { tasks = (rounds_of f).tasks; first = (rounds_of f).first; latest = (rounds_of f).latest; runs = PointRuns f }

-- Can the point of each step be written? A step is each task that an analysis comes to and whose value is above its bound.
abbrev pub AreWritable : SourceDef → ℕ → Type 0
AreWritable f allowance = (r : List ℕ) (i left : ℕ) (found : Found) (used value : ℕ) (dual : DualDef)
    → i < tasks_of f → ComesTo (rounds_of f) allowance r i left found
    → (run : TaskRuns f r i left (Valued used value dual)) → slice_index r i < value
    → (point : DualDef) × IsWritten run.ends.best point
