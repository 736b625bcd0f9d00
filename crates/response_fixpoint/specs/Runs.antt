-- The rounds of a source of programs: how the exchange run of each task's program ends, and what rounds of such runs are.
use Rattle.std.specs.Prelude.{◌≡◌, ℕ, ◌+◌, ◌-◌, ◌<◌, List, map, length}
use Rattle.number_laws.specs.Sums.{sum_below}
use Rattle.fraction128.specs.Fraction.{Fraction}
use Rattle.program_form.specs.Certificate.{DualDef}
use Rattle.program_form.specs.Program.{IsProgram, columns}
use Rattle.exchange_runs.specs.Outcomes.{EndsWithin, IsWideWithin, NeedsMoreThan}
use Rattle.sporadic_model.specs.SetDef.{SetDef, task_at}
use Rattle.sporadic_model.specs.Users.{count_of}
use Rattle.program_sources.specs.Recurrence.{SourceDef, IsResponse}
use Rattle.program_sources.specs.Fitting.{tasks_of, latest_of}
use Rattle.response_fixpoint.specs.Rounds.{RunEnd, Valued, TooWide, OutOfUnits, RoundsOf}

-- Does the exchange run of task i's program at the bounds r end within the units that are left, with this dual? Is `used` the number of
-- units that it takes: one, and one more for each exchange? And is this the recurrence's value there?
pub record IsSolved (f : SourceDef) (r : List ℕ) (i left used value : ℕ) (dual : DualDef) : Type 0 where
  pub exchanges : ℕ
  pub optimum : Fraction
  pub best : List Fraction
  pub ends : EndsWithin (f.program i r) left exchanges optimum best dual
  pub units : used ≡ exchanges + 1
  pub response : IsResponse f r i value

-- How does the exchange run end: solved, wide, or out of units?
abbrev pub RunEnds : SourceDef → List ℕ → ℕ → ℕ → RunEnd → Type 0
RunEnds f r i left (Valued used value dual) = IsSolved f r i left used value dual
RunEnds f r i left TooWide = IsWideWithin (f.program i r) left
RunEnds f r i left OutOfUnits = NeedsMoreThan (f.program i r) left

-- The run of task i: its lists at these bounds are a program, and that program's exchange run ends in this way.
pub record TaskRuns (f : SourceDef) (r : List ℕ) (i left : ℕ) (e : RunEnd) : Type 0 where
  pub is_program : IsProgram (f.program i r)
  pub ends : RunEnds f r i left e

-- The rounds of a source. They begin at the costs.
abbrev pub rounds_of : SourceDef → RoundsOf
rounds_of f = record { tasks = tasks_of f; first = map (λ t. t.cost) f.set.tasks; latest = latest_of f; runs = TaskRuns f }

-- Do all programs of the source lack columns? They do if no task requests anything.
abbrev pub HasNoColumns : SourceDef → Type 0
HasNoColumns f = (i : ℕ) (r : List ℕ) → i < tasks_of f → columns (f.program i r) ≡ 0

-- The sum over all tasks of how far the latest bound is above the cost.
abbrev pub slack_of : SourceDef → ℕ
slack_of f = sum_below (tasks_of f) (λ i. latest_of f i - (task_at f.set i).cost)

-- Does no task of the set request a resource?
abbrev pub RequestsNothing : SetDef → Type 0
RequestsNothing set = (x q : ℕ) → x < length set.tasks → q < length set.resources → count_of set x q ≡ 0
