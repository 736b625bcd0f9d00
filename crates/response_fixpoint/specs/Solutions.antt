-- What solving a task's program gives: in its place of the round, ahead of it, or in a round before. And what a round begins with.
use Rattle.std.specs.Prelude.{◌≡◌, ℕ, ◌+◌, ◌<◌, ◌≤◌, ◌^◌, List, Result, Ok, Err, Option, length, IfSome}
use Rattle.fraction128.specs.Fraction.{Fraction}
use Rattle.program_form.specs.Certificate.{dual_seen}
use Rattle.program_form.specs.Points.{IsGreatestReached}
use Rattle.program_form.specs.Program.{ProgramDef, IsProgram}
use Rattle.exchange_runs.specs.Outcomes.{EndsWithin, IsWideWithin, NeedsMoreThan}
use Rattle.program_sources.specs.Recurrence.{SourceDef}
use Rattle.program_sources.specs.Fitting.{tasks_of}
use Rattle.simplex.specs.declared.SolveStop.{SolveStop}
use Rattle.simplex.specs.declared.SolveStop.TheVariants as solve_stop
use Rattle.response_fixpoint.specs.Places.{AreEach, AreEachFound}
use Rattle.response_fixpoint.specs.declared.task_run.Solution.{Solution}
use Rattle.response_fixpoint.specs.declared.plan.Kept.{Kept}
use Rattle.response_fixpoint.specs.declared.plan.Planned.{Planned}

-- Is this what solving the program gives: the units that its exchange run takes, its greatest whole blocking, its best point and its
-- dual?
pub record IsSolution (p : ProgramDef) (s : Solution) : Type 0 where
  pub is_program : IsProgram p
  pub exchanges : ℕ
  pub optimum : Fraction
  pub ends : EndsWithin p s.used exchanges optimum s.best.items (dual_seen s.dual)
  pub units : s.used ≡ exchanges + 1
  pub greatest : IsGreatestReached p s.blocking
  pub most : s.blocking < 2 ^ 63

-- What becomes of a program with this many units: a solution, or how its run stops. A solution's own units aren't compared with these
-- yet. Running out of memory says nothing.
abbrev pub GivesSolution : Result Solution SolveStop → ProgramDef → ℕ → Type 0
GivesSolution (Ok s) p units = IsSolution p s
GivesSolution (Err solve_stop.Wide) p units = IsProgram p × IsWideWithin p units
GivesSolution (Err solve_stop.Units) p units = IsProgram p × NeedsMoreThan p units
GivesSolution (Err solve_stop.Memory) p units = Unit {0}

-- Did the program give this ahead of its place in the round, with at least as many units left as now?
abbrev pub IsAhead : ProgramDef → ℕ → Result Solution SolveStop → Type 0
IsAhead p left outcome = (units : ℕ) × (left ≤ units) × GivesSolution outcome p units

-- Is this what task i's program has given ahead of the round at r, with the units that were left at its start?
pub record IsOutcome (f : SourceDef) (r : List ℕ) (left i : ℕ) (outcome : Result Solution SolveStop) : Type 0 where
  pub gives : GivesSolution outcome (f.program i r) left

-- And is this true of each result for the tasks from n on?
abbrev pub AreAhead : SourceDef → List ℕ → ℕ → ℕ → List (Option (Result Solution SolveStop)) → Type 0
AreAhead f r left n outcomes = AreEachFound (IsOutcome f r left) n outcomes

-- Is this task i's program at the bounds r? And is this what it gave ahead of a round that begins with this many units, if that is
-- known?
pub record IsPlanned (f : SourceDef) (r : List ℕ) (left i : ℕ) (p : Planned) : Type 0 where
  pub program : p.program ≡ f.program i r
  pub ahead : IfSome p.ahead (λ o. IsOutcome f r left i o)

-- The program with these limits.
abbrev pub with_limits : ProgramDef → List ℕ → ProgramDef
with_limits p limits = record { costs = p.costs; rows = p.rows; limits = limits }

-- Is the program q planned, from what was kept of a task? What it gave ahead, if that is known, is the kept solution, and only a program that
-- is the kept one has it.
pub record IsPlannedFrom (k : Kept) (q : ProgramDef) (p : Planned) : Type 0 where
  pub program : p.program ≡ q
  pub ahead : IfSome p.ahead (λ o. (o ≡ Ok k.solution) × (k.program ≡ p.program))

-- Is there such a program for each task?
pub record IsPlan (f : SourceDef) (r : List ℕ) (left : ℕ) (plan : List Planned) : Type 0 where
  pub one_each : length plan ≡ tasks_of f
  pub planned : AreEach (IsPlanned f r left) 0 plan

-- Is this task i's program at the bounds r, with its solution?
pub record IsKept (f : SourceDef) (r : List ℕ) (i : ℕ) (k : Kept) : Type 0 where
  pub program : k.program ≡ f.program i r
  pub solution : IsSolution (f.program i r) k.solution

-- Is there one for each of the first n tasks, and no other?
pub record AreKept (f : SourceDef) (r : List ℕ) (n : ℕ) (kept : List Kept) : Type 0 where
  pub one_each : length kept ≡ n
  pub each : AreEach (IsKept f r) 0 kept
