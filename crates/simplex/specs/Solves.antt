-- What does `solve` answer?
use Rattle.std.specs.Prelude.{ℕ, List, Result, Ok, Err}
use Rattle.program_form.specs.Program.{ProgramDef}
use Rattle.program_form.specs.Certificate.{DualDef, dual_seen}
use Rattle.fraction128.specs.Fraction.{Fraction}
use Rattle.exchange_runs.specs.Outcomes.{EndsWithin, IsWideWithin, NeedsMoreThan}
use Rattle.simplex.specs.declared.Solved.{Solved}
use Rattle.simplex.specs.declared.SolveStop.{SolveStop}
use Rattle.simplex.specs.declared.SolveStop.TheVariants.{Memory, Wide, Units}

-- The end of the run. `Wide` exactly if the run is wide within the units. `Units` exactly if it needs more units. Only want of memory says
-- nothing.
abbrev pub Solves : Result Solved SolveStop → ProgramDef → ℕ → Type 0
Solves (Ok s) p units = EndsWithin p units s.exchanges s.value s.primal.items (dual_seen s.dual)
Solves (Err Memory) p units = Unit {0}
Solves (Err Wide) p units = IsWideWithin p units
Solves (Err Units) p units = NeedsMoreThan p units

-- Does the run end within the units?
abbrev pub Ends : ProgramDef → ℕ → Type 0
Ends p units = (k : ℕ) × (value : Fraction) × (primal : List Fraction) × (d : DualDef) × EndsWithin p units k value primal d

-- Is it the only answer, except for want of memory? None of the others holds as well.
abbrev pub IsOnlyAnswer : Result Solved SolveStop → ProgramDef → ℕ → Type 0
IsOnlyAnswer (Ok s) p units = ¬ (IsWideWithin p units) × ¬ (NeedsMoreThan p units)
IsOnlyAnswer (Err Memory) p units = Unit {0}
IsOnlyAnswer (Err Wide) p units = ¬ (Ends p units) × ¬ (NeedsMoreThan p units)
IsOnlyAnswer (Err Units) p units = ¬ (Ends p units) × ¬ (IsWideWithin p units)
