-- What a point over one denominator is worth.
use Rattle.std.specs.Prelude.{ℕ, ◌*◌, ◌≤◌, List, slice_index}
use Rattle.program_form.specs.Certificate.{DualDef}
use Rattle.program_form.specs.Program.{ProgramDef}
use Rattle.program_form.specs.Points.{IsScaledPoint, worth}

-- The point of these numbers, as refusals have it.
abbrev pub point_over : ℕ → List ℕ → DualDef
point_over den num = record { den = den; num = num }

-- Does the point meet every row, and is it worth so many whole ticks?
pub record IsWorth (p : ProgramDef) (den : ℕ) (num : List ℕ) (ticks : ℕ) : Type 0 where
  pub point : IsScaledPoint p den (slice_index num)
  pub enough : ticks * den ≤ worth p (slice_index num)
