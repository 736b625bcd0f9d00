-- Which jobs have passed their bounds.
use Rattle.std.specs.Prelude.{ℕ, ◌&&◌, not, Bool, nat_le, Option, length}
use Rattle.number_laws.specs.Tests.{found_below}
use Rattle.schedule_model.specs.RowDef.{Trace}
use Rattle.schedule_model.specs.Phase.{is_finished, phase_of}
use Rattle.charge_laws.specs.Windows.{bound_end}

-- Has job j passed its bound within n rows: is its release plus the bound at most n, and the job not finished by then?
unfoldable pub has_passed : Trace → (ℕ → ℕ) → ℕ → ℕ → Bool
has_passed w bound n j = nat_le (bound_end w bound j) n && not (is_finished (phase_of w (bound_end w bound j) j))

-- The first job that has, if any has.
abbrev pub first_passed : Trace → (ℕ → ℕ) → ℕ → Option ℕ
first_passed w bound n = found_below (length w.jobs) (has_passed w bound n)
