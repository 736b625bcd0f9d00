-- What is kept of the charges of a schedule while it is walked.
use Rattle.std.specs.Prelude.{◌≡◌, ℕ, ◌&&◌, not, Bool, nat_lt, Option, length}
use Rattle.number_laws.specs.Tests.{found_below}
use Rattle.schedule_model.specs.RowDef.{Trace}
use Rattle.schedule_model.specs.Phase.{is_finished, phase_of}
use Rattle.schedule_model.specs.Seen.{place_seen}
use Rattle.charge_laws.specs.Charges.{Charge}
use Rattle.charge_laws.specs.Windows.{bound_end}
use Rattle.charge.specs.declared.tally.Ledger.{Ledger}
use Rattle.charge.specs.Tally.{IsTally, ticks_before}

-- Has job j passed its bound before tick n: is its release plus the bound less than n, and the job not finished by then?
unfoldable pub has_passed_before : Trace → (ℕ → ℕ) → ℕ → ℕ → Bool
has_passed_before w bound n j = nat_lt (bound_end w bound j) n && not (is_finished (phase_of w (bound_end w bound j) j))

-- The first job that has, if any has.
abbrev pub first_passed_before : Trace → (ℕ → ℕ) → ℕ → Option ℕ
first_passed_before w bound n = found_below (length w.jobs) (has_passed_before w bound n)

-- Are the ticks of the first n rows counted, and is the first job that passed its bound before tick n noted?
pub record IsLedger (charges : Trace → ℕ → ℕ → Option Charge) (w : Trace) (bound : ℕ → ℕ) (n : ℕ) (ledger : Ledger) : Type 0 where
  pub counted : IsTally ledger.ticks (ticks_before charges w bound n)
  pub passed : place_seen ledger.passed ≡ first_passed_before w bound n
