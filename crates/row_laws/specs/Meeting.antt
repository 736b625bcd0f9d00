-- What the ticks of a job's window contribute to a row, however they are charged, and when they meet the row.
use Rattle.std.specs.Prelude.{◌≡◌, ℕ, ◌*◌, ◌≤◌, true, Option, Some}
use Rattle.std.specs.Option.{option_map_or}
use Rattle.number_laws.specs.Sums.{sum_below}
use Rattle.sporadic_model.specs.Users.{length_of}
use Rattle.schedule_model.specs.RowDef.{Trace}
use Rattle.schedule_model.specs.Activity.{is_active}
use Rattle.blocking_columns.specs.ColumnDef.{ColumnDef}
use Rattle.fragments.specs.Constraints.{ConstraintDef}
use Rattle.charge_laws.specs.Charges.{Charge}
use Rattle.charge_laws.specs.Windows.{window_end}
use Rattle.charge_laws.specs.Fractions.{charged_column}

-- A way of charging ticks: to which request is a tick charged for a job, if to any?
abbrev pub Charges : Type 0
Charges = Trace → ℕ → ℕ → Option Charge

-- Are ticks charged for job j only while it is active?
abbrev pub ChargesActive : Charges → Trace → ℕ → Type 0
ChargesActive charges w j = (t : ℕ) (charge : Charge) → charges w t j ≡ Some charge → is_active w t j ≡ true

-- What a tick contributes that is charged in this column, if it is charged in one.
abbrev pub brought : (ColumnDef → ℕ) → Option ColumnDef → ℕ
brought f named = option_map_or f named 0

abbrev pub brings : Charges → Trace → (ColumnDef → ℕ) → ℕ → ℕ → ℕ
brings charges w f j t = brought f (charged_column charges w t j)

-- Do the ticks of job j's window meet a row? What they contribute is at most s times the row's limit, for every scale s and every way to
-- give each tick a share of s: a request's ticks together have at most s.
abbrev pub TicksMeet : Charges → Trace → (ℕ → ℕ) → ℕ → ℕ → ConstraintDef → Type 0
TicksMeet charges w bound n j k =
    (s : ℕ) (share : ℕ → ℕ → ℕ) → ((x q : ℕ) → share x q * length_of w.set x q ≤ s)
    → sum_below (window_end w bound n j) (λ t. brings charges w (λ c. k.coefficient c * share c.task c.resource) j t) ≤ s * k.limit bound
