-- What stays the same in a steady stretch: to what each of its ticks is charged.
use Rattle.std.specs.Prelude.{◌≡◌, ℕ, ◌+◌, ◌<◌, Option}
use Rattle.sporadic_model.specs.SetDef.{SetDef}
use Rattle.schedule_model.specs.LawfulJobs.{AreLawfulJobs}
use Rattle.schedule_model.specs.RowDef.{Trace, jobs_of}
use Rattle.schedule_model.specs.Keeping.{KeepsRow}
use Rattle.schedule_model.specs.declared.rule.Rule.{Rule}
use Rattle.schedule_laws.specs.Steady.{IsSteady}
use Rattle.charge_laws.specs.Charges.{Charge}

-- Take a steady stretch whose first row keeps the rules. Is each of its ticks charged, for each job, as the first is: to the same job in
-- the same way, or to nothing? No phase ends in between, so it is the same request of that job.
abbrev pub StaysCharged : (SetDef → Type 0) → (Rule → Trace → ℕ → Type 0) → (Trace → ℕ → ℕ → Option Charge) → Type 0
StaysCharged suits keeps charges = (w : Trace) (t n : ℕ) → suits w.set → AreLawfulJobs (jobs_of w) → IsSteady w t n → KeepsRow keeps w t
    → (i j : ℕ) → i < n → charges w (t + i) j ≡ charges w t j
