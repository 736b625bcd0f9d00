-- Stretches of equal rows in which nothing changes for any job, and what stays the same in such a stretch.
use Rattle.std.specs.Prelude.{◌≡◌, ◌≢◌, ◌⊎◌, ℕ, ◌+◌, ◌<◌, Bool, true, length}
use Rattle.sporadic_model.specs.SetDef.{SetDef}
use Rattle.schedule_model.specs.JobDef.{job_of}
use Rattle.schedule_model.specs.LawfulJobs.{AreLawfulJobs}
use Rattle.schedule_model.specs.RowDef.{Trace, jobs_of, runs_in}
use Rattle.schedule_model.specs.Phase.{phase_of}
use Rattle.schedule_model.specs.BlockedTicks.{is_blocked}
use Rattle.schedule_model.specs.Keeping.{KeepsRow}
use Rattle.schedule_model.specs.declared.rule.Rule.{Rule}

-- Does something change after n rows like the one at tick t: has the phase of a job ended that runs in it, or is a job released then?
abbrev pub Changes : Trace → ℕ → ℕ → Type 0
Changes w t n =
    ((j : ℕ) × (runs_in (w.row t) j ≡ true) × (phase_of w (t + n) j ≢ phase_of w t j))
    ⊎ ((j : ℕ) × (j < length w.jobs) × ((job_of w.jobs j).release ≡ t + n))

-- Are the n rows from tick t on equal, and does nothing change at a tick between the first and the last of them?
pub record IsSteady (w : Trace) (t n : ℕ) : Type 0 where
  pub rows : (i : ℕ) → i < n → w.row (t + i) ≡ w.row t
  pub phases : (i j : ℕ) → i < n → runs_in (w.row t) j ≡ true → phase_of w (t + i) j ≡ phase_of w t j
  pub releases : (i j : ℕ) → 0 < i → i < n → j < length w.jobs → (job_of w.jobs j).release ≢ t + i

-- At tick u the row keeps the rules. The same jobs are blocked as at tick t. The row is the chosen one if it was at t.
pub record IsAsLawful (keeps : Rule → Trace → ℕ → Type 0) (chooses : Trace → ℕ → Type 0) (interferes : Trace → ℕ → ℕ → Bool)
    (w : Trace) (t u : ℕ) : Type 0 where
  pub lawful : KeepsRow keeps w u
  pub blocked : (j : ℕ) → is_blocked interferes w u j ≡ is_blocked interferes w t j
  pub chosen : chooses w t → chooses w u

-- If the first row of a steady stretch keeps the rules, is each of its rows as lawful as the first?
abbrev pub StaysLawful : (SetDef → Type 0) → (Rule → Trace → ℕ → Type 0) → (Trace → ℕ → Type 0) → (Trace → ℕ → ℕ → Bool) → Type 0
StaysLawful suits keeps chooses interferes = (w : Trace) (t n : ℕ) → suits w.set → AreLawfulJobs (jobs_of w) → IsSteady w t n
    → KeepsRow keeps w t → (i : ℕ) → i < n → IsAsLawful keeps chooses interferes w t (t + i)
