-- Which certificates prove their bounds. You can judge a certificate from the programs alone.
use Rattle.std.specs.Prelude.{◌≡◌, ℕ, ◌<◌, ◌≤◌, List, [], length, slice_index, slice_index_or}
use Rattle.program_form.specs.Certificate.{DualDef, CertificateDef}
use Rattle.program_form.specs.Duals.{IsFeasibleDual, IsOptimalDual, dual_value}
use Rattle.sporadic_model.specs.SetDef.{task_at, latest_bound}
use Rattle.program_sources.specs.Recurrence.{SourceDef, response_with}
use Rattle.program_sources.specs.Fitting.{tasks_of}

-- The dual of task i in a list of duals. Past the last one it is no dual: its denominator is 0.
abbrev pub dual_at : List DualDef → ℕ → DualDef
dual_at duals i = slice_index_or duals i (record { den = 0; num = [] })

-- What is no dual, by a name that proofs use.
abbrev pub no_dual : DualDef
no_dual = record { den = 0; num = [] }

-- The value of task i's dual, for its program at the certificate's bounds.
abbrev pub value_at : SourceDef → CertificateDef → ℕ → ℕ
value_at f c i = dual_value (f.program i c.bounds) (dual_at c.duals i).den (λ r. slice_index (dual_at c.duals i).num r)

-- Does the certificate prove task i's bound? The bound is at most the latest one. The dual is feasible for the task's program at the
-- certificate's bounds. The response time with the dual's value as blocking is at most the bound.
pub record IsProvedBound (f : SourceDef) (c : CertificateDef) (i : ℕ) : Type 0 where
  pub within : slice_index c.bounds i ≤ latest_bound (task_at f.set i)
  pub feasible : IsFeasibleDual (f.program i c.bounds) (dual_at c.duals i)
  pub enough : response_with f c.bounds i (value_at f c i) ≤ slice_index c.bounds i

-- Is the certificate valid: has it one bound and one dual for each task, and does it prove each bound?
pub record IsValid (f : SourceDef) (c : CertificateDef) : Type 0 where
  pub bound_each : length c.bounds ≡ tasks_of f
  pub dual_each : length c.duals ≡ tasks_of f
  pub proved : (i : ℕ) → i < tasks_of f → IsProvedBound f c i

-- Is there a dual for each task, and is each one optimal for the task's program at the bounds?
pub record AreOptimalDuals (f : SourceDef) (bounds : List ℕ) (duals : List DualDef) : Type 0 where
  pub one_each : length duals ≡ tasks_of f
  pub optimal : (i : ℕ) → i < tasks_of f → IsOptimalDual (f.program i bounds) (dual_at duals i)
