-- When are the programs of a source an analysis of a protocol, and which numbers does a certificate prove?
use Rattle.std.specs.Prelude.{◌≡◌, ℕ, ◌<◌, ◌≤◌, Bool, List, length, slice_index}
use Rattle.number_laws.specs.Tests.{count_below}
use Rattle.program_form.specs.Certificate.{CertificateDef}
use Rattle.program_form.specs.Duals.{Covers, dual_value}
use Rattle.sporadic_model.specs.SetDef.{task_at}
use Rattle.schedule_model.specs.RowDef.{Trace}
use Rattle.schedule_model.specs.Activity.{task_of}
use Rattle.schedule_model.specs.BlockedTicks.{is_blocked}
use Rattle.schedule_model.specs.declared.rule.Rule.{Rule}
use Rattle.program_sources.specs.Recurrence.{SourceDef}
use Rattle.program_sources.specs.Fitting.{tasks_of}
use Rattle.program_sources.specs.Valid.{value_at}
use Rattle.charge_laws.specs.Interferers.{interferes_with_some}
use Rattle.charge_laws.specs.Windows.{bound_end, window_end, EndedWithin}
use Rattle.soundness_laws.specs.Sound.{IsLawfulSchedule}

-- Are these the values of the certificate's duals, one for each task?
pub record AreValues (f : SourceDef) (c : CertificateDef) (values : List ℕ) : Type 0 where
  pub one_each : length values ≡ tasks_of f
  pub each : (i : ℕ) → i < tasks_of f → slice_index values i ≡ value_at f c i

-- Does the source analyse the protocol with these rules and this interference, on its own set? First, no job interferes with others at more
-- ticks than its task's interfering cost, which is at most the cost. Second, take a job in a lawful schedule of n rows. Let each job whose
-- release plus bound is less than this job's, and lies within the rows, be finished by its own release plus its bound. Then this job is
-- blocked in its window at no more ticks than the value of any dual that covers its program at these bounds.
pub record Analyses (keeps : Rule → Trace → ℕ → Type 0) (interferes : Trace → ℕ → ℕ → Bool) (f : SourceDef) : Type 0 where
  pub most : (h : ℕ) → h < tasks_of f → f.interfering h ≤ (task_at f.set h).cost
  pub interfering : (w : Trace) (n y : ℕ) → IsLawfulSchedule keeps f.set w n → y < length w.jobs
      → count_below n (λ t. interferes_with_some interferes w t y) ≤ f.interfering (task_of w y)
  pub blocked : (w : Trace) (bounds : List ℕ) (n j den : ℕ) (num : ℕ → ℕ) → IsLawfulSchedule keeps f.set w n → j < length w.jobs
      → EndedWithin w (slice_index bounds) (bound_end w (slice_index bounds) j) n → Covers (f.program (task_of w j) bounds) den num
      → count_below (window_end w (slice_index bounds) n j) (λ t. is_blocked interferes w t j)
      ≤ dual_value (f.program (task_of w j) bounds) den num
