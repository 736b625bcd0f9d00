-- What the functions of judging are given: a dual and its program, or a certificate and the set that it is for.
use Rattle.std.specs.Prelude.{◌≡◌, ℕ, ◌<◌, ◌≤◌, ◌^◌, List, length, vec_len}
use Rattle.program_form.specs.Certificate.{CertificateDef, certificate_seen}
use Rattle.program_form.specs.Program.{ProgramDef, height}
use Rattle.program_form.specs.declared.certificate.Certificate.{Certificate}
use Rattle.program_form.specs.declared.certificate.Dual.{Dual}
use Rattle.program_sources.specs.Recurrence.{SourceDef}
use Rattle.program_sources.specs.Fitting.{tasks_of}
use Rattle.sporadic_model.specs.SetDef.{SetDef}
use Rattle.sporadic_model.specs.Bounds.{AreWithinDeadlines}
use Rattle.schedule_answers.specs.Failures.{AllPass}
use Rattle.dual_check.specs.Answers.{HasDenominators, AreWorths, IsCovering, worth_at}
use Rattle.dual_check.specs.declared.duals.DualWorth.{DualWorth}

-- Can the dual's value for this program be compared with this bound? Its denominator isn't 0, it has a numerator for each row, and the bound
-- can be added to.
pub record CanBeWeighed (p : ProgramDef) (dual : Dual) (most : ℕ) : Type 0 where
  pub bound : most < 2 ^ 63
  pub denominator : 1 ≤ dual.den
  pub numerators : vec_len dual.num ≡ height p

-- Does the protocol serve the set, and are the certificate's bounds within the set's deadlines?
pub record IsServedWithin (served : SetDef → Type 0) (set : SetDef) (certificate : Certificate) : Type 0 where
  pub serves : served set
  pub within : AreWithinDeadlines set certificate.bounds.items

-- Has the certificate a dual for each task, and each dual a denominator of at least 1?
pub record HasDualForEach (set : SetDef) (certificate : Certificate) : Type 0 where
  pub dual_each : vec_len certificate.duals ≡ length set.tasks
  pub denominators : HasDenominators (certificate_seen certificate)

-- Is this what the duals of all tasks are worth, and does each of them hold all columns?
pub record AreCovering (f : SourceDef) (c : CertificateDef) (found : List DualWorth) : Type 0 where
  pub worths : AreWorths f c (tasks_of f) found
  pub covering : AllPass (tasks_of f) (λ i. IsCovering (worth_at found i))
