-- In which order are the tests tried, and which failure is named? Each test is tried over all tasks, before the next test.
use Rattle.std.specs.Prelude.{ℕ, ◌<◌, Option, Some, None}
use Rattle.program_form.specs.Certificate.{CertificateDef}
use Rattle.program_form.specs.Program.{columns}
use Rattle.program_sources.specs.Recurrence.{SourceDef}
use Rattle.program_sources.specs.Fitting.{tasks_of}
use Rattle.schedule_answers.specs.Tests.{HasSizes, IsBoundWithin, HasDualSize, IsColumnCovered, IsCovered, IsEnough}
use Rattle.schedule_answers.specs.declared.checked.Invalid.{Invalid}
use Rattle.schedule_answers.specs.declared.checked.Invalid.TheVariants as invalid

-- Do all of n pass the test?
abbrev pub AllPass : ℕ → (ℕ → Type 0) → Type 0
AllPass n test = (i : ℕ) → i < n → test i

-- Is i the first of n that fails the test?
pub record IsFirstFailing (n : ℕ) (test : ℕ → Type 0) (i : ℕ) : Type 0 where
  pub below : i < n
  pub fails : test i → ⊥
  pub earlier : (k : ℕ) → k < i → test k

-- Is this the first of n that fails the test? If none is named, do all of them pass?
abbrev pub Finds : Option ℕ → ℕ → (ℕ → Type 0) → Type 0
Finds None n test = AllPass n test
Finds (Some i) n test = IsFirstFailing n test i

-- Does the certificate pass the first two tests, the first three, the first four?
abbrev pub PassesBounds : SourceDef → CertificateDef → Type 0
PassesBounds f c = HasSizes f c × AllPass (tasks_of f) (IsBoundWithin f c)

abbrev pub PassesDualSizes : SourceDef → CertificateDef → Type 0
PassesDualSizes f c = PassesBounds f c × AllPass (tasks_of f) (HasDualSize f c)

abbrev pub PassesCovers : SourceDef → CertificateDef → Type 0
PassesCovers f c = PassesDualSizes f c × AllPass (tasks_of f) (IsCovered f c)

-- Is this why the certificate is not valid? It names the first test that fails, and the first task that fails it. For a test of columns it
-- names the first column of the task's program too.
abbrev pub IsFailure : Invalid → SourceDef → CertificateDef → Type 0
IsFailure invalid.Size f c = HasSizes f c → ⊥
IsFailure (invalid.Bound i) f c = HasSizes f c × IsFirstFailing (tasks_of f) (IsBoundWithin f c) i.0
IsFailure (invalid.DualSize i) f c = PassesBounds f c × IsFirstFailing (tasks_of f) (HasDualSize f c) i.0
IsFailure (invalid.Cover i k) f c =
    PassesDualSizes f c
    × IsFirstFailing (tasks_of f) (IsCovered f c) i.0
    × IsFirstFailing (columns (f.program i.0 c.bounds)) (IsColumnCovered f c i.0) k
IsFailure (invalid.Small i) f c = PassesCovers f c × IsFirstFailing (tasks_of f) (IsEnough f c) i.0
IsFailure invalid.Memory f c = ⊥
