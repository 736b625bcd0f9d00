-- What the answers say of a certificate.
use Rattle.std.specs.Prelude.{◌≡◌, ℕ, ◌+◌, ◌<◌, ◌≤◌, min, List, length, slice_index, slice_index_or, Option, Some, None, option_map}
use Rattle.std.specs.Prelude.{Result, Ok, Err}
use Rattle.std.specs.Global.{Global}
use Rattle.std.specs.declared.vec.Vec.{Vec}
use Rattle.program_form.specs.Certificate.{DualDef, CertificateDef}
use Rattle.program_form.specs.Program.{ProgramDef, columns}
use Rattle.program_form.specs.Duals.{dual_value}
use Rattle.program_sources.specs.Recurrence.{SourceDef}
use Rattle.program_sources.specs.Fitting.{tasks_of}
use Rattle.program_sources.specs.Valid.{IsValid, dual_at, value_at}
use Rattle.sporadic_model.specs.SetDef.{SetDef, task_at, latest_bound}
use Rattle.sporadic_model.specs.declared.ids.TaskId.{TaskId}
use Rattle.soundness_laws.specs.Analyses.{AreValues}
use Rattle.schedule_answers.specs.Tests.{HoldsColumn, HoldsColumns, HasDualSize, IsEnough}
use Rattle.schedule_answers.specs.Failures.{AllPass, Finds, IsFirstFailing, IsFailure}
use Rattle.schedule_answers.specs.declared.checked.Valid.{Valid}
use Rattle.schedule_answers.specs.declared.checked.Invalid.{Invalid}
use Rattle.schedule_answers.specs.declared.checked.Invalid.TheVariants as invalid
use Rattle.dual_check.specs.declared.duals.DualWorth.{DualWorth}
use Rattle.dual_check.specs.declared.duals.DualWorth.TheVariants as worth

-- Has each dual a denominator of at least 1?
abbrev pub HasDenominators : CertificateDef → Type 0
HasDenominators c = (i : ℕ) → i < length c.duals → 1 ≤ (dual_at c.duals i).den

-- What the answer says: the certificate is valid and these are the values of its duals, or this is its first failure. Running out of
-- memory says nothing about it.
abbrev pub Judges : Result Valid Invalid → SourceDef → CertificateDef → Type 0
Judges (Ok v) f c = IsValid f c × AreValues f c v.values.items
Judges (Err invalid.Memory) f c = Unit {0}
Judges (Err e) f c = IsFailure e f c

-- Is this the first task whose bound passes its latest one?
abbrev pub FindsLate : Option TaskId → SetDef → List ℕ → Type 0
FindsLate found set bounds =
    Finds (option_map (λ x. x.0) found) (length set.tasks) (λ i. slice_index bounds i ≤ latest_bound (task_at set i))

-- Is this what a dual is worth for a program: the first column that it doesn't hold, or its value? A value above the most counts as one
-- above the most.
abbrev pub IsWorth : DualWorth → ProgramDef → DualDef → ℕ → Type 0
IsWorth (worth.Uncovered k) p d most = IsFirstFailing (columns p) (HoldsColumn p d) k
IsWorth (worth.Covering value) p d most = HoldsColumns p d × (value ≡ min (most + 1) (dual_value p d.den (λ r. slice_index d.num r)))

-- What was said of the dual of task i. Past the last task nothing was.
abbrev pub worth_at : List DualWorth → ℕ → DualWorth
worth_at worths i = slice_index_or worths i (worth.Uncovered 0)

-- Is this what the dual of task i is worth, with the task's bound as the most?
abbrev pub IsWorthOf : SourceDef → CertificateDef → ℕ → DualWorth → Type 0
IsWorthOf f c i w = IsWorth w (f.program i c.bounds) (dual_at c.duals i) (slice_index c.bounds i)

-- Is this what the duals of the first n tasks are worth? And has each of them a numerator for each row?
pub record AreWorths (f : SourceDef) (c : CertificateDef) (n : ℕ) (worths : List DualWorth) : Type 0 where
  pub one_each : length worths ≡ n
  pub sizes : AllPass n (HasDualSize f c)
  pub each : AllPass n (λ i. IsWorthOf f c i (worth_at worths i))

-- What weighing the duals gives: what each is worth, or the first dual of the wrong size.
abbrev pub Weighs : Result (Vec DualWorth Global) Invalid → SourceDef → CertificateDef → Type 0
Weighs (Ok worths) f c = AreWorths f c (tasks_of f) worths.items
Weighs (Err (invalid.DualSize i)) f c = IsFirstFailing (tasks_of f) (HasDualSize f c) i.0
Weighs (Err invalid.Memory) f c = Unit {0}
Weighs (Err _) f c = ⊥

-- Is it a value?
abbrev pub IsCovering : DualWorth → Type 0
IsCovering (worth.Uncovered k) = ⊥
IsCovering (worth.Covering value) = Unit {0}

-- Which task is the first whose dual leaves a column out, and which column is it? None if each dual holds all columns.
abbrev pub FindsUncovered : Option (ℕ × ℕ) → List DualWorth → Type 0
FindsUncovered None worths = AllPass (length worths) (λ i. IsCovering (worth_at worths i))
FindsUncovered (Some (i, k)) worths =
    IsFirstFailing (length worths) (λ j. IsCovering (worth_at worths j)) i
    × (worth_at worths i ≡ worth.Uncovered k)

-- What a dual's value counts as. A dual that leaves a column out counts as 0.
abbrev pub counted : DualWorth → ℕ
counted (worth.Uncovered k) = 0
counted (worth.Covering value) = value

-- The values of the first n tasks. Each bound is enough.
pub record AreEnough (f : SourceDef) (c : CertificateDef) (n : ℕ) (values : List ℕ) : Type 0 where
  pub one_each : length values ≡ n
  pub enough : AllPass n (IsEnough f c)
  pub each : AllPass n (λ i. slice_index values i ≡ value_at f c i)

-- What adding up gives: the values of all duals, or the first task whose dual has too great a value.
abbrev pub Sums : Result (Vec ℕ Global) Invalid → SourceDef → CertificateDef → Type 0
Sums (Ok values) f c = AreEnough f c (tasks_of f) values.items
Sums (Err (invalid.Small i)) f c = IsFirstFailing (tasks_of f) (IsEnough f c) i.0
Sums (Err invalid.Memory) f c = Unit {0}
Sums (Err _) f c = ⊥
