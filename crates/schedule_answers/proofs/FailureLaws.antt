-- Failures and validity exclude each other, and there is one failure.
use Rattle.std.proofs.Common.{◌≡◌, ℕ, refl, sym, subst, ap, ap₂, inl, inr}
use Rattle.std.proofs.lemmas.Bool.{cases_order}
use Rattle.program_form.specs.Certificate.{CertificateDef}
use Rattle.program_form.specs.Program.{columns}
use Rattle.sporadic_model.specs.declared.ids.TaskId.{TaskId}
use Rattle.program_sources.specs.Recurrence.{SourceDef}
use Rattle.program_sources.specs.Fitting.{tasks_of}
use Rattle.program_sources.specs.Valid.{IsValid}
use Rattle.schedule_answers.specs.Tests.{IsBoundWithin, HasDualSize, IsColumnCovered, IsCovered, IsEnough}
use Rattle.schedule_answers.specs.Failures.{AllPass, IsFirstFailing, PassesBounds, PassesDualSizes, PassesCovers, IsFailure}
use Rattle.schedule_answers.specs.declared.checked.Invalid.{Invalid}
use Rattle.schedule_answers.specs.declared.checked.Invalid.TheVariants as invalid

-- In a valid certificate no test fails.
pub no_failure : (e : Invalid) (f : SourceDef) (c : CertificateDef) → IsFailure e f c → IsValid f c → ⊥
no_failure invalid.Size f c fails valid = fails (record { bound_each = valid.bound_each; dual_each = valid.dual_each })
no_failure (invalid.Bound i) f c (sizes, first) valid = first.fails (valid.proved i.0 first.below).within
no_failure (invalid.DualSize i) f c (bounds, first) valid = first.fails (valid.proved i.0 first.below).feasible.number_each
no_failure (invalid.Cover i k) f c (sizes, first, column) valid = first.fails (valid.proved i.0 first.below).feasible.covers.covered
no_failure (invalid.Small i) f c (covers, first) valid = first.fails (valid.proved i.0 first.below).enough
no_failure invalid.Memory f c fails valid = fails

-- Two first failures of a test are the same, and there is none where all pass.
first_once : (n : ℕ) (test : ℕ → Type 0) (i j : ℕ) → IsFirstFailing n test i → IsFirstFailing n test j → i ≡ j
first_once n test i j a b = elim (cases_order i j) [
  | inl same ↦ same
  | inr (inl before) ↦ absurd (a.fails (b.earlier i before))
  | inr (inr after) ↦ absurd (b.fails (a.earlier j after))
]

not_all : (n : ℕ) (test : ℕ → Type 0) (i : ℕ) → IsFirstFailing n test i → AllPass n test → ⊥
not_all n test i first all = first.fails (all i first.below)

-- If a certificate fails one test, it has no failure of a later test.
no_bound : (f : SourceDef) (c : CertificateDef) (i : ℕ) → IsFirstFailing (tasks_of f) (IsBoundWithin f c) i → PassesBounds f c → ⊥
no_bound f c i first passes = not_all (tasks_of f) (IsBoundWithin f c) i first passes.1

no_size : (f : SourceDef) (c : CertificateDef) (i : ℕ) → IsFirstFailing (tasks_of f) (HasDualSize f c) i → PassesDualSizes f c → ⊥
no_size f c i first passes = not_all (tasks_of f) (HasDualSize f c) i first passes.1

no_cover : (f : SourceDef) (c : CertificateDef) (i : ℕ) → IsFirstFailing (tasks_of f) (IsCovered f c) i → PassesCovers f c → ⊥
no_cover f c i first passes = not_all (tasks_of f) (IsCovered f c) i first passes.1

one_cover : (f : SourceDef) (c : CertificateDef) (i j : TaskId) (k m : ℕ) → IsFailure (invalid.Cover i k) f c
    → IsFailure (invalid.Cover j m) f c
    → invalid.Cover i k ≡ invalid.Cover j m
one_cover f c i j k m p q =
    let task : i.0 ≡ j.0 = first_once (tasks_of f) (IsCovered f c) i.0 j.0 p.1 q.1 in
    let here : IsFirstFailing (columns (f.program i.0 c.bounds)) (IsColumnCovered f c i.0) m =
    subst (λ (x : ℕ). IsFirstFailing (columns (f.program x c.bounds)) (IsColumnCovered f c x) m) (sym task) q.2 in
    let column : k ≡ m = first_once (columns (f.program i.0 c.bounds)) (IsColumnCovered f c i.0) k m p.2 here in
    ap₂ (λ (x y : ℕ). invalid.Cover (record { 0 = x }) y) task column

-- So there is one failure.
pub one_failure : (e e' : Invalid) (f : SourceDef) (c : CertificateDef) → IsFailure e f c → IsFailure e' f c → e ≡ e'
one_failure invalid.Size invalid.Size f c p q = refl
one_failure invalid.Size (invalid.Bound j) f c p q = absurd (p q.0)
one_failure invalid.Size (invalid.DualSize j) f c p q = absurd (p q.0.0)
one_failure invalid.Size (invalid.Cover j m) f c p q = absurd (p q.0.0.0)
one_failure invalid.Size (invalid.Small j) f c p q = absurd (p q.0.0.0.0)
one_failure (invalid.Bound i) invalid.Size f c p q = absurd (q p.0)
one_failure (invalid.Bound i) (invalid.Bound j) f c p q =
    ap (λ (x : ℕ). invalid.Bound (record { 0 = x })) (first_once (tasks_of f) (IsBoundWithin f c) i.0 j.0 p.1 q.1)
one_failure (invalid.Bound i) (invalid.DualSize j) f c p q = absurd (no_bound f c i.0 p.1 q.0)
one_failure (invalid.Bound i) (invalid.Cover j m) f c p q = absurd (no_bound f c i.0 p.1 q.0.0)
one_failure (invalid.Bound i) (invalid.Small j) f c p q = absurd (no_bound f c i.0 p.1 q.0.0.0)
one_failure (invalid.DualSize i) invalid.Size f c p q = absurd (q p.0.0)
one_failure (invalid.DualSize i) (invalid.Bound j) f c p q = absurd (no_bound f c j.0 q.1 p.0)
one_failure (invalid.DualSize i) (invalid.DualSize j) f c p q =
    ap (λ (x : ℕ). invalid.DualSize (record { 0 = x })) (first_once (tasks_of f) (HasDualSize f c) i.0 j.0 p.1 q.1)
one_failure (invalid.DualSize i) (invalid.Cover j m) f c p q = absurd (no_size f c i.0 p.1 q.0)
one_failure (invalid.DualSize i) (invalid.Small j) f c p q = absurd (no_size f c i.0 p.1 q.0.0)
one_failure (invalid.Cover i k) invalid.Size f c p q = absurd (q p.0.0.0)
one_failure (invalid.Cover i k) (invalid.Bound j) f c p q = absurd (no_bound f c j.0 q.1 p.0.0)
one_failure (invalid.Cover i k) (invalid.DualSize j) f c p q = absurd (no_size f c j.0 q.1 p.0)
one_failure (invalid.Cover i k) (invalid.Cover j m) f c p q = one_cover f c i j k m p q
one_failure (invalid.Cover i k) (invalid.Small j) f c p q = absurd (no_cover f c i.0 p.1 q.0)
one_failure (invalid.Small i) invalid.Size f c p q = absurd (q p.0.0.0.0)
one_failure (invalid.Small i) (invalid.Bound j) f c p q = absurd (no_bound f c j.0 q.1 p.0.0.0)
one_failure (invalid.Small i) (invalid.DualSize j) f c p q = absurd (no_size f c j.0 q.1 p.0.0)
one_failure (invalid.Small i) (invalid.Cover j m) f c p q = absurd (no_cover f c j.0 q.1 p.0)
one_failure (invalid.Small i) (invalid.Small j) f c p q =
    ap (λ (x : ℕ). invalid.Small (record { 0 = x })) (first_once (tasks_of f) (IsEnough f c) i.0 j.0 p.1 q.1)
one_failure invalid.Memory e f c p q = absurd p
one_failure e invalid.Memory f c p q = absurd q
