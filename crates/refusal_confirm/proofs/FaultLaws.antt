-- Faults and refusals that hold exclude each other, and there is one fault.
use Rattle.std.proofs.Common.{◌≡◌, ℕ, ◌+◌, ◌-◌, ◌<◌, ◌⊎◌, List, length, refl, sym, subst, ap, ◌∙◌, arith, inl, inr}
use Rattle.std.proofs.lemmas.Bool.{cases_order}
use Rattle.std.specs.Prelude.{Result, Ok, Err, IfOk, IfErr}
use Rattle.program_form.specs.Certificate.{DualDef}
use Rattle.program_form.specs.Program.{ProgramDef}
use Rattle.program_sources.specs.Recurrence.{SourceDef}
use Rattle.program_sources.specs.Fitting.{AreFitting}
use Rattle.refusal_laws.specs.Steps.{StepDef, Holds, step_at, vector_before}
use Rattle.refusal_confirm.specs.Tests.{IsFirstBroken, IsOver, Passes, program_at}
use Rattle.refusal_confirm.specs.Faults.{IsFirst, IsFault, Confirms, Names}
use Rattle.refusal_confirm.specs.Parts.{FailsPart, fault_of}
use Rattle.refusal_confirm.specs.declared.fault.Fault.{Fault}
use Rattle.refusal_confirm.specs.declared.fault.Fault.TheVariants as fault
use Rattle.refusal_confirm.specs.declared.fault.Part.{Part}
use Rattle.refusal_confirm.specs.declared.fault.Part.TheVariants as part

-- Do all steps pass?
abbrev AllPass : SourceDef → List StepDef → Type 0
AllPass f steps = (k : ℕ) → k < length steps → Passes f steps k

-- Where the refusal holds they do, and the last one passes its latest bound.
holds_passes : (f : SourceDef) (steps : List StepDef) → Holds f steps → AllPass f steps
holds_passes f steps holds k here = record {
  entered = record {
    calm = λ j below. holds.within j (omega (arith, below, here));
    task = ((holds.each k here).from_one, omega (arith, (holds.each k here).at.task));
    rising = (holds.each k here).at.rising;
  };
  shown = record {
    size = (holds.each k here).at.size;
    rows = (holds.each k here).at.rows.kept;
    reached = (holds.each k here).at.low;
  };
}

holds_over : (f : SourceDef) (steps : List StepDef) → Holds f steps → IsOver f.set steps
holds_over f steps holds =
    let is_last : length steps - 1 + 1 ≡ length steps = omega (arith, holds.some) in
    record { last = length steps - 1; is_last = is_last; passes = holds.passes (length steps - 1) is_last }

-- A step that fails a test doesn't pass.
not_passing : (p : Part) (f : SourceDef) (steps : List StepDef) (k : ℕ) → FailsPart p f steps k → Passes f steps k → ⊥
not_passing part.After f steps k fails passes = fails passes.entered.calm
not_passing part.Task f steps k fails passes = fails.1 passes.entered.task
not_passing part.Rising f steps k fails passes = fails.2 passes.entered.rising
not_passing part.Size f steps k fails passes = fails.1 passes.shown.size
not_passing (part.Row r) f steps k fails passes = fails.1.1.broken (passes.shown.rows r fails.1.1.within)
not_passing part.Low f steps k fails passes = fails.1.2 passes.shown.reached

-- A fault is a test that a step fails, behind steps that pass, or there is no last step that passes its latest bound.
record Failed (e : Fault) (f : SourceDef) (steps : List StepDef) : Type 0 where
  pub test : Part
  pub step : ℕ
  pub is : e ≡ fault_of test (step + 1)
  pub within : step < length steps
  pub earlier : (j : ℕ) → j < step → Passes f steps j
  pub fails : FailsPart test f steps step

record IsOpen (e : Fault) (f : SourceDef) (steps : List StepDef) : Type 0 where
  pub is : e ≡ fault.Open
  pub all : AllPass f steps
  pub none : IsOver f.set steps → ⊥

failed : (p : Part) (f : SourceDef) (steps : List StepDef) (n : ℕ) → IsFirst (FailsPart p) f steps n → Failed (fault_of p n) f steps
failed p f steps n first = record {
  test = p;
  step = first.step;
  is = ap (fault_of p) first.number;
  within = first.within;
  earlier = first.earlier;
  fails = first.failed;
}

kinds : (e : Fault) (f : SourceDef) (steps : List StepDef) → IsFault e f steps → Failed e f steps ⊎ IsOpen e f steps
kinds (fault.After n) f steps is = inl (failed part.After f steps n is)
kinds (fault.Task n) f steps is = inl (failed part.Task f steps n is)
kinds (fault.Rising n) f steps is = inl (failed part.Rising f steps n is)
kinds (fault.Size n) f steps is = inl (failed part.Size f steps n is)
kinds (fault.Row n row) f steps is =
    inl (subst (λ (m : ℕ). Failed (fault.Row n m) f steps) (sym is.1) (failed (part.Row is.0) f steps n is.2))
kinds (fault.Low n) f steps is = inl (failed part.Low f steps n is)
kinds fault.Open f steps is = inr (record { is = refl; all = is.0; none = is.1 })
kinds fault.Memory f steps is = absurd is

-- No refusal with a fault holds.
pub no_fault : (e : Fault) (f : SourceDef) (steps : List StepDef) → IsFault e f steps → Holds f steps → ⊥
no_fault e f steps is holds = elim (kinds e f steps is) [
  | inl failed ↦ not_passing failed.test f steps failed.step failed.fails (holds_passes f steps holds failed.step failed.within)
  | inr none ↦ none.none (holds_over f steps holds)
]

one_row : (p : ProgramDef) (point : DualDef) (r s : ℕ) → IsFirstBroken p point r → IsFirstBroken p point s → r ≡ s
one_row p point r s a b = elim (cases_order r s) [
  | inl same ↦ same
  | inr (inl before) ↦ absurd (a.broken (b.earlier r before))
  | inr (inr after) ↦ absurd (b.broken (a.earlier s after))
]

-- A step fails one test first.
one_test : (p q : Part) (f : SourceDef) (steps : List StepDef) (k : ℕ) → FailsPart p f steps k → FailsPart q f steps k → p ≡ q
one_test part.After part.After f steps k a b = refl
one_test part.After part.Task f steps k a b = absurd (a b.0)
one_test part.After part.Rising f steps k a b = absurd (a b.0)
one_test part.After part.Size f steps k a b = absurd (a b.0.calm)
one_test part.After (part.Row s) f steps k a b = absurd (a b.0.calm)
one_test part.After part.Low f steps k a b = absurd (a b.0.calm)
one_test part.Task part.After f steps k a b = absurd (b a.0)
one_test part.Task part.Task f steps k a b = refl
one_test part.Task part.Rising f steps k a b = absurd (a.1 b.1)
one_test part.Task part.Size f steps k a b = absurd (a.1 b.0.task)
one_test part.Task (part.Row s) f steps k a b = absurd (a.1 b.0.task)
one_test part.Task part.Low f steps k a b = absurd (a.1 b.0.task)
one_test part.Rising part.After f steps k a b = absurd (b a.0)
one_test part.Rising part.Task f steps k a b = absurd (b.1 a.1)
one_test part.Rising part.Rising f steps k a b = refl
one_test part.Rising part.Size f steps k a b = absurd (a.2 b.0.rising)
one_test part.Rising (part.Row s) f steps k a b = absurd (a.2 b.0.rising)
one_test part.Rising part.Low f steps k a b = absurd (a.2 b.0.rising)
one_test part.Size part.After f steps k a b = absurd (b a.0.calm)
one_test part.Size part.Task f steps k a b = absurd (b.1 a.0.task)
one_test part.Size part.Rising f steps k a b = absurd (b.2 a.0.rising)
one_test part.Size part.Size f steps k a b = refl
one_test part.Size (part.Row s) f steps k a b = absurd (a.1 b.1.0)
one_test part.Size part.Low f steps k a b = absurd (a.1 b.1.0)
one_test (part.Row r) part.After f steps k a b = absurd (b a.0.calm)
one_test (part.Row r) part.Task f steps k a b = absurd (b.1 a.0.task)
one_test (part.Row r) part.Rising f steps k a b = absurd (b.2 a.0.rising)
one_test (part.Row r) part.Size f steps k a b = absurd (b.1 a.1.0)
one_test (part.Row r) (part.Row s) f steps k a b =
    ap part.Row (one_row (program_at f (vector_before f.set steps k) (step_at steps k)) (step_at steps k).point r s a.1.1 b.1.1)
one_test (part.Row r) part.Low f steps k a b = absurd (a.1.1.broken (b.1.1 r a.1.1.within))
one_test part.Low part.After f steps k a b = absurd (b a.0.calm)
one_test part.Low part.Task f steps k a b = absurd (b.1 a.0.task)
one_test part.Low part.Rising f steps k a b = absurd (b.2 a.0.rising)
one_test part.Low part.Size f steps k a b = absurd (b.1 a.1.0)
one_test part.Low (part.Row s) f steps k a b = absurd (b.1.1.broken (a.1.1 s b.1.1.within))
one_test part.Low part.Low f steps k a b = refl

one_step : (d e : Fault) (f : SourceDef) (steps : List StepDef) (a : Failed d f steps) (b : Failed e f steps) → a.step ≡ b.step
one_step d e f steps a b = elim (cases_order a.step b.step) [
  | inl same ↦ same
  | inr (inl before) ↦ absurd (not_passing a.test f steps a.step a.fails (b.earlier a.step before))
  | inr (inr after) ↦ absurd (not_passing b.test f steps b.step b.fails (a.earlier b.step after))
]

one_failed : (d e : Fault) (f : SourceDef) (steps : List StepDef) → Failed d f steps → Failed e f steps → d ≡ e
one_failed d e f steps a b =
    let step : a.step ≡ b.step = one_step d e f steps a b in
    let test : a.test ≡ b.test =
    one_test a.test b.test f steps a.step a.fails (subst (λ (k : ℕ). FailsPart b.test f steps k) (sym step) b.fails) in
    a.is ∙ ap (λ (p : Part). fault_of p (a.step + 1)) test ∙ ap (λ (k : ℕ). fault_of b.test (k + 1)) step ∙ sym b.is

not_both : (d e : Fault) (f : SourceDef) (steps : List StepDef) → Failed d f steps → IsOpen e f steps → ⊥
not_both d e f steps a b = not_passing a.test f steps a.step a.fails (b.all a.step a.within)

-- And none has two.
pub one_fault : (d e : Fault) (f : SourceDef) (steps : List StepDef) → IsFault d f steps → IsFault e f steps → d ≡ e
one_fault d e f steps a b = elim (kinds d f steps a) [
  | inl here ↦ elim (kinds e f steps b) [
    | inl there ↦ one_failed d e f steps here there
    | inr none ↦ absurd (not_both d e f steps here none)
  ]
  | inr none ↦ elim (kinds e f steps b) [
    | inl there ↦ absurd (not_both e d f steps there none)
    | inr other ↦ none.is ∙ sym other.is
  ]
]

-- So only want of memory keeps a refusal that holds from being Ok, and one with a fault from having just that named.
pub accepted : (r : Result (Unit {0}) Fault) (f : SourceDef) (steps : List StepDef) → Confirms r f steps → Holds f steps
    → IfErr r (λ e. e ≡ fault.Memory)
accepted (Ok done) f steps is holds = tt
accepted (Err fault.Memory) f steps is holds = refl
accepted (Err (fault.After n)) f steps is holds = absurd (no_fault (fault.After n) f steps is holds)
accepted (Err (fault.Task n)) f steps is holds = absurd (no_fault (fault.Task n) f steps is holds)
accepted (Err (fault.Rising n)) f steps is holds = absurd (no_fault (fault.Rising n) f steps is holds)
accepted (Err (fault.Size n)) f steps is holds = absurd (no_fault (fault.Size n) f steps is holds)
accepted (Err (fault.Row n row)) f steps is holds = absurd (no_fault (fault.Row n row) f steps is holds)
accepted (Err (fault.Low n)) f steps is holds = absurd (no_fault (fault.Low n) f steps is holds)
accepted (Err fault.Open) f steps is holds = absurd (no_fault fault.Open f steps is holds)

pub names : (r : Result (Unit {0}) Fault) (e : Fault) (f : SourceDef) (steps : List StepDef) → Confirms r f steps → IsFault e f steps
    → Names r e
names (Ok done) e f steps is other = no_fault e f steps other is
names (Err fault.Memory) e f steps is other = tt
names (Err (fault.After n)) e f steps is other = one_fault (fault.After n) e f steps is other
names (Err (fault.Task n)) e f steps is other = one_fault (fault.Task n) e f steps is other
names (Err (fault.Rising n)) e f steps is other = one_fault (fault.Rising n) e f steps is other
names (Err (fault.Size n)) e f steps is other = one_fault (fault.Size n) e f steps is other
names (Err (fault.Row n row)) e f steps is other = one_fault (fault.Row n row) e f steps is other
names (Err (fault.Low n)) e f steps is other = one_fault (fault.Low n) e f steps is other
names (Err fault.Open) e f steps is other = one_fault fault.Open e f steps is other

-- And nothing fits where it is Ok.
pub none_fits : (r : Result (Unit {0}) Fault) (f : SourceDef) (steps : List StepDef) → Confirms r f steps
    → ((s : List ℕ) → Holds f steps → AreFitting f s → ⊥) → IfOk r (λ done. (s : List ℕ) → AreFitting f s → ⊥)
none_fits (Ok done) f steps is right = λ s fits. right s is fits
none_fits (Err e) f steps is right = tt
