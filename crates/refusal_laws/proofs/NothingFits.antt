-- Why nothing fits where a refusal holds: every fitting vector is at least each vector that its steps come to.
use Rattle.std.proofs.Common.{◌≡◌, ℕ, zero, suc, ◌+◌, ◌-◌, ◌<◌, ◌≤◌, List, length, refl, sym, subst, arith, inl, inr, add-one}
use Rattle.std.proofs.Math.Nat.{le-div_iff_mul-le}
use Rattle.std.proofs.lemmas.Bool.{cases_eq}
use Rattle.std.specs.Prelude.{slice_index}
use Rattle.program_form.specs.Certificate.{DualDef}
use Rattle.program_form.specs.Program.{ProgramDef}
use Rattle.program_form.specs.Points.{IsScaledPoint, Reaches, worth}
use Rattle.sporadic_model.specs.SetDef.{task_at, latest_bound}
use Rattle.sporadic_model.specs.Bounds.{AtMost}
use Rattle.program_sources.specs.Recurrence.{SourceDef, ComesUp, response_with}
use Rattle.program_sources.specs.Fitting.{AreFitting, ComesUpAbove, tasks_of}
use Rattle.program_sources.proofs.RecurrenceLaws.{cost_below_fitting}
use Rattle.refusal_laws.specs.Steps.{StepDef, Holds, IsStep, IsStepAt, step_at, place_of, with_step, vector_before, whole_worth}
use Rattle.refusal_laws.proofs.StepLaws.{vector_next, before_length, cost_at, own_place, other_place}

-- A scaled point reaches its worth in whole ticks.
pub point_reaches : (p : ProgramDef) (point : DualDef) → IsScaledPoint p point.den (slice_index point.num) → Reaches p (whole_worth p point)
point_reaches p point is = record {
  scale = point.den;
  point = slice_index point.num;
  is_point = is;
  reached = (le-div_iff_mul-le {k = point.den} {x = whole_worth p point} {y = worth p (slice_index point.num)} is.positive).0 (omega arith);
}

-- What comes up at some bounds is at most the task's place in every fitting vector that is at least these bounds.
pub comes_up_below : (f : SourceDef) (v s : List ℕ) (i x : ℕ) → i < tasks_of f → ComesUpAbove f → AreFitting f s
    → AtMost (tasks_of f) v s → ComesUp f v i x → x ≤ slice_index s i
comes_up_below f v s i x here above fits below comes =
    let up = above v s i x here below comes in
    let kept : up.0 ≤ slice_index s i = fits.kept i up.0 here up.1 in
    omega (arith, kept, up.2)

-- The value of a step is so too.
pub value_below : (f : SourceDef) (v s : List ℕ) (i value : ℕ) (point : DualDef) → ComesUpAbove f → AreFitting f s
    → AtMost (tasks_of f) v s → IsStepAt f v i value point → value ≤ slice_index s i
value_below f v s i value point above fits below step =
    let b : ℕ = whole_worth (f.program i v) point in
    let comes : ComesUp f v i (response_with f v i b) =
    record { blocking = b; reached = point_reaches (f.program i v) point step.rows; response = refl } in
    let least : response_with f v i b ≤ slice_index s i = comes_up_below f v s i (response_with f v i b) step.task above fits below comes in
    let low : value ≤ response_with f v i b = step.low in
    omega (arith, least, low)

-- So the bounds with its value stay at most such a vector.
pub step_below : (f : SourceDef) (v s : List ℕ) (step : StepDef) → length v ≡ tasks_of f → ComesUpAbove f → AreFitting f s
    → AtMost (tasks_of f) v s → IsStep f v step → AtMost (tasks_of f) (with_step v step) s
step_below f v s step long above fits below is = λ i here. elim (cases_eq i (place_of step)) [
  | inl same ↦
      let value : step.value ≤ slice_index s (place_of step) =
      value_below f v s (place_of step) step.value step.point above fits below is.at in
      let own : slice_index (with_step v step) (place_of step) ≡ step.value =
      own_place v step (subst (λ n. place_of step < n) (sym long) is.at.task) in
      subst (λ (j : ℕ). slice_index (with_step v step) j ≤ slice_index s j) (sym same) (omega (arith, value, own))
  | inr other ↦ omega (arith, other_place v step i other, below i here)
]

-- And so do all bounds before a step.
pub vectors_below : (f : SourceDef) (steps : List StepDef) (s : List ℕ) → ComesUpAbove f → AreFitting f s
    → ((k : ℕ) → k < length steps → IsStep f (vector_before f.set steps k) (step_at steps k))
    → (k : ℕ) → k ≤ length steps → AtMost (tasks_of f) (vector_before f.set steps k) s
vectors_below f steps s above fits each zero here = λ i within.
    let first : slice_index (vector_before f.set steps 0) i ≡ (task_at f.set i).cost = cost_at f.set i within in
    omega (arith, first, cost_below_fitting f s i fits within)
vectors_below f steps s above fits each (suc k) here =
    let before : AtMost (tasks_of f) (vector_before f.set steps k) s = vectors_below f steps s above fits each k (omega arith) in
    let next : AtMost (tasks_of f) (with_step (vector_before f.set steps k) (step_at steps k)) s =
    step_below f (vector_before f.set steps k) s (step_at steps k) (before_length f.set steps k) above fits before (each k (omega arith)) in
    subst (λ (m : ℕ). AtMost (tasks_of f) (vector_before f.set steps m) s) (add-one k)
    (subst (λ (v : List ℕ). AtMost (tasks_of f) v s) (sym (vector_next f.set steps k (omega arith))) next)

-- Where a refusal holds, nothing fits.
pub nothing_fits : (f : SourceDef) (steps : List StepDef) (s : List ℕ) → ComesUpAbove f → Holds f steps → AreFitting f s → ⊥
nothing_fits f steps s above holds fits =
    let k : ℕ = length steps - 1 in
    let last : k + 1 ≡ length steps = omega (arith, holds.some) in
    let here : k < length steps = omega (arith, last) in
    let is : IsStep f (vector_before f.set steps k) (step_at steps k) = holds.each k here in
    let below : AtMost (tasks_of f) (vector_before f.set steps k) s =
    vectors_below f steps s above fits holds.each k (omega (arith, here)) in
    let step : StepDef = step_at steps k in
    let value : step.value ≤ slice_index s (place_of step) =
    value_below f (vector_before f.set steps k) s (place_of step) step.value step.point above fits below is.at in
    let passes : latest_bound (task_at f.set (place_of step)) < step.value = holds.passes k last in
    let within : slice_index s (place_of step) ≤ latest_bound (task_at f.set (place_of step)) = fits.within (place_of step) is.at.task in
    absurd (omega (arith, value, passes, within))
