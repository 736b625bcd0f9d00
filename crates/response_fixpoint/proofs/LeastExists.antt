-- The recurrence has a value at every vector. So if some bounds fit, there are least ones.
use Rattle.std.proofs.Common.{◌≡◌, ℕ, ◌<◌, ◌≤◌, ◌↔◌, List, length, map, ◌∙◌, refl, arith, inl, inr}
use Rattle.std.proofs.lemmas.Bool.{cases_lt}
use Rattle.std.proofs.lemmas.List.{get_or-map, length-map}
use Rattle.std.proofs.lemmas.List.FromFn.{get_or-map-range_with_len, length-range_with_len}
use Rattle.std.specs.List.{range_with_len}
use Rattle.std.specs.Prelude.{slice_index}
use Rattle.program_form.specs.Program.{IsCovered, columns}
use Rattle.program_form.proofs.Greatest.{greatest_exists}
use Rattle.sporadic_model.specs.SetDef.{TaskDef, no_task, task_at}
use Rattle.sporadic_model.specs.Bounds.{AtMost}
use Rattle.program_sources.specs.Recurrence.{SourceDef, IsResponse, response_with}
use Rattle.program_sources.specs.Fitting.{AreFitting, AreBelowAllFitting, AreLeastFitting, NeverFalls, ComesUpAbove, tasks_of, latest_of}
use Rattle.program_sources.proofs.RecurrenceLaws.{cost_below_fitting, response_comes_up, response_is_greatest}
use Rattle.response_fixpoint.proofs.VectorLaws.{total}
use Rattle.response_fixpoint.proofs.LeastFixpoint.{GivesNext, least_from}

-- The costs, from which the rounds begin.
abbrev pub costs_of : SourceDef → List ℕ
costs_of f = map (λ t. t.cost) f.set.tasks

pub cost_at : (f : SourceDef) (i : ℕ) → i < tasks_of f → slice_index (costs_of f) i ≡ (task_at f.set i).cost
cost_at f i here = get_or-map (λ t. t.cost) f.set.tasks i no_task 0 here

pub costs_below : (f : SourceDef) → AreBelowAllFitting f (costs_of f)
costs_below f = λ s fits i here. omega (arith, cost_at f i here, cost_below_fitting f s i fits here)

-- A value is at least the cost.
pub cost_below : (f : SourceDef) (r : List ℕ) (i v : ℕ) → IsResponse f r i v → (task_at f.set i).cost ≤ v
cost_below f r i v h = let is : v ≡ response_with f r i h.blocking = h.response in omega (arith, is)

-- Is each column of each program covered?
abbrev pub EachIsCovered : SourceDef → Type 0
EachIsCovered f = (i : ℕ) (r : List ℕ) (c : ℕ) → i < tasks_of f → c < columns (f.program i r) → IsCovered (f.program i r) c

value_there : (f : SourceDef) → EachIsCovered f → (r : List ℕ) (i : ℕ) → (v : ℕ) × (i < tasks_of f → IsResponse f r i v)
value_there f covered r i = elim (cases_lt i (tasks_of f)) [
  | inl here ↦
      let most = greatest_exists (f.program i r) (λ c within. covered i r c here within) in
      (response_with f r i most.0, λ _. record { blocking = most.0; greatest = most.1; response = refl })
  | inr past ↦ (0, λ here. absurd (omega (arith, here, past)))
]

next_of : (f : SourceDef) → EachIsCovered f → List ℕ → List ℕ
next_of f covered r = map (λ i. (value_there f covered r i).0) (range_with_len 0 (tasks_of f))

next_has : (f : SourceDef) (covered : EachIsCovered f) → GivesNext f (next_of f covered)
unfolding next_of
next_has f covered r = (
  length-map (range_with_len 0 (tasks_of f)) (λ i. (value_there f covered r i).0) ∙ length-range_with_len 0 (tasks_of f),
  λ i here.
      let at : slice_index (map (λ k. (value_there f covered r k).0) (range_with_len 0 (tasks_of f))) i ≡ (value_there f covered r i).0
      = get_or-map-range_with_len (λ k. (value_there f covered r k).0) 0 (tasks_of f) i i 0 here (omega arith) in
      rw at ((value_there f covered r i).1 here),
)

-- If some bounds fit, there are least ones that fit.
pub least_exists : (f : SourceDef) → EachIsCovered f → ComesUpAbove f → NeverFalls f → (s : List ℕ) → AreFitting f s
    → (b : List ℕ) × AreLeastFitting f b
least_exists f covered above monotone s fits =
    let n = tasks_of f in
    let first = next_has f covered (costs_of f) in
    let rises : AtMost n (costs_of f) (next_of f covered (costs_of f)) = λ i here.
    omega (arith, cost_at f i here, cost_below f (costs_of f) i (slice_index (next_of f covered (costs_of f)) i) (first.1 i here)) in
    least_from f (next_of f covered) above monotone (next_has f covered) s fits (total n s) (costs_of f)
    (length-map f.set.tasks (λ (t : TaskDef). t.cost)) (costs_below f) rises (omega arith)

-- Is the recurrence's value of each task at most its bound, and the bound at most the latest one?
abbrev pub KeepsValues : SourceDef → List ℕ → Type 0
KeepsValues f s = (length s ≡ tasks_of f) × ((i : ℕ) → i < tasks_of f → (v : ℕ) × (IsResponse f s i v) × (v ≤ slice_index s i)
    × (slice_index s i ≤ latest_of f i))

-- Bounds fit if and only if they keep these values: each response time that comes up is at most the value, and the value comes up
-- itself.
pub fits_by_values : (f : SourceDef) → EachIsCovered f → (s : List ℕ) → AreFitting f s ↔ KeepsValues f s
fits_by_values f covered s = (
  λ fits. (
    fits.one_each,
    λ i here.
        let there = value_there f covered s i in
        let is : IsResponse f s i there.0 = there.1 here in
        (there.0, is, fits.kept i there.0 here (response_comes_up f s i there.0 is), fits.within i here),
  ),
  λ keeps. record {
    one_each = keeps.0;
    kept = λ i v here comes.
        let value = keeps.1 i here in
        let most : v ≤ value.0 = response_is_greatest f s i value.0 v value.1 comes in
        omega (arith, most, value.2);
    within = λ i here. (keeps.1 i here).3;
  },
)
