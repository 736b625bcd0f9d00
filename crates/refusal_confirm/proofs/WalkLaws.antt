-- How a walk goes from step to step, and what it tells at its end.
use Rattle.std.proofs.Common.{◌≡◌, ℕ, ◌+◌, ◌<◌, ◌≤◌, List, length, sym, refl, subst, ◌∙◌, ap, arith, inl, inr, Bool, true, false}
use Rattle.std.proofs.lemmas.Bool.{cases_lt, cases_eq}
use Rattle.std.proofs.lemmas.List.{length-set, get_or-set_same, get_or-set_other}
use Rattle.std.specs.Prelude.{Ok, Err, slice_index, slice_set}
use Rattle.sporadic_model.specs.SetDef.{SetDef, task_at, latest_bound}
use Rattle.sporadic_model.specs.declared.ids.TaskId.{TaskId}
use Rattle.sporadic_model.specs.Bounds.{IsInRange}
use Rattle.program_sources.specs.Recurrence.{SourceDef}
use Rattle.refusal_laws.specs.Steps.{StepDef, Holds, HasDenominators, PassesLatest, step_at, place_of, with_step, costs_of, vector_before}
use Rattle.refusal_laws.proofs.StepLaws.{vector_next}
use Rattle.refusal_confirm.specs.Tests.{IsCalm, NamesTask, Rises, IsEntered, Passes, IsOver}
use Rattle.refusal_confirm.specs.Parts.{Enters, Takes, FailsPart}
use Rattle.refusal_confirm.specs.Walks.{StandsAt, HasComeTo}
use Rattle.refusal_confirm.specs.declared.fault.Part.{Part}
use Rattle.refusal_confirm.specs.declared.fault.Part.TheVariants as part

-- A walk begins at the costs.
pub begins : (set : SetDef) (steps : List StepDef) (v : List ℕ) (over : Bool) → v ≡ costs_of set → over ≡ false → IsInRange set v
    → HasComeTo set steps 0 v over
begins set steps v over first going range = record {
  entered = λ j below. absurd (omega (arith, below));
  range = range;
  stands = subst (λ (b : Bool). StandsAt b set steps 0 v) (sym going) ((λ j below. absurd (omega (arith, below))), first);
}

-- Where no step has passed its latest bound, none before is above it, and the bounds are those before the step.
pub stands_calm : (set : SetDef) (steps : List StepDef) (k : ℕ) (v : List ℕ) (over : Bool) → over ≡ false → StandsAt over set steps k v
    → IsCalm set steps k × (v ≡ vector_before set steps k)
stands_calm set steps k v over going stands = subst (λ (b : Bool). StandsAt b set steps k v) going stands

pub stands_over : (set : SetDef) (steps : List StepDef) (k : ℕ) (v : List ℕ) (over : Bool) → over ≡ true → StandsAt over set steps k v
    → (j : ℕ) × (k ≡ j + 1) × PassesLatest set (step_at steps j)
stands_over set steps k v over done stands = subst (λ (b : Bool). StandsAt b set steps k v) done stands

-- The tests that need no program tell which of them a step fails first.
pub enters_not : (p : Part) (f : SourceDef) (steps : List StepDef) (k : ℕ) (v : List ℕ) (over : Bool) (s : StepDef)
    → HasComeTo f.set steps k v over → s ≡ step_at steps k → Enters (Err p) f.set v over s → FailsPart p f steps k
enters_not part.After f steps k v over s come is entered =
    let past = stands_over f.set steps k v over entered come.stands in
    λ calm. calm past.0 (omega (arith, past.1)) past.2
enters_not part.Task f steps k v over s come is entered = (
  (stands_calm f.set steps k v over entered.0 come.stands).0,
  subst (λ (t : StepDef). NamesTask f.set t → ⊥) is entered.1,
)
enters_not part.Rising f steps k v over s come is entered =
    let stands = stands_calm f.set steps k v over entered.0 come.stands in (
      stands.0,
      subst (λ (t : StepDef). NamesTask f.set t) is entered.1,
      subst (λ (w : List ℕ). Rises w (step_at steps k) → ⊥) stands.1 (subst (λ (t : StepDef). Rises v t → ⊥) is entered.2),
    )
enters_not part.Size f steps k v over s come is entered = absurd entered
enters_not (part.Row r) f steps k v over s come is entered = absurd entered
enters_not part.Low f steps k v over s come is entered = absurd entered

-- Or that it passes them all.
pub enters : (i : TaskId) (set : SetDef) (steps : List StepDef) (k : ℕ) (v : List ℕ) (over : Bool) (s : StepDef)
    → HasComeTo set steps k v over → s ≡ step_at steps k → Enters (Ok i) set v over s → IsEntered set steps k
enters i set steps k v over s come is entered =
    let stands = stands_calm set steps k v over entered.0 come.stands in
    record {
      calm = stands.0;
      task = subst (λ (t : StepDef). NamesTask set t) is entered.1;
      rising = subst (λ (w : List ℕ). Rises w (step_at steps k)) stands.1 (subst (λ (t : StepDef). Rises v t) is entered.2);
    }

pub enters_at : (i : TaskId) (set : SetDef) (steps : List StepDef) (k : ℕ) (v : List ℕ) (over : Bool) (s : StepDef)
    → HasComeTo set steps k v over → Enters (Ok i) set v over s → v ≡ vector_before set steps k
enters_at i set steps k v over s come entered = (stands_calm set steps k v over entered.0 come.stands).1

-- A value between cost and latest bound may be put into bounds in their range.
put_in_range : (set : SetDef) (v : List ℕ) (i value : ℕ) → IsInRange set v → i < length set.tasks → slice_index v i < value
    → value ≤ latest_bound (task_at set i) → IsInRange set (slice_set v i value)
put_in_range set v i value range here above most = record {
  one_each = length-set v i value ∙ range.one_each;
  from_cost = λ k below. elim (cases_eq k i) [
    | inl same ↦ subst (λ (j : ℕ). (task_at set j).cost ≤ slice_index (slice_set v i value) j) (sym same)
        (omega (arith, own, range.from_cost i here, above))
    | inr other ↦ omega (arith, get_or-set_other v i k value 0 other, range.from_cost k below)
  ];
  to_latest = λ k below. elim (cases_eq k i) [
    | inl same ↦ subst (λ (j : ℕ). slice_index (slice_set v i value) j ≤ latest_bound (task_at set j)) (sym same)
        (omega (arith, own, most))
    | inr other ↦ omega (arith, get_or-set_other v i k value 0 other, range.to_latest k below)
  ];
} where
  own : slice_index (slice_set v i value) i ≡ value
  own = get_or-set_same v i value 0 (omega (arith, range.one_each, here))

-- What holds of all numbers below k and of k holds of all below k + 1.
pub one_more : (test : ℕ → Type 0) (k : ℕ) → ((j : ℕ) → j < k → test j) → test k → (j : ℕ) → j < k + 1 → test j
one_more test k before new j below = elim (cases_lt j k) [
  | inl earlier ↦ before j earlier
  | inr late ↦ let same : k ≡ j = omega arith in subst test same new
]

-- The walk goes on by a step.
pub goes_on : (over' : Bool) (i : TaskId) (set : SetDef) (steps : List StepDef) (k : ℕ) (v v' : List ℕ) (over : Bool) (s : StepDef)
    → k < length steps → HasComeTo set steps k v over → s ≡ step_at steps k → Enters (Ok i) set v over s
    → Takes over' v' set v i.0 s.value → HasComeTo set steps (k + 1) v' over'
goes_on true i set steps k v v' over s within come is entered taken = record {
  entered = one_more (IsEntered set steps) k come.entered (enters i set steps k v over s come is entered);
  range = subst (IsInRange set) (sym taken.1) come.range;
  stands = (
    k,
    refl,
    subst (λ (t : StepDef). PassesLatest set t) is
        (subst (λ (n : ℕ). latest_bound (task_at set n) < s.value) entered.3 taken.0),
  );
}
goes_on false i set steps k v v' over s within come is entered taken =
    let new = enters i set steps k v over s come is entered in
    let stands = stands_calm set steps k v over entered.0 come.stands in
    let low : s.value ≤ latest_bound (task_at set (place_of s)) =
    subst (λ (n : ℕ). s.value ≤ latest_bound (task_at set n)) entered.3 taken.0 in
    let put : v' ≡ with_step v s = taken.1 ∙ ap (λ (n : ℕ). slice_set v n s.value) entered.3 in
    let here : place_of s < length set.tasks = omega (arith, entered.1.0, entered.1.1) in
    record {
      entered = one_more (IsEntered set steps) k come.entered new;
      range = subst (IsInRange set) (sym put) (put_in_range set v (place_of s) s.value come.range here entered.2 low);
      stands = (
        one_more (λ (j : ℕ). PassesLatest set (step_at steps j) → ⊥) k stands.0
            (subst (λ (t : StepDef). PassesLatest set t → ⊥) is (λ late. absurd (omega (arith, late, low)))),
        put ∙ ap (λ (t : StepDef). with_step v t) is ∙ ap (λ (w : List ℕ). with_step w (step_at steps k)) stands.1
            ∙ sym (vector_next set steps k within),
      );
    }

-- Where all steps pass, and the last one passes its latest bound, the refusal holds.
pub over_holds : (f : SourceDef) (steps : List StepDef) → HasDenominators steps → ((k : ℕ) → k < length steps → Passes f steps k)
    → IsOver f.set steps → Holds f steps
over_holds f steps dens all over = record {
  some = omega (arith, over.is_last);
  each = λ k here.
      let passes = all k here in
      record {
        from_one = passes.entered.task.0;
        at = record {
          task = omega (arith, passes.entered.task.0, passes.entered.task.1);
          rising = passes.entered.rising;
          size = passes.shown.size;
          rows = record { positive = dens k here; kept = passes.shown.rows };
          low = passes.shown.reached;
        };
      };
  within = λ k here. (all (k + 1) here).entered.calm k (omega arith);
  passes = λ k last. let same : over.last ≡ k = omega (arith, last, over.is_last) in
      subst (λ (n : ℕ). PassesLatest f.set (step_at steps n)) same over.passes;
}

-- At the end of the walk its mark says whether there is such a last step.
pub ends_over : (set : SetDef) (steps : List StepDef) (v : List ℕ) (over : Bool) → over ≡ true → HasComeTo set steps (length steps) v over
    → IsOver set steps
ends_over set steps v over done come =
    let past = stands_over set steps (length steps) v over done come.stands in
    record { last = past.0; is_last = sym past.1; passes = past.2 }

pub ends_open : (set : SetDef) (steps : List StepDef) (v : List ℕ) (over : Bool) → over ≡ false → HasComeTo set steps (length steps) v over
    → IsOver set steps → ⊥
ends_open set steps v over going come is =
    (stands_calm set steps (length steps) v over going come.stands).0 is.last (omega (arith, is.is_last)) is.passes
