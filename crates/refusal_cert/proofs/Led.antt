-- The steps of rounds that end in NotShown are a refusal that holds.
use Rattle.std.proofs.Common.{◌≡◌, ℕ, zero, suc, ◌-◌, ◌*◌, ◌/◌, ◌<◌, ◌≤◌, List, [], ◌∷◌, ◌++◌, length, refl, sym, ◌∙◌, ap, subst}
use Rattle.std.proofs.Common.{arith, inl, inr, append_assoc, take_all}
use Rattle.std.specs.Prelude.{slice_index}
use Rattle.std.proofs.lemmas.Bool.{cases_lt, cases_eq}
use Rattle.std.proofs.lemmas.Grind.{same_number_lists}
use Rattle.std.proofs.lemmas.List.{append-nil, get_or_push, get_or_append_left, length-append}
use Rattle.number_laws.specs.Sums.{sum_below}
use Rattle.program_form.specs.Certificate.{DualDef}
use Rattle.program_form.specs.Limits.{HasLimitsAtMost}
use Rattle.program_form.specs.Points.{IsScaledPoint}
use Rattle.program_form.specs.Program.{ProgramDef, columns}
use Rattle.program_form.proofs.Points.{kept_by_greater}
use Rattle.sporadic_model.specs.Bounds.{AtMost}
use Rattle.program_sources.specs.Recurrence.{SourceDef, IsResponse, response_with, interference_of}
use Rattle.program_sources.specs.Fitting.{AreFitting, NeverFalls, tasks_of, latest_of}
use Rattle.program_sources.proofs.RecurrenceLaws.{LimitsRise, never_falls, interference_rises, response_is_greatest}
use Rattle.refusal_laws.specs.Steps.{StepDef, no_step, step_at, place_of, with_step, after_steps, costs_of, vector_before, whole_worth}
use Rattle.refusal_laws.specs.Steps.{IsStepAt, IsStep, PassesLatest, Holds}
use Rattle.refusal_laws.proofs.StepLaws.{after_both, after_length, costs_length, cost_at, before_more, own_place, other_place}
use Rattle.response_fixpoint.specs.Rounds.{Valued, NotShown, Schedulable, Found, nothing_found, with_task, Passes, Reaches, EndsIn}
use Rattle.response_fixpoint.proofs.LeastExists.{cost_below}
use Rattle.response_fixpoint.proofs.RoundLaws.{passed_task, values_length}
use Rattle.response_fixpoint.proofs.RunLaws.{CostsFit}
use Rattle.refusal_cert.specs.Leading.{after_all, Leads, IsLed}
use Rattle.refusal_cert.specs.Refuting.{PointRuns, refuting}
use Rattle.refusal_cert.specs.Steps.{step_of, steps_over, round_steps, way_steps, refusal_of}
use Rattle.refusal_cert.proofs.PointLaws.{IsBestPoint, best_point}
use Rattle.refusal_cert.proofs.RoundSteps.{step_above, no_step_below, steps_more}

pub after_all_length : (f : SourceDef) (steps : List StepDef) → length (after_all f steps) ≡ tasks_of f
after_all_length f steps = after_length (costs_of f.set) steps ∙ costs_length f.set

each_more : (f : SourceDef) (steps : List StepDef) (s : StepDef) → Leads f steps → IsStep f (after_all f steps) s
    → (k : ℕ) → k < length (steps ++ s ∷ []) → IsStep f (vector_before f.set (steps ++ s ∷ []) k) (step_at (steps ++ s ∷ []) k)
each_more f steps s leads is k here =
    let grown = length-append steps (s ∷ []) in
    elim (cases_lt k (length steps)) [
      | inl old ↦
          let at : step_at (steps ++ s ∷ []) k ≡ step_at steps k = get_or_append_left steps (s ∷ []) no_step k old in
          let before : vector_before f.set (steps ++ s ∷ []) k ≡ vector_before f.set steps k =
          before_more f.set steps (s ∷ []) k (omega (arith, old)) in
          subst (λ (x : StepDef). IsStep f (vector_before f.set (steps ++ s ∷ []) k) x) (sym at)
          (subst (λ (v : List ℕ). IsStep f v (step_at steps k)) (sym before) (leads.each k old))
      | inr new ↦
          let last : length steps ≡ k = omega (arith, new, here, grown) in
          let at : step_at (steps ++ s ∷ []) k ≡ s = get_or_push steps s no_step k last in
          let before : vector_before f.set (steps ++ s ∷ []) k ≡ after_all f steps =
          before_more f.set steps (s ∷ []) k (omega (arith, last))
          ∙ ap (after_steps (costs_of f.set)) (take_all k steps (omega (arith, last))) in
          subst (λ (x : StepDef). IsStep f (vector_before f.set (steps ++ s ∷ []) k) x) (sym at)
          (subst (λ (v : List ℕ). IsStep f v s) (sym before) is)
    ]

calm_before : (f : SourceDef) (steps : List StepDef) (s : StepDef) → Leads f steps → (k : ℕ) → k < length steps
    → PassesLatest f.set (step_at (steps ++ s ∷ []) k) → ⊥
calm_before f steps s leads k old =
    let at : step_at (steps ++ s ∷ []) k ≡ step_at steps k = get_or_append_left steps (s ∷ []) no_step k old in
    subst (λ (x : StepDef). PassesLatest f.set x → ⊥) (sym at) (leads.calm k old)

leads_more : (f : SourceDef) (steps : List StepDef) (s : StepDef) → Leads f steps → IsStep f (after_all f steps) s
    → (PassesLatest f.set s → ⊥) → Leads f (steps ++ s ∷ [])
leads_more f steps s leads is low = record {
  each = each_more f steps s leads is;
  calm = λ k here. elim (cases_lt k (length steps)) [
    | inl old ↦ calm_before f steps s leads k old
    | inr new ↦
        let last : length steps ≡ k = omega (arith, new, here, length-append steps (s ∷ [])) in
        let at : step_at (steps ++ s ∷ []) k ≡ s = get_or_push steps s no_step k last in
        subst (λ (x : StepDef). PassesLatest f.set x → ⊥) (sym at) low
  ];
}

pub last_holds : (f : SourceDef) (steps : List StepDef) (s : StepDef) → Leads f steps → IsStep f (after_all f steps) s
    → PassesLatest f.set s → Holds f (steps ++ s ∷ [])
last_holds f steps s leads is late = record {
  some = omega (arith, length-append steps (s ∷ []));
  each = each_more f steps s leads is;
  within = λ k here. calm_before f steps s leads k (omega (arith, here, length-append steps (s ∷ [])));
  passes = λ k here.
      let last : length steps ≡ k = omega (arith, here, length-append steps (s ∷ [])) in
      let at : step_at (steps ++ s ∷ []) k ≡ s = get_or_push steps s no_step k last in
      subst (λ (x : StepDef). PassesLatest f.set x) (sym at) late;
}

-- A step's task, counted from 0.
pub own : (i value : ℕ) (point : DualDef) → place_of (step_of i value point) ≡ i
own i value point = omega arith

-- A point of task i's program at the bounds r, and the response time with the ticks that it is worth there. They make a step at any bounds
-- that are at least r, if these lie below the value at the task's place.
pub step_of_point : (f : SourceDef) → LimitsRise f → (r v : List ℕ) (i ticks value : ℕ) (point : DualDef) → AtMost (tasks_of f) r v
    → i < tasks_of f → slice_index v i < value → length point.num ≡ columns (f.program i r)
    → IsScaledPoint (f.program i r) point.den (slice_index point.num) → ticks ≤ whole_worth (f.program i r) point
    → value ≤ response_with f r i ticks → IsStep f v (step_of i value point)
step_of_point f rise r v i ticks value point above here rising size rows whole most =
    let p : ProgramDef = f.program i r in
    let q : ProgramDef = f.program i v in
    let less : HasLimitsAtMost p q = rise i r v here above in
    let worths : whole_worth p point ≡ whole_worth q point =
    ap (λ (costs : List ℕ). sum_below (length costs) (λ c. slice_index costs c * slice_index point.num c) / point.den) less.same_costs in
    let more : interference_of f.interfering f.set r i ≤ interference_of f.interfering f.set v i =
    interference_rises f.interfering f.set r v i here above in
    let low : value ≤ response_with f v i (whole_worth q point) = omega (arith, most, whole, worths, more) in
    let at : IsStepAt f v i value point = record {
      task = here;
      rising = rising;
      size = size ∙ ap length less.same_costs;
      rows = kept_by_greater p q point.den (slice_index point.num) less rows;
      low = low;
    } in
    record { from_one = omega arith; at = subst (λ (j : ℕ). IsStepAt f v j value point) (sym (own i value point)) at }

-- The step of a run at the bounds r.
step_is : (f : SourceDef) → LimitsRise f → (r v : List ℕ) (i left used value : ℕ) (point : DualDef) → AtMost (tasks_of f) r v
    → i < tasks_of f → slice_index v i < value → slice_index r i < value → PointRuns f r i left (Valued used value point)
    → IsStep f v (step_of i value point)
step_is f rise r v i left used value point above here rising past (dual, run, gives) =
    let p : ProgramDef = f.program i r in
    let solved = run.ends in
    let b : ℕ = solved.response.blocking in
    let best : IsBestPoint p point b = best_point p left solved.exchanges solved.optimum solved.best dual point b run.is_program solved.ends
    (gives.above past) solved.response.greatest in
    let whole : b ≤ whole_worth p point = omega (arith, best.whole) in
    let most : value ≤ response_with f r i b = omega (arith, solved.response.response) in
    step_of_point f rise r v i b value point above here rising best.size best.rows whole most

-- Is the recurrence at these bounds at least r?
abbrev Rises : SourceDef → List ℕ → Type 0
Rises f r = (i v : ℕ) → i < tasks_of f → IsResponse f r i v → slice_index r i ≤ v

-- A task that gives a step.
pub led_step : (f : SourceDef) (r : List ℕ) (i : ℕ) (before : Found) (used value : ℕ) (dual point : DualDef) (steps : List StepDef)
    → i < tasks_of f → length before.values ≡ i → IsStep f (after_all f steps) (step_of i value point) → value ≤ latest_of f i
    → IsLed f r before i steps → slice_index r i < value
    → IsLed f r (with_task before used value dual) (suc i) (steps ++ step_of i value point ∷ [])
led_step f r i before used value dual point steps here count is within led past =
    let s : StepDef = step_of i value point in
    let v : List ℕ = after_all f steps in
    let next : after_all f (steps ++ s ∷ []) ≡ with_step v s = after_both (costs_of f.set) steps (s ∷ []) in
    let place : place_of s ≡ i = own i value point in
    let low : PassesLatest f.set s → ⊥ =
    subst (λ (j : ℕ). latest_of f j < value → ⊥) (sym place) (λ late. omega (arith, within, late)) in
    let long : length v ≡ tasks_of f = after_all_length f steps in
    let at_own : slice_index (after_all f (steps ++ s ∷ [])) i ≡ value =
    ap (λ (x : List ℕ). slice_index x i) next
    ∙ subst (λ (j : ℕ). slice_index (with_step v s) j ≡ value) place (own_place v s (omega (arith, place, long, here))) in
    let at_other : (j : ℕ) → (j ≡ i → ⊥) → slice_index (after_all f (steps ++ s ∷ [])) j ≡ slice_index v j = λ j other.
    ap (λ (x : List ℕ). slice_index x j) next ∙ other_place v s j (λ e. other (e ∙ place)) in
    record {
      leads = leads_more f steps s led.leads is low;
      above = λ j l. elim (cases_eq j i) [
        | inl same ↦ subst (λ (k : ℕ). slice_index r k ≤ slice_index (after_all f (steps ++ s ∷ [])) k) (sym same)
            (omega (arith, at_own, past))
        | inr other ↦ omega (arith, at_other j other, led.above j l)
      ];
      done = λ j l. elim (cases_lt j i) [
        | inl old ↦ at_other j (λ e. omega (arith, e, old)) ∙ led.done j old
            ∙ sym (get_or_append_left before.values (value ∷ []) 0 j (omega (arith, old, count)))
        | inr new ↦
            let last : i ≡ j = omega (arith, new, l) in
            subst (λ (k : ℕ). slice_index (after_all f (steps ++ s ∷ [])) k ≡ slice_index (before.values ++ value ∷ []) k) last
            (at_own ∙ sym (get_or_push before.values value 0 i count))
      ];
      rest = λ j l. at_other j (λ e. omega (arith, e, l)) ∙ led.rest j (omega (arith, l));
    }

-- A task that gives none: its value is its bound.
pub led_same : (f : SourceDef) (r : List ℕ) (i : ℕ) (before : Found) (used value : ℕ) (point : DualDef) (steps : List StepDef)
    → length before.values ≡ i → slice_index r i ≡ value → IsLed f r before i steps
    → IsLed f r (with_task before used value point) (suc i) steps
led_same f r i before used value point steps count same led = record {
  leads = led.leads;
  above = led.above;
  done = λ j l. elim (cases_lt j i) [
    | inl old ↦ led.done j old ∙ sym (get_or_append_left before.values (value ∷ []) 0 j (omega (arith, old, count)))
    | inr new ↦
        let last : i ≡ j = omega (arith, new, l) in
        subst (λ (k : ℕ). slice_index (after_all f steps) k ≡ slice_index (before.values ++ value ∷ []) k) last
        (led.rest i (omega arith) ∙ same ∙ sym (get_or_push before.values value 0 i count))
  ];
  rest = λ j l. led.rest j (omega (arith, l));
}

-- The step of a run, behind the steps up to it.
step_there : (f : SourceDef) → LimitsRise f → (r : List ℕ) (left i : ℕ) (before : Found) (used value : ℕ) (point : DualDef)
    (steps : List StepDef) → i < tasks_of f → PointRuns f r i left (Valued used value point) → IsLed f r before i steps
    → slice_index r i < value → IsStep f (after_all f steps) (step_of i value point)
step_there f rise r left i before used value point steps here run led past =
    let rising : slice_index (after_all f steps) i < value = omega (arith, led.rest i (omega arith), past) in
    step_is f rise r (after_all f steps) i left used value point led.above here rising past run

led_task : (f : SourceDef) → LimitsRise f → (r : List ℕ) (left i : ℕ) (before : Found) (used value : ℕ) (point : DualDef)
    (steps : List StepDef) → Rises f r → i < tasks_of f → length before.values ≡ i
    → PointRuns f r i left (Valued used value point) → value ≤ latest_of f i → IsLed f r before i steps
    → IsLed f r (with_task before used value point) (suc i) (steps ++ steps_over (slice_index r i) i value point)
led_task f rise r left i before used value point steps rises here count run within led =
    elim (cases_lt (slice_index r i) value) [
      | inl past ↦
          subst (λ (xs : List StepDef). IsLed f r (with_task before used value point) (suc i) (steps ++ xs))
          (sym (step_above (slice_index r i) i value point past))
          (led_step f r i before used value point point steps here count
          (step_there f rise r left i before used value point steps here run led past) within led past)
      | inr most ↦
          let least : slice_index r i ≤ value = rises i value here run.1.ends.response in
          let same : slice_index r i ≡ value = omega (arith, least, most) in
          let none : steps ++ steps_over (slice_index r i) i value point ≡ steps =
          ap (λ (xs : List StepDef). steps ++ xs) (no_step_below (slice_index r i) i value point most) ∙ append-nil steps in
          subst (λ (xs : List StepDef). IsLed f r (with_task before used value point) (suc i) xs) (sym none)
          (led_same f r i before used value point steps count same led)
    ]

led_round : (f : SourceDef) → LimitsRise f → (r : List ℕ) (left : ℕ) (earlier : List StepDef) → Rises f r → (i : ℕ) (found : Found)
    → i ≤ tasks_of f → Passes (refuting f) r left i found → IsLed f r nothing_found 0 earlier
    → IsLed f r found i (earlier ++ round_steps r found i)
led_round f rise r left earlier rises zero found most passed first =
    subst (λ (x : Found). IsLed f r x 0 (earlier ++ [])) (sym passed)
    (subst (λ (xs : List StepDef). IsLed f r nothing_found 0 xs) (sym (append-nil earlier)) first)
led_round f rise r left earlier rises (suc i) found most (before, used, value, point, passed, run, within, is) first =
    let old = led_round f rise r left earlier rises i before (omega (arith, most)) passed first in
    let count : length before.values ≡ i = values_length (refuting f) r left i before passed in
    let new =
    led_task f rise r (left - before.used) i before used value point (earlier ++ round_steps r before i) rises (omega (arith, most))
    count run within old in
    let joined : earlier ++ round_steps r before i ++ steps_over (slice_index r i) i value point
    ≡ earlier ++ round_steps r (with_task before used value point) (suc i) =
    append_assoc earlier (round_steps r before i) (steps_over (slice_index r i) i value point)
    ∙ ap (λ (xs : List StepDef). earlier ++ xs) (sym (steps_more (refuting f) r left i before used value point passed)) in
    subst (λ (x : Found). IsLed f r x (suc i) (earlier ++ round_steps r x (suc i))) (sym is)
    (subst (λ (xs : List StepDef). IsLed f r (with_task before used value point) (suc i) xs) joined new)

-- What a whole round has found is the recurrence, within the latest bounds.
pub point_value : (f : SourceDef) (r : List ℕ) (left : ℕ) (found : Found) → Passes (refuting f) r left (tasks_of f) found
    → (i : ℕ) → i < tasks_of f → IsResponse f r i (slice_index found.values i) × (slice_index found.values i ≤ latest_of f i)
point_value f r left found passed i here =
    let t = passed_task (refuting f) r left (tasks_of f) found passed i here in
    let most : t.value ≤ latest_of f i = t.within in
    (subst (λ (v : ℕ). IsResponse f r i v) (sym t.here) t.run.1.ends.response, rw t.here most)

-- When the rounds come to r, the steps of the rounds that went by lead to it.
record LeadsTo (f : SourceDef) (r : List ℕ) (steps : List StepDef) : Type 0 where
  leads : Leads f steps
  vector : after_all f steps ≡ r
  rises : Rises f r
  within : (i : ℕ) → i < tasks_of f → slice_index r i ≤ latest_of f i

led_start : (f : SourceDef) (r : List ℕ) (steps : List StepDef) → LeadsTo f r steps → IsLed f r nothing_found 0 steps
led_start f r steps to = record {
  leads = to.leads;
  above = λ j l. (let same : slice_index (after_all f steps) j ≡ slice_index r j = ap (λ (x : List ℕ). slice_index x j) to.vector in
      omega (arith, same));
  done = λ j l. absurd (omega (arith, l));
  rest = λ j l. ap (λ (x : List ℕ). slice_index x j) to.vector;
}

led_costs : (f : SourceDef) → CostsFit f → LeadsTo f (costs_of f.set) []
led_costs f fit = record {
  leads = record { each = λ k l. absurd (omega (arith, l)); calm = λ k l. absurd (omega (arith, l)) };
  vector = refl;
  rises = λ i v here h. omega (arith, cost_at f.set i here, cost_below f (costs_of f.set) i v h);
  within = λ i here. omega (arith, cost_at f.set i here, fit i here);
}

led_next : (f : SourceDef) → LimitsRise f → (q : List ℕ) (left : ℕ) (found : Found) (earlier : List StepDef)
    → Passes (refuting f) q left (tasks_of f) found → LeadsTo f q earlier
    → LeadsTo f found.values (earlier ++ round_steps q found (tasks_of f))
led_next f rise q left found earlier passed to =
    let n : ℕ = tasks_of f in
    let led = led_round f rise q left earlier to.rises n found (omega arith) passed (led_start f q earlier to) in
    let value = point_value f q left found passed in
    let up : AtMost n q found.values = λ i here. to.rises i (slice_index found.values i) here (value i here).0 in
    let monotone : NeverFalls f = never_falls f rise in
    let steps : List StepDef = earlier ++ round_steps q found n in
    let count : length found.values ≡ n = values_length (refuting f) q left n found passed in
    record {
      leads = led.leads;
      vector = same_number_lists (after_all f steps) found.values (after_all_length f steps ∙ sym count)
          (λ i l. led.done i (omega (arith, l, after_all_length f steps)));
      rises = λ i v here h. monotone q found.values i (slice_index found.values i) v here up (value i here).0 h;
      within = λ i here. (value i here).1;
    }

led_way : (f : SourceDef) → LimitsRise f → CostsFit f → (a k used : ℕ) (r : List ℕ) (way : Reaches (refuting f) a k used r)
    → LeadsTo f r (way_steps (refuting f) a k used r way)
led_way f rise fit a zero used r (nothing, first) = subst (λ (x : List ℕ). LeadsTo f x []) (sym first) (led_costs f fit)
led_way f rise fit a (suc k) used r (before, q, found, reached, passed, is, differs, sum) =
    let earlier : List StepDef = way_steps (refuting f) a k before q reached in
    subst (λ (x : List ℕ). LeadsTo f x (earlier ++ round_steps q found (tasks_of f))) (sym is)
    (led_next f rise q (a - before) found earlier passed (led_way f rise fit a k before q reached))

-- So their refusal holds.
pub refusal_holds : (f : SourceDef) → LimitsRise f → CostsFit f → (a i v : ℕ) (ends : EndsIn (refuting f) a (NotShown i v))
    → Holds f (refusal_of (refuting f) a (NotShown i v) ends)
refusal_holds f rise fit a i v (r, left, found, used, point, below, comes, run, late) =
    let earlier : List StepDef = way_steps (refuting f) a comes.rounds comes.spent r comes.reached in
    let to = led_way f rise fit a comes.rounds comes.spent r comes.reached in
    let led =
    led_round f rise r (a - comes.spent) earlier to.rises i found (omega (arith, below)) comes.passed (led_start f r earlier to) in
    let steps : List StepDef = earlier ++ round_steps r found i in
    let past : slice_index r i < v = omega (arith, to.within i below, late) in
    let is = step_there f rise r left i found used v point steps below run led past in
    last_holds f steps (step_of i v point) led.leads is (subst (λ (j : ℕ). latest_of f j < v) (sym (own i v point)) late)

-- And if rounds end in Schedulable, their bounds fit.
pub bounds_fit : (f : SourceDef) (a : ℕ) (bounds : List ℕ) (points : List DualDef) → EndsIn (refuting f) a (Schedulable bounds points)
    → AreFitting f bounds
bounds_fit f a bounds points (left, found, comes, same, rest) =
    let value = point_value f bounds (a - comes.spent) found comes.passed in
    let count : length found.values ≡ tasks_of f = values_length (refuting f) bounds (a - comes.spent) (tasks_of f) found comes.passed in
    record {
      one_each = subst (λ (x : List ℕ). length x ≡ tasks_of f) same count;
      kept = λ i v here up. response_is_greatest f bounds i (slice_index bounds i) v
          (subst (λ (x : List ℕ). IsResponse f bounds i (slice_index x i)) same (value i here).0) up;
      within = λ i here. subst (λ (x : List ℕ). slice_index x i ≤ latest_of f i) same (value i here).1;
    }
