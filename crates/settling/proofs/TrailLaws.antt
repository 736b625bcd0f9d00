-- How the steps of a walk lead on, and make a refusal.
use Rattle.std.proofs.Common.{◌≡◌, ◌∙◌, inl, inr, ℕ, suc, ◌+◌, ◌<◌, ◌≤◌, List, [], ◌∷◌, ◌++◌, length, refl, sym, ap, subst, arith}
use Rattle.std.proofs.Common.{length-append, IsTrue, true, false}
use Rattle.std.specs.Prelude.{slice_index, max, Some, None, IfSome}
use Rattle.std.specs.declared.option.Option.{Option}
use Rattle.std.proofs.lemmas.Bool.{cases_lt}
use Rattle.std.proofs.lemmas.Grind.{same_number_lists}
use Rattle.std.proofs.lemmas.List.{get_or_append_left, get_or_push}
use Rattle.program_form.specs.Certificate.{DualDef, dual_seen}
use Rattle.program_form.specs.declared.certificate.Dual.{Dual}
use Rattle.program_sources.specs.Recurrence.{SourceDef, response_with}
use Rattle.program_sources.specs.Fitting.{tasks_of, latest_of}
use Rattle.program_sources.proofs.RecurrenceLaws.{LimitsRise}
use Rattle.refusal_laws.specs.Steps.{StepDef, no_step, step_at, costs_of, IsStep}
use Rattle.response_fixpoint.specs.Answers.{IsSmallDual}
use Rattle.response_fixpoint.specs.Rounds.{Found, with_task}
use Rattle.refusal_cert.specs.Leading.{after_all}
use Rattle.refusal_cert.specs.Steps.{step_of}
use Rattle.refusal_cert.proofs.Led.{after_all_length, own, step_of_point, led_step, led_same, last_holds}
use Rattle.settling.specs.Rising.{IsPointFor, seen_point}
use Rattle.settling.specs.Trails.{HasSmallPoints, IsEmpty, AddsStep, AddsRise, LeadsTo, LeadsWithin, IsRefusal, IsTrail, IsTrailWithin, EndsTrail, seen}
use Rattle.settling.specs.WalkRounds.{AreWrittenIfRounded}
use Rattle.settling.specs.declared.finding.Points.{Points}
use Rattle.settling.specs.declared.finding.Points.TheVariants.{Rounded}
use Rattle.settling.specs.declared.steps.Steps.{Steps}

-- One more small point.
small_more : (steps : List StepDef) (i value : ℕ) (point : DualDef) → HasSmallPoints steps → IsSmallDual point
    → HasSmallPoints (steps ++ step_of i value point ∷ [])
small_more steps i value point small own k here = elim (cases_lt k (length steps)) [
  | inl old ↦
      let at : step_at (steps ++ step_of i value point ∷ []) k ≡ step_at steps k =
      get_or_append_left steps (step_of i value point ∷ []) no_step k old in
      subst (λ (s : StepDef). IsSmallDual s.point) (sym at) (small k old)
  | inr new ↦
      let last : length steps ≡ k = omega (arith, new, here, length-append steps (step_of i value point ∷ [])) in
      let at : step_at (steps ++ step_of i value point ∷ []) k ≡ step_of i value point =
      get_or_push steps (step_of i value point) no_step k last in
      subst (λ (s : StepDef). IsSmallDual s.point) (sym at) own
]

-- The step of a task in a round at r, behind the steps up to it.
step_within : (f : SourceDef) → LimitsRise f → (r : List ℕ) (i value ticks : ℕ) (found : Found) (point : DualDef) (steps : List StepDef)
    → i < tasks_of f → value ≡ max (response_with f r i ticks) (slice_index r i) → slice_index r i < value
    → IsPointFor (f.program i r) ticks point → LeadsWithin f r found i steps → IsStep f (after_all f steps) (step_of i value point)
step_within f rise r i value ticks found point steps here is past shows lead =
    let rising : slice_index (after_all f steps) i < value = omega (arith, lead.led.rest i (omega arith), past) in
    let most : value ≤ response_with f r i ticks = omega (arith, is, past) in
    step_of_point f rise r (after_all f steps) i ticks value point lead.led.above here rising shows.size shows.rows shows.worth most

-- A task whose bound rises.
trail_adds : (f : SourceDef) → LimitsRise f → (r : List ℕ) (i used value ticks : ℕ) (dual : DualDef) (found : Found)
    (point : Option Dual) (before now : Steps) → i < tasks_of f → length found.values ≡ i
    → value ≡ max (response_with f r i ticks) (slice_index r i) → value ≤ latest_of f i
    → IfSome (seen_point point) (IsPointFor (f.program i r) ticks) → AddsStep before now i value point → slice_index r i < value
    → IsTrailWithin f r found i before → IsTrailWithin f r (with_task found used value dual) (suc i) now
trail_adds f rise r i used value ticks dual found (Some point) before now here count is low shows (list, flag) past trail written =
    let lead : LeadsWithin f r found i (seen before) = trail (rw (← flag) written) in
    let step = step_within f rise r i value ticks found (dual_seen point) (seen before) here is past shows lead in
    let led = led_step f r i found used value dual (dual_seen point) (seen before) here count step low lead.led past in
    subst (λ (s : List StepDef). LeadsWithin f r (with_task found used value dual) (suc i) s) (sym (list (rw (← flag) written)))
    (record { led = led; small = small_more (seen before) i value (dual_seen point) lead.small shows.small })
trail_adds f rise r i used value ticks dual found None before now here count is low shows flag past trail written =
    absurd (let no : false ≡ true = rw flag at written in cc)

pub trail_goes_on : (f : SourceDef) → LimitsRise f → (r : List ℕ) (i used value ticks : ℕ) (dual : DualDef) (found : Found)
    (point : Option Dual) (before now : Steps) → i < tasks_of f → length found.values ≡ i
    → value ≡ max (response_with f r i ticks) (slice_index r i) → value ≤ latest_of f i
    → IfSome (seen_point point) (IsPointFor (f.program i r) ticks) → AddsRise before now i (slice_index r i) value point
    → IsTrailWithin f r found i before → IsTrailWithin f r (with_task found used value dual) (i + 1) now
trail_goes_on f rise r i used value ticks dual found point before now here count is low shows adds trail =
    let next : suc i ≡ i + 1 = omega arith in
    subst (λ (k : ℕ). IsTrailWithin f r (with_task found used value dual) k now) next (elim (cases_lt (slice_index r i) value) [
      | inl past ↦
          trail_adds f rise r i used value ticks dual found point before now here count is low shows (adds.rises past) past trail
      | inr most ↦ λ written. (
          let same : now ≡ before = adds.stays most in
          let lead : LeadsWithin f r found i (seen before) = trail (subst (λ (s : Steps). IsTrue s.are_written) same written) in
          let equal : slice_index r i ≡ value = omega (arith, is, most) in
          let more : LeadsWithin f r (with_task found used value dual) (suc i) (seen before) =
          record { led = led_same f r i found used value dual (seen before) count equal lead.led; small = lead.small } in
          subst (λ (s : Steps). LeadsWithin f r (with_task found used value dual) (suc i) (seen s)) (sym same) more)
    ])

-- A task whose value passes its latest bound: the steps are a refusal.
late_adds : (f : SourceDef) → LimitsRise f → (r : List ℕ) (i value ticks : ℕ) (found : Found) (point : Option Dual) (before now : Steps)
    → i < tasks_of f → value ≡ max (response_with f r i ticks) (slice_index r i) → latest_of f i < value
    → IfSome (seen_point point) (IsPointFor (f.program i r) ticks) → AddsStep before now i value point → slice_index r i < value
    → IsTrailWithin f r found i before → EndsTrail f now
late_adds f rise r i value ticks found (Some point) before now here is late shows (list, flag) past trail written =
    let lead : LeadsWithin f r found i (seen before) = trail (rw (← flag) written) in
    let step = step_within f rise r i value ticks found (dual_seen point) (seen before) here is past shows lead in
    subst (λ (s : List StepDef). IsRefusal f s) (sym (list (rw (← flag) written))) (record {
      holds = last_holds f (seen before) (step_of i value (dual_seen point)) lead.led.leads step
          (subst (λ (j : ℕ). latest_of f j < value) (sym (own i value (dual_seen point))) late);
      small = small_more (seen before) i value (dual_seen point) lead.small shows.small;
    })
late_adds f rise r i value ticks found None before now here is late shows flag past trail written =
    absurd (let no : false ≡ true = rw flag at written in cc)

pub trail_ends : (f : SourceDef) → LimitsRise f → (r : List ℕ) (i value ticks : ℕ) (found : Found) (point : Option Dual)
    (before now : Steps) → i < tasks_of f → value ≡ max (response_with f r i ticks) (slice_index r i)
    → slice_index r i ≤ latest_of f i → latest_of f i < value → IfSome (seen_point point) (IsPointFor (f.program i r) ticks)
    → AddsRise before now i (slice_index r i) value point → IsTrailWithin f r found i before → EndsTrail f now
trail_ends f rise r i value ticks found point before now here is within late shows adds trail =
    let past : slice_index r i < value = omega (arith, within, late) in
    late_adds f rise r i value ticks found point before now here is late shows (adds.rises past) past trail

-- A walk begins with no step, at the costs.
pub trail_starts : (f : SourceDef) (v : List ℕ) (steps : Steps) → v ≡ costs_of f.set → IsEmpty steps → IsTrail f v steps
trail_starts f v steps first empty written =
    subst (λ (s : List StepDef). LeadsTo f v s) (sym empty.none) (record {
      leads = record { each = λ k l. absurd (omega (arith, l)); calm = λ k l. absurd (omega (arith, l)) };
      vector = sym first;
      small = λ k l. absurd (omega (arith, l));
    })

-- A round begins at r, and ends at what it has found.
pub trail_begins : (f : SourceDef) (r : List ℕ) (found : Found) (steps : Steps) → IsTrail f r steps → IsTrailWithin f r found 0 steps
trail_begins f r found steps trail written =
    let to : LeadsTo f r (seen steps) = trail written in
    let same : (j : ℕ) → slice_index (after_all f (seen steps)) j ≡ slice_index r j = λ j. ap (λ (x : List ℕ). slice_index x j) to.vector in
    record {
      led = record {
        leads = to.leads;
        above = λ j l. omega (arith, same j);
        done = λ j l. absurd (omega (arith, l));
        rest = λ j l. same j;
      };
      small = to.small;
    }

pub trail_whole : (f : SourceDef) (r : List ℕ) (found : Found) (steps : Steps) → length found.values ≡ tasks_of f
    → IsTrailWithin f r found (tasks_of f) steps → IsTrail f found.values steps
trail_whole f r found steps count trail written =
    let lead : LeadsWithin f r found (tasks_of f) (seen steps) = trail written in
    record {
      leads = lead.led.leads;
      vector = same_number_lists (after_all f (seen steps)) found.values (after_all_length f (seen steps) ∙ sym count)
          (λ i l. lead.led.done i (omega (arith, l, after_all_length f (seen steps))));
      small = lead.small;
    }

-- With rounded points each step's point is written.
pub written_goes_on : (points : Points) (before now : Steps) (i bound value : ℕ) (point : Option Dual)
    → (points ≡ Rounded → seen_point point ≡ None → ⊥) → AddsRise before now i bound value point → AreWrittenIfRounded points before
    → AreWrittenIfRounded points now
written_goes_on points before now i bound value point written adds are rounded = elim (cases_lt bound value) [
  | inl past ↦ written_adds before now i value point (written rounded) (adds.rises past) (are rounded)
  | inr most ↦ subst (λ (s : Steps). IsTrue s.are_written) (sym (adds.stays most)) (are rounded)
]
  where
    written_adds : (before now : Steps) (i value : ℕ) (point : Option Dual) → (seen_point point ≡ None → ⊥)
        → AddsStep before now i value point → IsTrue before.are_written → IsTrue now.are_written
    written_adds before now i value (Some point) some (list, flag) was = rw flag was
    written_adds before now i value None some flag was = absurd (some refl)
