-- Batches of steps: their trials, and what their tests tell.
use Rattle.std.proofs.Common.{◌≡◌, ℕ, ◌+◌, ◌-◌, ◌<◌, ◌≤◌, List, [], ◌∷◌, ◌++◌, length, refl, sym, subst, ap, ◌∙◌, arith, inl, inr}
use Rattle.std.proofs.lemmas.Bool.{cases_lt}
use Rattle.std.proofs.lemmas.List.{get_or_push, get_or_append_left, length-append}
use Rattle.std.proofs.lemmas.Option.{slice_get_within, slice_get_read, get_or_from_slice_get}
use Rattle.std.specs.Prelude.{Option, Some, None, Result, Ok, Err, Bool, slice_get, slice_index_or}
use Rattle.std.specs.declared.alloc.AllocError.{AllocError}
use Rattle.sporadic_model.specs.SetDef.{SetDef}
use Rattle.sporadic_model.specs.declared.ids.TaskId.{TaskId}
use Rattle.sporadic_model.specs.Bounds.{IsInRange}
use Rattle.program_sources.specs.Recurrence.{SourceDef}
use Rattle.refusal_laws.specs.Steps.{StepDef, step_at, place_of}
use Rattle.refusal_confirm.specs.Tests.{Passes, IsEntered}
use Rattle.refusal_confirm.specs.Faults.{Confirms}
use Rattle.refusal_confirm.specs.Parts.{Enters, fault_of}
use Rattle.refusal_confirm.specs.Batches.{IsTrial, AreTrials, FindsAt, AreTested, IsFirstFault}
use Rattle.refusal_confirm.specs.declared.batches.Trial.{Trial}
use Rattle.refusal_confirm.specs.Walks.{HasComeTo}
use Rattle.refusal_confirm.specs.declared.fault.Fault.{Fault}
use Rattle.refusal_confirm.specs.declared.fault.Part.{Part}
use Rattle.refusal_confirm.proofs.WalkLaws.{enters, enters_at, enters_not}
use Rattle.refusal_confirm.proofs.PartLaws.{part_is_fault, found_fails, none_passes}

-- One trial more.
pub trials_more : (set : SetDef) (steps : List StepDef) (start : ℕ) (trials : List Trial) (t : Trial) → AreTrials set steps start trials
    → IsTrial set steps (start + length trials) t → AreTrials set steps start (trials ++ t ∷ [])
trials_more set steps start trials t old new = λ j x here.
    let most = slice_get_within (trials ++ t ∷ []) j x here in
    let grown = length-append trials (t ∷ []) in
    let at : slice_index_or (trials ++ t ∷ []) j x ≡ x = get_or_from_slice_get (trials ++ t ∷ []) j x x here in
    elim (cases_lt j (length trials)) [
      | inl before ↦
          let left_part : slice_index_or (trials ++ t ∷ []) j x ≡ slice_index_or trials j x =
          get_or_append_left trials (t ∷ []) x j before in
          old j x (slice_get_read trials (length trials) j x refl before (sym at ∙ left_part))
      | inr behind ↦
          let last : length trials ≡ j = omega (arith, behind, most, grown) in
          let seat : slice_index_or (trials ++ t ∷ []) j x ≡ t = get_or_push trials t x j last in
          subst (λ (y : Trial). IsTrial set steps (start + j) y) (sym seat ∙ at)
          (subst (λ (n : ℕ). IsTrial set steps (start + n) t) last new)
    ]

-- A step whose point's tests say that it fails one, behind steps that pass all, is a fault.
pub found_is_fault : (f : SourceDef) (steps : List StepDef) (k : ℕ) (p : Part) → k < length steps → IsEntered f.set steps k
    → ((j : ℕ) → j < k → Passes f steps j) → FindsAt (Some p) f steps k → Confirms (Err (fault_of p (k + 1))) f steps
found_is_fault f steps k p within entered earlier found =
    part_is_fault p f steps k within earlier (found_fails p f steps k _ (step_at steps k) entered refl refl found)

pub none_found_passes : (f : SourceDef) (steps : List StepDef) (k : ℕ) → IsEntered f.set steps k → FindsAt None f steps k → Passes f steps k
none_found_passes f steps k entered found = none_passes f steps k _ (step_at steps k) entered refl refl found

-- The steps of a batch of which those before place n have failed no test pass, as do those before the batch.
pub batch_passes : (f : SourceDef) (steps : List StepDef) (start n : ℕ) (tested : List (Result (Option Part) AllocError))
    → ((j : ℕ) → j < start → Passes f steps j) → ((j : ℕ) → j < start + n → IsEntered f.set steps j)
    → AreTested f steps start tested → ((j : ℕ) → j < n → slice_get tested j ≡ Some (Ok None))
    → (j : ℕ) → j < start + n → Passes f steps j
batch_passes f steps start n tested before entered says none j below = elim (cases_lt j start) [
  | inl earlier ↦ before j earlier
  | inr late ↦
      let place : start + (j - start) ≡ j = omega (arith, late) in
      let found : FindsAt None f steps (start + (j - start)) = says (j - start) (Ok None) (none (j - start) (omega (arith, late, below))) in
      none_found_passes f steps j (entered j below) (subst (FindsAt None f steps) place found)
]

-- The trial of a step that passed the tests that need no program.
pub trial_is : (i : TaskId) (set : SetDef) (steps : List StepDef) (k : ℕ) (v : List ℕ) (over : Bool) (s : StepDef) (t : Trial)
    → k < length steps → HasComeTo set steps k v over → s ≡ step_at steps k → Enters (Ok i) set v over s → t.task ≡ i
    → t.bounds.items ≡ v → IsTrial set steps k t
trial_is i set steps k v over s t within come is entered task bounds = record {
  within = within;
  entered = enters i set steps k v over s come is entered;
  place = ap (λ (x : TaskId). x.0) task ∙ entered.3 ∙ ap place_of is;
  bounds = bounds ∙ enters_at i set steps k v over s come entered;
  range = subst (IsInRange set) (sym bounds) come.range;
}

-- The first fault of a batch, behind steps that pass, is the refusal's.
pub first_is_fault : (e : Fault) (f : SourceDef) (steps : List StepDef) (start : ℕ) (tested : List (Result (Option Part) AllocError))
    → start + length tested ≤ length steps → ((j : ℕ) → j < start → Passes f steps j)
    → ((j : ℕ) → j < start + length tested → IsEntered f.set steps j) → AreTested f steps start tested
    → IsFirstFault (Err e) tested start → Confirms (Err e) f steps
first_is_fault e f steps start tested most before entered says (inl memory) =
    subst (λ (x : Fault). Confirms (Err x) f steps) (sym memory) tt
first_is_fault e f steps start tested most before entered says (inr first) =
    let here : first.place < length tested = slice_get_within tested first.place (Ok (Some first.part)) first.found in
    let k : ℕ = start + first.place in
    let within : k < length steps = omega (arith, here, most) in
    let earlier : (j : ℕ) → j < k → Passes f steps j =
    batch_passes f steps start first.place tested before (λ j below. entered j (omega (arith, below, here))) says first.earlier in
    let found : FindsAt (Some first.part) f steps k = says first.place (Ok (Some first.part)) first.found in
    subst (λ (x : Fault). Confirms (Err x) f steps) (sym first.is)
    (found_is_fault f steps k first.part within (entered k (omega (arith, here))) earlier found)

-- So is the test that the step behind a batch fails, where all steps of the batch pass.
pub stop_is_fault : (p : Part) (f : SourceDef) (steps : List StepDef) (k : ℕ) (v : List ℕ) (over : Bool)
    → ((j : ℕ) → j < k → Passes f steps j) → HasComeTo f.set steps k v over → k < length steps
    → Enters (Err p) f.set v over (step_at steps k) → Confirms (Err (fault_of p (k + 1))) f steps
stop_is_fault p f steps k v over passed come within entered =
    part_is_fault p f steps k within passed (enters_not p f steps k v over (step_at steps k) come refl entered)
