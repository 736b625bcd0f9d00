-- What is known of a task that passed in a round.
use Rattle.std.proofs.Common.{◌≡◌, ℕ, zero, suc, ◌-◌, ◌<◌, ◌≤◌, List, [], ◌∷◌, ◌++◌, length, ◌∙◌, ap, subst, arith, inl, inr, length-append}
use Rattle.std.proofs.lemmas.Bool.{cases_lt}
use Rattle.std.proofs.lemmas.List.{get_or_push, get_or_append_left}
use Rattle.std.specs.Prelude.{slice_index}
use Rattle.program_form.specs.Certificate.{DualDef}
use Rattle.program_sources.specs.Valid.{dual_at, no_dual}
use Rattle.response_fixpoint.specs.Rounds.{Valued, Found, RoundsOf, Passes}

-- What is known of a task that passed: the tasks before it did, and its run ended in the value that was found.
pub record PassedTask (o : RoundsOf) (r : List ℕ) (left : ℕ) (j : ℕ) (found : Found) : Type 0 where
  pub before : Found
  pub used : ℕ
  pub value : ℕ
  pub dual : DualDef
  pub passed : Passes o r left j before
  pub run : o.runs r j (left - before.used) (Valued used value dual)
  pub within : value ≤ o.latest j
  pub here : slice_index found.values j ≡ value
  pub dual_here : dual_at found.duals j ≡ dual

pub values_length : (o : RoundsOf) (r : List ℕ) (left i : ℕ) (found : Found) → Passes o r left i found → length found.values ≡ i
values_length o r left zero found p = ap (λ f. length f.values) p
values_length o r left (suc i) found (before, used, value, dual, passed, run, within, same) =
    let one_less = values_length o r left i before passed in
    let grown = length-append before.values (value ∷ []) in
    ap (λ f. length f.values) same ∙ omega (arith, grown)

pub duals_length : (o : RoundsOf) (r : List ℕ) (left i : ℕ) (found : Found) → Passes o r left i found → length found.duals ≡ i
duals_length o r left zero found p = ap (λ f. length f.duals) p
duals_length o r left (suc i) found (before, used, value, dual, passed, run, within, same) =
    let one_less = duals_length o r left i before passed in
    let grown = length-append before.duals (dual ∷ []) in
    ap (λ f. length f.duals) same ∙ omega (arith, grown)

pub passed_task : (o : RoundsOf) (r : List ℕ) (left i : ℕ) (found : Found) → Passes o r left i found → (j : ℕ) → j < i
    → PassedTask o r left j found
passed_task o r left zero found p j below = absurd (omega arith)
passed_task o r left (suc i) found (before, used, value, dual, passed, run, within, same) j below =
    let count : length before.values ≡ i = values_length o r left i before passed in
    let dual_count : length before.duals ≡ i = duals_length o r left i before passed in
    elim (cases_lt j i) [
      | inl earlier ↦
          let t = passed_task o r left i before passed j earlier in
          let old : slice_index (before.values ++ value ∷ []) j ≡ slice_index before.values j =
          get_or_append_left before.values (value ∷ []) 0 j (omega (arith, count)) in
          let old_dual : dual_at (before.duals ++ dual ∷ []) j ≡ dual_at before.duals j =
          get_or_append_left before.duals (dual ∷ []) no_dual j (omega (arith, dual_count)) in
          record {
            before = t.before;
            used = t.used;
            value = t.value;
            dual = t.dual;
            passed = t.passed;
            run = t.run;
            within = t.within;
            here = ap (λ f. slice_index f.values j) same ∙ old ∙ t.here;
            dual_here = ap (λ f. dual_at f.duals j) same ∙ old_dual ∙ t.dual_here;
          }
      | inr later ↦
          let last : i ≡ j = omega arith in
          let new : slice_index (before.values ++ value ∷ []) i ≡ value = get_or_push before.values value 0 i count in
          let new_dual : dual_at (before.duals ++ dual ∷ []) i ≡ dual = get_or_push before.duals dual no_dual i dual_count in
          let at_i : PassedTask o r left i found = record {
            before = before;
            used = used;
            value = value;
            dual = dual;
            passed = passed;
            run = run;
            within = within;
            here = ap (λ f. slice_index f.values i) same ∙ new;
            dual_here = ap (λ f. dual_at f.duals i) same ∙ new_dual;
          } in
          subst (λ (k : ℕ). PassedTask o r left k found) last at_i
    ]
