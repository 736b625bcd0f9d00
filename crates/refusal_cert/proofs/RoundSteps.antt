-- The steps of a round, one task more at a time.
use Rattle.std.proofs.Common.{◌≡◌, ℕ, suc, ◌<◌, ◌≤◌, List, [], ◌∷◌, ◌++◌, length, nat_lt, true, false, refl, ◌∙◌, ap, arith}
use Rattle.std.specs.Prelude.{slice_index}
use Rattle.std.proofs.lemmas.Bool.{lt-ltb, le-ltb}
use Rattle.std.proofs.lemmas.List.{get_or_push, get_or_append_left}
use Rattle.number_laws.proofs.SumLaws.{collect_below-agree}
use Rattle.program_form.specs.Certificate.{DualDef}
use Rattle.program_sources.specs.Valid.{dual_at, no_dual}
use Rattle.refusal_laws.specs.Steps.{StepDef}
use Rattle.response_fixpoint.specs.Rounds.{Found, with_task, RoundsOf, Passes}
use Rattle.response_fixpoint.proofs.RoundLaws.{values_length, duals_length}
use Rattle.refusal_cert.specs.Steps.{step_of, steps_over, round_steps}

-- A value above the bound gives a step, and no other does.
pub step_above : (bound i value : ℕ) (point : DualDef) → bound < value → steps_over bound i value point ≡ step_of i value point ∷ []
step_above bound i value point above = let is : nat_lt bound value ≡ true = lt-ltb bound value above in rw is refl

pub no_step_below : (bound i value : ℕ) (point : DualDef) → value ≤ bound → steps_over bound i value point ≡ []
no_step_below bound i value point most = let is : nat_lt bound value ≡ false = le-ltb bound value most in rw is refl

-- The steps once one more task has passed.
pub steps_more : (o : RoundsOf) (r : List ℕ) (left i : ℕ) (before : Found) (used value : ℕ) (point : DualDef) → Passes o r left i before
    → round_steps r (with_task before used value point) (suc i) ≡ round_steps r before i ++ steps_over (slice_index r i) i value point
steps_more o r left i before used value point passed =
    let values : List ℕ = before.values ++ value ∷ [] in
    let points : List DualDef = before.duals ++ point ∷ [] in
    let count : length before.values ≡ i = values_length o r left i before passed in
    let point_count : length before.duals ≡ i = duals_length o r left i before passed in
    let old : (k : ℕ) → k < i → steps_over (slice_index r k) k (slice_index values k) (dual_at points k)
    ≡ steps_over (slice_index r k) k (slice_index before.values k) (dual_at before.duals k) = λ k l.
    ap (λ (v : ℕ). steps_over (slice_index r k) k v (dual_at points k))
    (get_or_append_left before.values (value ∷ []) 0 k (omega (arith, count, l)))
    ∙ ap (λ (d : DualDef). steps_over (slice_index r k) k (slice_index before.values k) d)
    (get_or_append_left before.duals (point ∷ []) no_dual k (omega (arith, point_count, l))) in
    let new_value : slice_index values i ≡ value = get_or_push before.values value 0 i count in
    let new_point : dual_at points i ≡ point = get_or_push before.duals point no_dual i point_count in
    ap (λ (xs : List StepDef). xs ++ steps_over (slice_index r i) i (slice_index values i) (dual_at points i))
    (collect_below-agree i (λ k. steps_over (slice_index r k) k (slice_index values k) (dual_at points k))
    (λ k. steps_over (slice_index r k) k (slice_index before.values k) (dual_at before.duals k)) old)
    ∙ ap (λ (v : ℕ). round_steps r before i ++ steps_over (slice_index r i) i v (dual_at points i)) new_value
    ∙ ap (λ (d : DualDef). round_steps r before i ++ steps_over (slice_index r i) i value d) new_point
