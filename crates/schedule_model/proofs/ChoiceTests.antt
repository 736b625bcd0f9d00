-- The chosen row as a test that computes, for the worked examples. If the test passes, the row is chosen.
use Rattle.std.proofs.Common.{◌≡◌, ◌≢◌, ℕ, ◌<◌, ◌≤◌, ◌==◌, ◌&&◌, ◌||◌, not, Bool, true, length, Some, leb}
use Rattle.std.proofs.lemmas.Bool.{and_parts, and_from, leb-true, eqb-true, eq-eqb, false_from_ne_true}
use Rattle.number_laws.specs.Tests.{all_below}
use Rattle.number_laws.proofs.TestLaws.{all_below-each}
use Rattle.sporadic_model.specs.SetDef.{SetDef}
use Rattle.schedule_model.specs.RowDef.{RowDef, Trace, is_job, running_on, holder_in, held_before}
use Rattle.schedule_model.specs.Activity.{task_of, processor_of, is_requester, is_ready_holder}
use Rattle.schedule_model.specs.SharedRules.{Ranks}
use Rattle.schedule_model.specs.Chosen.{IsSized, IsSharedChoice}
use Rattle.schedule_model.proofs.RuleTests.{each_place, each_running, place_named, running_named, job_named}
use Rattle.schedule_model.proofs.RuleTests.{then_true, or_other, passes_shared, shared_from}
use Rattle.schedule_model.proofs.KeepingTests.{each_rule, each_rule-passes}

abbrev pub is_sized : SetDef → RowDef → Bool
is_sized set row = (length row.running == set.processors) && (length row.holders == length set.resources)

sized_from : (set : SetDef) (row : RowDef) → is_sized set row ≡ true → IsSized set row
sized_from set row h =
    let parts : ((length row.running == set.processors) ≡ true)
    × ((length row.holders == length set.resources) ≡ true) =
    and_parts (length row.running == set.processors) (length row.holders == length set.resources) h in
    record { processors = eqb-true _ _ parts.0; resources = eqb-true _ _ parts.1 }

-- Does job i request resource q, and go equally first with j?
abbrev pub ties_grant : Ranks → Trace → ℕ → ℕ → ℕ → ℕ → Bool
ties_grant o w t q j i = is_requester w t q i && (o.grant w t i == o.grant w t j)

abbrev pub is_highest_grant : Ranks → Trace → ℕ → ℕ → ℕ → Bool
is_highest_grant o w t q j = is_job j (held_before w t q)
    || all_below (length w.jobs) (λ i. not (ties_grant o w t q j i) || leb (task_of w j) (task_of w i))

-- Is job i a ready holder on processor k, and does it go equally first with r?
abbrev pub ties_run : Ranks → Trace → ℕ → ℕ → ℕ → ℕ → Bool
ties_run o w t k r i = (processor_of w i == k) && (is_ready_holder w t i && (o.run w t i == o.run w t r))

abbrev pub is_highest_run : Ranks → Trace → ℕ → ℕ → ℕ → Bool
is_highest_run o w t k r = not (is_ready_holder w t r)
    || all_below (length w.jobs) (λ i. not (ties_run o w t k r i) || leb (task_of w r) (task_of w i))

abbrev pub passes_choice : Ranks → Trace → ℕ → Bool
passes_choice o w t =
    is_sized w.set (w.row t)
    && (each_rule (passes_shared o w t)
    && (each_place (w.row t).holders (is_highest_grant o w t) && each_running (w.row t) (is_highest_run o w t)))

pub choice_from : (o : Ranks) (w : Trace) (t : ℕ) → passes_choice o w t ≡ true → IsSharedChoice o w t
choice_from o w t h = record {
  sized = sized_from w.set (w.row t) one.0;
  keeps = λ r. shared_from o w t r (each_rule-passes (passes_shared o w t) two.0 r);
  grants = grants;
  runs = runs;
} where
  one : (is_sized w.set (w.row t) ≡ true) × ((each_rule (passes_shared o w t)
      && (each_place (w.row t).holders (is_highest_grant o w t) && each_running (w.row t) (is_highest_run o w t)))
      ≡ true)
  one = and_parts (is_sized w.set (w.row t))
      (each_rule (passes_shared o w t)
      && (each_place (w.row t).holders (is_highest_grant o w t) && each_running (w.row t) (is_highest_run o w t))) h

  two : (each_rule (passes_shared o w t) ≡ true)
      × ((each_place (w.row t).holders (is_highest_grant o w t) && each_running (w.row t) (is_highest_run o w t))
      ≡ true)
  two = and_parts (each_rule (passes_shared o w t))
      (each_place (w.row t).holders (is_highest_grant o w t) && each_running (w.row t) (is_highest_run o w t)) one.1

  three : (each_place (w.row t).holders (is_highest_grant o w t) ≡ true) × (each_running (w.row t) (is_highest_run o w t) ≡ true)
  three = and_parts (each_place (w.row t).holders (is_highest_grant o w t)) (each_running (w.row t) (is_highest_run o w t)) two.1

  grants : (q j : ℕ) → holder_in (w.row t) q ≡ Some j → held_before w t q ≢ Some j → (i : ℕ) → i < length w.jobs
      → is_requester w t q i ≡ true → o.grant w t i ≡ o.grant w t j → task_of w j ≤ task_of w i
  grants q j e new i l r same =
      let all : all_below (length w.jobs) (λ x. not (ties_grant o w t q j x) || leb (task_of w j) (task_of w x))
      ≡ true = or_other (is_job j (held_before w t q))
      (all_below (length w.jobs) (λ x. not (ties_grant o w t q j x) || leb (task_of w j) (task_of w x)))
      (place_named (w.row t).holders (is_highest_grant o w t) three.0 q j e)
      (false_from_ne_true (is_job j (held_before w t q)) (λ k. new (job_named j (held_before w t q) k))) in
      leb-true _ _ (then_true (ties_grant o w t q j i) (leb (task_of w j) (task_of w i))
      (all_below-each (length w.jobs) (λ x. not (ties_grant o w t q j x) || leb (task_of w j) (task_of w x)) all i l)
      (and_from (is_requester w t q i) (o.grant w t i == o.grant w t j) r (eq-eqb _ _ same)))

  runs : (k r : ℕ) → running_on (w.row t) k ≡ Some r → is_ready_holder w t r ≡ true → (i : ℕ) → i < length w.jobs
      → processor_of w i ≡ k → is_ready_holder w t i ≡ true → o.run w t i ≡ o.run w t r → task_of w r ≤ task_of w i
  runs k r e held i l p holds same =
      let all : all_below (length w.jobs) (λ x. not (ties_run o w t k r x) || leb (task_of w r) (task_of w x)) ≡ true =
      then_true (is_ready_holder w t r)
      (all_below (length w.jobs) (λ x. not (ties_run o w t k r x) || leb (task_of w r) (task_of w x)))
      (running_named (w.row t) (is_highest_run o w t) three.1 k r e) held in
      leb-true _ _ (then_true (ties_run o w t k r i) (leb (task_of w r) (task_of w i))
      (all_below-each (length w.jobs) (λ x. not (ties_run o w t k r x) || leb (task_of w r) (task_of w x)) all i l)
      (and_from (processor_of w i == k) (is_ready_holder w t i && (o.run w t i == o.run w t r)) (eq-eqb _ _ p)
      (and_from (is_ready_holder w t i) (o.run w t i == o.run w t r) holds (eq-eqb _ _ same))))
