-- Each rule as a test that computes, for the worked examples. If the test passes, the rule is kept.
use Rattle.std.proofs.Common.{◌≡◌, ◌≢◌, ℕ, zero, suc, ◌<◌, ◌≤◌, ◌==◌, ◌&&◌, ◌||◌, not, Bool, true, false, List, length}
use Rattle.std.proofs.Common.{get_or, refl, ap, ◌∙◌, inl, inr, Option, Some, None, is_some, leb}
use Rattle.std.specs.Option.{option_map_or}
use Rattle.std.proofs.lemmas.Bool.{both_ways, and_parts, or_cases, leb-true, eqb-true, cases_lt, false_from_ne_true}
use Rattle.std.proofs.lemmas.List.{get_or_past}
use Rattle.number_laws.specs.Tests.{all_below, any_below}
use Rattle.number_laws.proofs.TestLaws.{all_below-each, any_below-some}
use Rattle.schedule_model.specs.declared.rule.Rule.{Rule}
use Rattle.schedule_model.specs.declared.rule.Rule.TheVariants as rule
use Rattle.schedule_model.specs.RowDef.{RowDef, Trace, is_job, running_on, holder_in, held_before}
use Rattle.schedule_model.specs.Phase.{Phase, is_asking, phase_of}
use Rattle.schedule_model.specs.Phase.Phase.{Local, Asking, Finished}
use Rattle.schedule_model.specs.Activity.{task_of, processor_of, is_active, is_requester, is_active_local, is_ready_holder, is_ready}
use Rattle.schedule_model.specs.Protocols.{shared_rule}
use Rattle.schedule_model.specs.SharedRules as shared
use Rattle.schedule_model.specs.SharedRules.{Ranks}

-- What is true of each named place of a list is true of the place that names j.
abbrev pub each_place : List (Option ℕ) → (ℕ → ℕ → Bool) → Bool
each_place places p = all_below (length places) (λ c. option_map_or (p c) (get_or places c None) true)

abbrev pub each_running : RowDef → (ℕ → ℕ → Bool) → Bool
each_running row p = each_place row.running (λ c j. p (suc c) j)

abbrev pub each_before : Trace → ℕ → (ℕ → ℕ → Bool) → Bool
each_before w zero p = true
each_before w (suc u) p = each_place (w.row u).holders p

pub place_named : (places : List (Option ℕ)) (p : ℕ → ℕ → Bool) → each_place places p ≡ true → (c j : ℕ)
    → get_or places c None ≡ Some j → p c j ≡ true
place_named places p h c j e = elim (cases_lt c (length places)) [
  | inl l ↦
      let here : option_map_or (p c) (get_or places c None) true ≡ true =
      all_below-each (length places) (λ d. option_map_or (p d) (get_or places d None) true) h c l in
      rw e at here
  | inr past ↦ let none : get_or places c None ≡ None = get_or_past places c None past in absurd (cc)
]

pub running_named : (row : RowDef) (p : ℕ → ℕ → Bool) → each_running row p ≡ true → (k j : ℕ) → running_on row k ≡ Some j → p k j ≡ true
running_named row p h zero j e = absurd (cc)
running_named row p h (suc c) j e = place_named row.running (λ d i. p (suc d) i) h c j e

pub before_named : (w : Trace) (t : ℕ) (p : ℕ → ℕ → Bool) → each_before w t p ≡ true → (q j : ℕ) → held_before w t q ≡ Some j → p q j ≡ true
before_named w zero p h q j e = absurd (cc)
before_named w (suc u) p h q j e = place_named (w.row u).holders p h q j e

-- A place passes for j if it names j.
pub job_named : (j : ℕ) (o : Option ℕ) → is_job j o ≡ true → o ≡ Some j
job_named j None h = absurd (cc)
job_named j (Some i) h = ap (λ k. Some k) (eqb-true i j h)

-- A test that says 'if a then b' gives b if a passes.
pub then_true : (a b : Bool) → (not a || b) ≡ true → a ≡ true → b ≡ true
then_true true b h e = h
then_true false b h e = absurd (cc)

pub or_other : (a b : Bool) → (a || b) ≡ true → a ≡ false → b ≡ true
or_other true b h e = absurd (cc)
or_other false b h e = h

-- Run, and Keep.
abbrev pub passes_run : Trace → ℕ → Bool
passes_run w t = each_running (w.row t) (λ k j. is_ready w t j && (k == processor_of w j))

pub run_from : (w : Trace) (t : ℕ) → passes_run w t ≡ true → shared.KeepsRun w t
run_from w t h = record {
  ready = λ k j e. (and_parts (is_ready w t j) (k == processor_of w j)
      (running_named (w.row t) (λ l i. is_ready w t i && (l == processor_of w i)) h k j e)).0;
  column = λ k j e. eqb-true k (processor_of w j) (and_parts (is_ready w t j) (k == processor_of w j)
      (running_named (w.row t) (λ l i. is_ready w t i && (l == processor_of w i)) h k j e)).1;
}

abbrev pub passes_keep : Trace → ℕ → Bool
passes_keep w t = each_before w t (λ q j. not (is_requester w t q j) || is_job j (holder_in (w.row t) q))

pub keep_from : (w : Trace) (t : ℕ) → passes_keep w t ≡ true → shared.KeepsKeep w t
keep_from w t h q j e r =
    job_named j (holder_in (w.row t) q) (then_true (is_requester w t q j) (is_job j (holder_in (w.row t) q))
    (before_named w t (λ p i. not (is_requester w t p i) || is_job i (holder_in (w.row t) p)) h q j e) r)

-- Grant.
abbrev pub is_unheld : RowDef → Phase → Bool
is_unheld row (Asking n q) = not (is_some (holder_in row q))
is_unheld row Local = false
is_unheld row Finished = false

abbrev pub goes_first : Ranks → Trace → ℕ → ℕ → ℕ → Bool
goes_first o w t q j = all_below (length w.jobs) (λ i. not (is_requester w t q i) || leb (o.grant w t j) (o.grant w t i))

abbrev pub may_hold : Ranks → Trace → ℕ → ℕ → ℕ → Bool
may_hold o w t q j = is_requester w t q j && (is_job j (held_before w t q) || goes_first o w t q j)

abbrev pub passes_grant : Ranks → Trace → ℕ → Bool
passes_grant o w t = each_place (w.row t).holders (may_hold o w t)
    && all_below (length w.jobs) (λ i. not (is_active w t i && is_unheld (w.row t) (phase_of w t i)))

held_asked : (row : RowDef) (q : ℕ) (phase : Phase) → holder_in row q ≡ None → is_asking q phase ≡ true → is_unheld row phase ≡ true
held_asked row q Local none h = absurd (cc)
held_asked row q Finished none h = absurd (cc)
held_asked row q (Asking n r) none h = let e : r ≡ q = eqb-true r q h in rw (e, none) refl

pub grant_from : (o : Ranks) (w : Trace) (t : ℕ) → passes_grant o w t ≡ true → shared.KeepsGrant o w t
unfolding is_requester
grant_from o w t h = record {
  requests = λ q j e. (may q j e).0;
  first = λ q j e new i l r. first q j e new i l r;
  free = λ q none i l. false_from_ne_true (is_requester w t q i) (λ r. unheld q none i l r);
} where
  parts : (each_place (w.row t).holders (may_hold o w t) ≡ true)
      × (all_below (length w.jobs) (λ i. not (is_active w t i && is_unheld (w.row t) (phase_of w t i))) ≡ true)
  parts = and_parts (each_place (w.row t).holders (may_hold o w t))
      (all_below (length w.jobs) (λ i. not (is_active w t i && is_unheld (w.row t) (phase_of w t i)))) h

  may : (q j : ℕ) → holder_in (w.row t) q ≡ Some j
      → (is_requester w t q j ≡ true) × ((is_job j (held_before w t q) || goes_first o w t q j) ≡ true)
  may q j e = and_parts (is_requester w t q j) (is_job j (held_before w t q) || goes_first o w t q j)
      (place_named (w.row t).holders (may_hold o w t) parts.0 q j e)

  first : (q j : ℕ) → holder_in (w.row t) q ≡ Some j → held_before w t q ≢ Some j → (i : ℕ) → i < length w.jobs
      → is_requester w t q i ≡ true → o.grant w t j ≤ o.grant w t i
  first q j e new i l r =
      let firsts : goes_first o w t q j ≡ true = or_other (is_job j (held_before w t q)) (goes_first o w t q j)
      (may q j e).1 (false_from_ne_true (is_job j (held_before w t q)) (λ k. new (job_named j (held_before w t q) k))) in
      leb-true _ _ (then_true (is_requester w t q i) (leb (o.grant w t j) (o.grant w t i))
      (all_below-each (length w.jobs) (λ x. not (is_requester w t q x) || leb (o.grant w t j) (o.grant w t x)) firsts i
      l) r)

  unheld : (q : ℕ) → holder_in (w.row t) q ≡ None → (i : ℕ) → i < length w.jobs → is_requester w t q i ≡ true → ⊥
  unheld q none i l r =
      let asks : (is_active w t i ≡ true) × (is_asking q (phase_of w t i) ≡ true) =
      and_parts (is_active w t i) (is_asking q (phase_of w t i)) r in
      let fails : not (is_active w t i && is_unheld (w.row t) (phase_of w t i)) ≡ true =
      all_below-each (length w.jobs) (λ x. not (is_active w t x && is_unheld (w.row t) (phase_of w t x))) parts.1 i l in
      let open_ : is_unheld (w.row t) (phase_of w t i) ≡ true = held_asked (w.row t) q (phase_of w t i) none asks.1 in
      let both : not (true && true) ≡ true = rw (asks.0, open_) at fails in
      cc

-- Idle.
abbrev pub passes_idle : Trace → ℕ → Bool
passes_idle w t = all_below (length w.jobs) (λ i. not (is_ready w t i) || is_some (running_on (w.row t) (processor_of w i)))

pub idle_from : (w : Trace) (t : ℕ) → passes_idle w t ≡ true → shared.KeepsIdle w t
idle_from w t h k none i l e = false_from_ne_true (is_ready w t i) (λ r.
    let some : is_some (running_on (w.row t) (processor_of w i)) ≡ true =
    then_true (is_ready w t i) (is_some (running_on (w.row t) (processor_of w i)))
    (all_below-each (length w.jobs) (λ x. not (is_ready w t x) || is_some (running_on (w.row t) (processor_of w x))) h i
    l) r in
    let empty : running_on (w.row t) (processor_of w i) ≡ None = ap (λ p. running_on (w.row t) p) e ∙ none in
    let wrong : is_some {T = ℕ} None ≡ true = rw empty at some in
    cc)

-- Priority.
abbrev pub runs_before : Ranks → Trace → ℕ → ℕ → ℕ → Bool
runs_before o w t i r = is_ready_holder w t r && leb (o.run w t r) (o.run w t i)

abbrev pub has_ready_holder : Trace → ℕ → ℕ → Bool
has_ready_holder w t k = any_below (length w.jobs) (λ i. (processor_of w i == k) && is_ready_holder w t i)

abbrev pub yields_to_higher : Trace → ℕ → ℕ → ℕ → Bool
yields_to_higher w t i r = leb (task_of w r) (task_of w i) || has_ready_holder w t (processor_of w i)

abbrev pub passes_priority : Ranks → Trace → ℕ → Bool
passes_priority o w t =
    all_below (length w.jobs) (λ i.
    not (is_ready_holder w t i) || option_map_or (runs_before o w t i) (running_on (w.row t) (processor_of w i)) true)
    && all_below (length w.jobs) (λ i. not (is_active_local w t i)
    || option_map_or (yields_to_higher w t i) (running_on (w.row t) (processor_of w i)) true)

pub runner_passes : (p : ℕ → Bool) (o : Option ℕ) (r : ℕ) → option_map_or p o true ≡ true → o ≡ Some r → p r ≡ true
runner_passes p o r h e = rw e at h

pub priority_from : (o : Ranks) (w : Trace) (t : ℕ) → passes_priority o w t ≡ true → shared.KeepsPriority o w t
priority_from o w t h = record {
  holders = λ k r e i l p held. let both = holds k r e i l p held in (both.0, leb-true _ _ both.1);
  locals = λ k r e none i l p local. locals k r e none i l p local;
} where
  parts : (all_below (length w.jobs) (λ i.
      not (is_ready_holder w t i) || option_map_or (runs_before o w t i) (running_on (w.row t) (processor_of w i)) true)
      ≡ true)
      × (all_below (length w.jobs) (λ i. not (is_active_local w t i)
      || option_map_or (yields_to_higher w t i) (running_on (w.row t) (processor_of w i)) true) ≡ true)
  parts = and_parts
      (all_below (length w.jobs) (λ i. not (is_ready_holder w t i)
      || option_map_or (runs_before o w t i) (running_on (w.row t) (processor_of w i)) true))
      (all_below (length w.jobs) (λ i. not (is_active_local w t i)
      || option_map_or (yields_to_higher w t i) (running_on (w.row t) (processor_of w i)) true)) h

  holds : (k r : ℕ) → running_on (w.row t) k ≡ Some r → (i : ℕ) → i < length w.jobs → processor_of w i ≡ k
      → is_ready_holder w t i ≡ true → (is_ready_holder w t r ≡ true) × (leb (o.run w t r) (o.run w t i) ≡ true)
  holds k r e i l p held =
      let here : option_map_or (runs_before o w t i) (running_on (w.row t) (processor_of w i)) true ≡ true = then_true
      (is_ready_holder w t i) (option_map_or (runs_before o w t i) (running_on (w.row t) (processor_of w i)) true)
      (all_below-each (length w.jobs)
      (λ x.
      not (is_ready_holder w t x) || option_map_or (runs_before o w t x) (running_on (w.row t) (processor_of w x)) true)
      parts.0 i l) held in
      and_parts (is_ready_holder w t r) (leb (o.run w t r) (o.run w t i)) (runner_passes (runs_before o w t i)
      (running_on (w.row t) (processor_of w i)) r here (ap (λ x. running_on (w.row t) x) p ∙ e))

  locals : (k r : ℕ) → running_on (w.row t) k ≡ Some r
      → ((i : ℕ) → i < length w.jobs → processor_of w i ≡ k → is_ready_holder w t i ≡ false) → (i : ℕ)
      → i < length w.jobs → processor_of w i ≡ k → is_active_local w t i ≡ true → task_of w r ≤ task_of w i
  locals k r e none i l p local =
      let here : option_map_or (yields_to_higher w t i) (running_on (w.row t) (processor_of w i)) true ≡ true =
      then_true (is_active_local w t i)
      (option_map_or (yields_to_higher w t i) (running_on (w.row t) (processor_of w i)) true)
      (all_below-each (length w.jobs)
      (λ x. not (is_active_local w t x)
      || option_map_or (yields_to_higher w t x) (running_on (w.row t) (processor_of w x)) true) parts.1 i l) local in
      let either : (leb (task_of w r) (task_of w i) || has_ready_holder w t (processor_of w i)) ≡ true =
      runner_passes (yields_to_higher w t i) (running_on (w.row t) (processor_of w i)) r here
      (ap (λ x. running_on (w.row t) x) p ∙ e) in
      elim (or_cases (leb (task_of w r) (task_of w i)) (has_ready_holder w t (processor_of w i)) either) [
        | inl higher ↦ leb-true _ _ higher
        | inr some ↦
            let found = any_below-some (length w.jobs) (λ x. (processor_of w x == processor_of w i) && is_ready_holder w t x) some in
            let what : ((processor_of w found.0 == processor_of w i) ≡ true) × (is_ready_holder w t found.0 ≡ true) =
            and_parts (processor_of w found.0 == processor_of w i) (is_ready_holder w t found.0) found.2 in
            absurd (both_ways (is_ready_holder w t found.0) (none found.0 found.1 (eqb-true _ _ what.0 ∙ p)) what.1)
      ]

-- The five tests by the name of the rule.
abbrev pub passes_shared : Ranks → Trace → ℕ → Rule → Bool
passes_shared o w t rule.Run = passes_run w t
passes_shared o w t rule.Keep = passes_keep w t
passes_shared o w t rule.Grant = passes_grant o w t
passes_shared o w t rule.Idle = passes_idle w t
passes_shared o w t rule.Priority = passes_priority o w t

pub shared_from : (o : Ranks) (w : Trace) (t : ℕ) (r : Rule) → passes_shared o w t r ≡ true → shared_rule o r w t
shared_from o w t rule.Run h = run_from w t h
shared_from o w t rule.Keep h = keep_from w t h
shared_from o w t rule.Grant h = grant_from o w t h
shared_from o w t rule.Idle h = idle_from w t h
shared_from o w t rule.Priority h = priority_from o w t h
