-- Each rule of DPCP as a test that computes, for the worked examples. If the test passes, the rule is kept.
use Rattle.std.proofs.Common.{◌≡◌, ℕ, ◌<◌, ◌≤◌, ◌==◌, ◌&&◌, ◌||◌, not, Bool, true, false, length, refl, ap, sym, ◌∙◌}
use Rattle.std.proofs.Common.{Option, Some, None, is_some, leb}
use Rattle.std.specs.Option.{option_map_or}
use Rattle.std.proofs.lemmas.Bool.{and_parts, leb-true, eqb-true, false_from_ne_true}
use Rattle.number_laws.specs.Tests.{all_below}
use Rattle.number_laws.proofs.TestLaws.{all_below-each, any_below-some}
use Rattle.schedule_model.specs.Protocols.{dpcp_rule}
use Rattle.schedule_model.specs.declared.rule.Rule.{Rule}
use Rattle.schedule_model.specs.declared.rule.Rule.TheVariants as rule
use Rattle.schedule_model.specs.RowDef.{Trace, is_job, running_on, holder_in, held_before}
use Rattle.schedule_model.specs.Phase.{Phase, is_local, is_asking, phase_of}
use Rattle.schedule_model.specs.Phase.Phase.{Local, Asking, Finished}
use Rattle.schedule_model.specs.Activity.{task_of, processor_of, is_active, is_requester, is_active_local}
use Rattle.schedule_model.specs.DpcpRules.{home_of, is_at, has_request_at, has_requests, holds_at, is_granted, KeepsRun}
use Rattle.schedule_model.specs.DpcpRules.{KeepsGrant, KeepsIdle, RunsFirstHolder, KeepsPriority}
use Rattle.schedule_model.specs.Ranks.{by_task}
use Rattle.schedule_model.proofs.RuleTests.{each_place, each_running, place_named, running_named, job_named}
use Rattle.schedule_model.proofs.RuleTests.{then_true, or_other, passes_keep, keep_from}

-- Run.
abbrev pub is_in_place : Trace → ℕ → ℕ → ℕ → Phase → Bool
is_in_place w t k j Local = k == processor_of w j
is_in_place w t k j (Asking n q) = (k == home_of w q) && is_job j (holder_in (w.row t) q)
is_in_place w t k j Finished = true

abbrev pub runs_well : Trace → ℕ → ℕ → ℕ → Bool
runs_well w t k j = is_active w t j && is_in_place w t k j (phase_of w t j)

abbrev pub passes_run : Trace → ℕ → Bool
passes_run w t = each_running (w.row t) (runs_well w t)

local_place : (w : Trace) (t k j : ℕ) (phase : Phase) → is_in_place w t k j phase ≡ true → is_local phase ≡ true → k ≡ processor_of w j
local_place w t k j Local h l = eqb-true _ _ h
local_place w t k j (Asking n q) h l = absurd (cc)
local_place w t k j Finished h l = absurd (cc)

request_place : (w : Trace) (t k j q : ℕ) (phase : Phase) → is_in_place w t k j phase ≡ true → is_asking q phase ≡ true
    → (k ≡ home_of w q) × (holder_in (w.row t) q ≡ Some j)
request_place w t k j q Local h a = absurd (cc)
request_place w t k j q Finished h a = absurd (cc)
request_place w t k j q (Asking n r) h a =
    let same : r ≡ q = eqb-true _ _ a in
    let parts : ((k == home_of w r) ≡ true) × (is_job j (holder_in (w.row t) r) ≡ true) =
    and_parts (k == home_of w r) (is_job j (holder_in (w.row t) r)) h in
    (eqb-true _ _ parts.0 ∙ ap (home_of w) same, ap (λ p. holder_in (w.row t) p) (sym same) ∙ job_named j (holder_in (w.row t) r) parts.1)

pub run_from : (w : Trace) (t : ℕ) → passes_run w t ≡ true → KeepsRun w t
run_from w t h = record {
  active = λ k j e. (well k j e).0;
  local = λ k j e l. local_place w t k j (phase_of w t j) (well k j e).1 l;
  request = λ k j q e a. request_place w t k j q (phase_of w t j) (well k j e).1 a;
} where
  well : (k j : ℕ) → running_on (w.row t) k ≡ Some j → (is_active w t j ≡ true) × (is_in_place w t k j (phase_of w t j) ≡ true)
  well k j e = and_parts (is_active w t j) (is_in_place w t k j (phase_of w t j)) (running_named (w.row t) (runs_well w t) h k j e)

-- Grant.
abbrev pub may_hold : Trace → ℕ → ℕ → ℕ → Bool
may_hold w t q j = is_requester w t q j && (is_job j (held_before w t q) || is_granted w t (home_of w q) j)

abbrev pub is_given : Trace → ℕ → ℕ → Phase → Bool
is_given w t j (Asking n q) = not (is_granted w t (home_of w q) j) || is_job j (holder_in (w.row t) q)
is_given w t j Local = true
is_given w t j Finished = true

abbrev pub passes_grant : Trace → ℕ → Bool
passes_grant w t = each_place (w.row t).holders (may_hold w t) && all_below (length w.jobs) (λ j. is_given w t j (phase_of w t j))

given_asked : (w : Trace) (t q j : ℕ) (phase : Phase) → is_given w t j phase ≡ true → is_asking q phase ≡ true
    → is_granted w t (home_of w q) j ≡ true → holder_in (w.row t) q ≡ Some j
given_asked w t q j Local h a g = absurd (cc)
given_asked w t q j Finished h a g = absurd (cc)
given_asked w t q j (Asking n r) h a g =
    let same : r ≡ q = eqb-true _ _ a in
    let granted : is_granted w t (home_of w r) j ≡ true = ap (λ p. is_granted w t (home_of w p) j) same ∙ g in
    ap (λ p. holder_in (w.row t) p) (sym same) ∙ job_named j (holder_in (w.row t) r)
    (then_true (is_granted w t (home_of w r) j) (is_job j (holder_in (w.row t) r)) h granted)

pub grant_from : (w : Trace) (t : ℕ) → passes_grant w t ≡ true → KeepsGrant w t
unfolding is_requester
grant_from w t h = record {
  requests = λ q j e. (may q j e).0;
  new = λ q j e other. or_other (is_job j (held_before w t q)) (is_granted w t (home_of w q) j) (may q j e).1
      (false_from_ne_true (is_job j (held_before w t q)) (λ k. other (job_named j (held_before w t q) k)));
  granted = λ q j l r g. given_asked w t q j (phase_of w t j)
      (all_below-each (length w.jobs) (λ i. is_given w t i (phase_of w t i)) parts.1 j l)
      (and_parts (is_active w t j) (is_asking q (phase_of w t j)) r).1 g;
} where
  parts : (each_place (w.row t).holders (may_hold w t) ≡ true) × (all_below (length w.jobs) (λ j. is_given w t j (phase_of w t j)) ≡ true)
  parts = and_parts (each_place (w.row t).holders (may_hold w t)) (all_below (length w.jobs) (λ j. is_given w t j (phase_of w t j))) h

  may : (q j : ℕ) → holder_in (w.row t) q ≡ Some j
      → (is_requester w t q j ≡ true) × ((is_job j (held_before w t q) || is_granted w t (home_of w q) j) ≡ true)
  may q j e = and_parts (is_requester w t q j) (is_job j (held_before w t q) || is_granted w t (home_of w q) j)
      (place_named (w.row t).holders (may_hold w t) parts.0 q j e)

-- What is true of the home of each request is true of a processor that has a request.
abbrev pub tells_home : Trace → (ℕ → Bool) → Phase → Bool
tells_home w p (Asking n q) = p (home_of w q)
tells_home w p Local = true
tells_home w p Finished = true

abbrev pub each_request : Trace → ℕ → (ℕ → Bool) → Bool
each_request w t p = all_below (length w.jobs) (λ i. not (is_active w t i) || tells_home w p (phase_of w t i))

told_at : (w : Trace) (p : ℕ → Bool) (k : ℕ) (phase : Phase) → tells_home w p phase ≡ true → is_at w k phase ≡ true → p k ≡ true
told_at w p k Local h a = absurd (cc)
told_at w p k Finished h a = absurd (cc)
told_at w p k (Asking n q) h a = let same : home_of w q ≡ k = eqb-true _ _ a in sym (ap p same) ∙ h

request_told : (w : Trace) (t k : ℕ) (p : ℕ → Bool) → each_request w t p ≡ true → has_requests w t k ≡ true → p k ≡ true
unfolding has_requests has_request_at
request_told w t k p h some =
    let found = any_below-some (length w.jobs) (λ i. is_active w t i && is_at w k (phase_of w t i)) some in
    let parts : (is_active w t found.0 ≡ true) × (is_at w k (phase_of w t found.0) ≡ true) =
    and_parts (is_active w t found.0) (is_at w k (phase_of w t found.0)) found.2 in
    told_at w p k (phase_of w t found.0)
    (then_true (is_active w t found.0) (tells_home w p (phase_of w t found.0))
    (all_below-each (length w.jobs) (λ i. not (is_active w t i) || tells_home w p (phase_of w t i)) h found.0 found.1)
    parts.0) parts.1

-- Idle.
abbrev pub is_busy : Trace → ℕ → ℕ → Bool
is_busy w t k = is_some (running_on (w.row t) k)

abbrev pub passes_idle : Trace → ℕ → Bool
passes_idle w t = each_request w t (is_busy w t)
    && all_below (length w.jobs) (λ i. not (is_active_local w t i) || is_busy w t (processor_of w i))

idle_busy : (w : Trace) (t k : ℕ) → running_on (w.row t) k ≡ None → is_busy w t k ≡ true → ⊥
idle_busy w t k none busy = let wrong : is_some {T = ℕ} None ≡ true = rw none at busy in cc

pub idle_from : (w : Trace) (t : ℕ) → passes_idle w t ≡ true → KeepsIdle w t
idle_from w t h = record {
  requests = λ k none. false_from_ne_true (has_requests w t k) (λ some. idle_busy w t k none (request_told w t k (is_busy w t) parts.0 some));
  locals = λ k none i l e. false_from_ne_true (is_active_local w t i) (λ local. idle_busy w t k none
      (ap (is_busy w t) (sym e) ∙ then_true (is_active_local w t i) (is_busy w t (processor_of w i))
      (all_below-each (length w.jobs) (λ x. not (is_active_local w t x) || is_busy w t (processor_of w x)) parts.1 i l)
      local));
} where
  parts : (each_request w t (is_busy w t) ≡ true)
      × (all_below (length w.jobs) (λ i. not (is_active_local w t i) || is_busy w t (processor_of w i)) ≡ true)
  parts = and_parts (each_request w t (is_busy w t))
      (all_below (length w.jobs) (λ i. not (is_active_local w t i) || is_busy w t (processor_of w i))) h

-- Priority, over the order in which holders run.
abbrev pub is_first_holder : (Trace → ℕ → ℕ → ℕ) → Trace → ℕ → ℕ → ℕ → Bool
is_first_holder rank w t k r =
    holds_at w t k r && all_below (length w.jobs) (λ i. not (holds_at w t k i) || leb (rank w t r) (rank w t i))

abbrev pub runs_first_holder : (Trace → ℕ → ℕ → ℕ) → Trace → ℕ → ℕ → Bool
runs_first_holder rank w t k = option_map_or (is_first_holder rank w t k) (running_on (w.row t) k) false

abbrev pub yields_to_higher : Trace → ℕ → ℕ → ℕ → Bool
yields_to_higher w t i r = leb (task_of w r) (task_of w i) || has_requests w t (processor_of w i)

abbrev pub passes_priority : (Trace → ℕ → ℕ → ℕ) → Trace → ℕ → Bool
passes_priority rank w t = each_request w t (runs_first_holder rank w t) && all_below (length w.jobs) (λ i. not
    (is_active_local w t i) || option_map_or (yields_to_higher w t i) (running_on (w.row t) (processor_of w i)) true)

first_holder_of : (rank : Trace → ℕ → ℕ → ℕ) (w : Trace) (t k : ℕ) (o : Option ℕ) → running_on (w.row t) k ≡ o
    → option_map_or (is_first_holder rank w t k) o false ≡ true → RunsFirstHolder rank w t k
first_holder_of rank w t k None e h = absurd (cc)
first_holder_of rank w t k (Some r) e h =
    let parts : (holds_at w t k r ≡ true)
    × (all_below (length w.jobs) (λ i. not (holds_at w t k i) || leb (rank w t r) (rank w t i)) ≡ true) = and_parts
    (holds_at w t k r) (all_below (length w.jobs) (λ i. not (holds_at w t k i) || leb (rank w t r) (rank w t i))) h in
    record {
      runner = r;
      runs = e;
      holds = parts.0;
      first = λ i l held. leb-true _ _ (then_true (holds_at w t k i) (leb (rank w t r) (rank w t i))
          (all_below-each (length w.jobs) (λ x. not (holds_at w t k x) || leb (rank w t r) (rank w t x)) parts.1 i l)
          held);
    }

pub priority_from : (rank : Trace → ℕ → ℕ → ℕ) (w : Trace) (t : ℕ) → passes_priority rank w t ≡ true → KeepsPriority rank w t
priority_from rank w t h = record {
  requests = λ k some. first_holder_of rank w t k (running_on (w.row t) k) refl
      (request_told w t k (runs_first_holder rank w t) parts.0 some);
  locals = λ k r e none i l p local. locals k r e none i l p local;
} where
  parts : (each_request w t (runs_first_holder rank w t) ≡ true)
      × (all_below (length w.jobs) (λ i. not (is_active_local w t i)
      || option_map_or (yields_to_higher w t i) (running_on (w.row t) (processor_of w i)) true) ≡ true)
  parts = and_parts (each_request w t (runs_first_holder rank w t))
      (all_below (length w.jobs) (λ i. not (is_active_local w t i)
      || option_map_or (yields_to_higher w t i) (running_on (w.row t) (processor_of w i)) true)) h

  runner : (p : ℕ → Bool) (o : Option ℕ) (r : ℕ) → option_map_or p o true ≡ true → o ≡ Some r → p r ≡ true
  runner p o r here e = rw e at here

  locals : (k r : ℕ) → running_on (w.row t) k ≡ Some r → has_requests w t k ≡ false → (i : ℕ) → i < length w.jobs
      → processor_of w i ≡ k → is_active_local w t i ≡ true → task_of w r ≤ task_of w i
  locals k r e none i l p local =
      let here : option_map_or (yields_to_higher w t i) (running_on (w.row t) (processor_of w i)) true ≡ true =
      then_true (is_active_local w t i)
      (option_map_or (yields_to_higher w t i) (running_on (w.row t) (processor_of w i)) true)
      (all_below-each (length w.jobs)
      (λ x. not (is_active_local w t x)
      || option_map_or (yields_to_higher w t x) (running_on (w.row t) (processor_of w x)) true) parts.1 i l) local in
      let either : (has_requests w t (processor_of w i) || leb (task_of w r) (task_of w i)) ≡ true =
      swap (leb (task_of w r) (task_of w i)) (has_requests w t (processor_of w i)) (runner (yields_to_higher w t i)
      (running_on (w.row t) (processor_of w i)) r here (ap (λ x. running_on (w.row t) x) p ∙ e)) in
      leb-true _ _ (or_other (has_requests w t (processor_of w i)) (leb (task_of w r) (task_of w i)) either
      (ap (has_requests w t) p ∙ none)) where
        swap : (a b : Bool) → (a || b) ≡ true → (b || a) ≡ true
        swap true true x = refl
        swap true false x = refl
        swap false true x = refl
        swap false false x = absurd (cc)

-- The five tests by the name of the rule.
abbrev pub passes_dpcp : Trace → ℕ → Rule → Bool
passes_dpcp w t rule.Run = passes_run w t
passes_dpcp w t rule.Keep = passes_keep w t
passes_dpcp w t rule.Grant = passes_grant w t
passes_dpcp w t rule.Idle = passes_idle w t
passes_dpcp w t rule.Priority = passes_priority by_task w t

pub dpcp_from : (w : Trace) (t : ℕ) (r : Rule) → passes_dpcp w t r ≡ true → dpcp_rule r w t
dpcp_from w t rule.Run h = run_from w t h
dpcp_from w t rule.Keep h = keep_from w t h
dpcp_from w t rule.Grant h = grant_from w t h
dpcp_from w t rule.Idle h = idle_from w t h
dpcp_from w t rule.Priority h = priority_from by_task w t h
