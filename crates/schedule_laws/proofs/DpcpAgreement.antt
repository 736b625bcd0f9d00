-- Whether a row keeps the rules of DPCP depends on the rows up to it alone.
use Rattle.std.proofs.Common.{◌≡◌, ℕ, ◌<◌, ◌≤◌, ◌==◌, ◌&&◌, ◌||◌, not, leb, true, false, length, refl, sym, ap, ◌∙◌}
use Rattle.std.proofs.Common.{arith, Option, Some, None, unwrap_or}
use Rattle.std.specs.Option.{option_map_or}
use Rattle.number_laws.specs.Tests.{all_below, any_below}
use Rattle.number_laws.proofs.TestLaws.{all_below-agree, any_below-agree}
use Rattle.sporadic_model.specs.SetDef.{SetDef, resource_at}
use Rattle.sporadic_model.specs.Users.{ceiling_of}
use Rattle.schedule_model.specs.declared.rule.Rule.TheVariants as rule
use Rattle.schedule_model.specs.RowDef.{Trace, running_on, holder_in, held_before}
use Rattle.schedule_model.specs.Phase.{Phase, is_local, is_asking, phase_of}
use Rattle.schedule_model.specs.Phase.Phase.{Local, Asking, Finished}
use Rattle.schedule_model.specs.Activity.{task_of, processor_of, is_active, is_requester, is_active_local, holds_by}
use Rattle.schedule_model.specs.DpcpRules.{home_of, ceiling_rank, is_at, has_request_at, has_requests, holds_at}
use Rattle.schedule_model.specs.DpcpRules.{is_kept, waits_at, is_first_waiting, is_barred, is_granted, KeepsRun}
use Rattle.schedule_model.specs.DpcpRules.{KeepsGrant, KeepsIdle, RunsFirstHolder, KeepsPriority}
use Rattle.schedule_model.specs.Ranks.{by_task}
use Rattle.schedule_model.specs.Protocols.{dpcp_rule}
use Rattle.schedule_model.specs.Chosen.{IsDpcpChoice}
use Rattle.schedule_laws.specs.Agreement.{AgreeBefore, RulesReadUpTo, ChoiceReadsUpTo}
use Rattle.schedule_laws.proofs.Agreement.{listed_agree, listed_back, task_agree, processor_agree, phase_agree, active_agree}
use Rattle.schedule_laws.proofs.Agreement.{requester_agree, active_local_agree, held_before_agree, running_agree}
use Rattle.schedule_laws.proofs.Agreement.{holder_agree}
use Rattle.schedule_laws.proofs.SharedAgreement.{keep_agree, sized_agree}

pub home_agree : (v w : Trace) (n q : ℕ) → AgreeBefore v w n → home_of v q ≡ home_of w q
home_agree v w n q a = ap (λ set. unwrap_or (resource_at set q).home 0) a.set

pub ceiling_agree : (v w : Trace) (n q : ℕ) → AgreeBefore v w n → ceiling_rank v q ≡ ceiling_rank w q
ceiling_agree v w n q a = ap (λ (set : SetDef). unwrap_or (ceiling_of set q) (length set.tasks)) a.set

at_agree : (v w : Trace) (n k : ℕ) → AgreeBefore v w n → (p : Phase) → is_at v k p ≡ is_at w k p
at_agree v w n k a Local = refl
at_agree v w n k a Finished = refl
at_agree v w n k a (Asking m q) = ap (λ h. h == k) (home_agree v w n q a)

pub request_at_agree : (v w : Trace) (n t k j : ℕ) → AgreeBefore v w n → t ≤ n → has_request_at v t k j ≡ has_request_at w t k j
unfolding has_request_at
request_at_agree v w n t k j a l =
    ap (λ b. b && is_at v k (phase_of v t j)) (active_agree v w n t j a l)
    ∙ ap (λ b. is_active w t j && b) (at_agree v w n k a (phase_of v t j) ∙ ap (is_at w k) (phase_agree v w n t j a l))

pub has_requests_agree : (v w : Trace) (n t k : ℕ) → AgreeBefore v w n → t ≤ n → has_requests v t k ≡ has_requests w t k
unfolding has_requests
has_requests_agree v w n t k a l =
    ap (λ m. any_below m (has_request_at v t k)) (listed_agree v w n a)
    ∙ any_below-agree (length w.jobs) (has_request_at v t k) (has_request_at w t k) (λ j b. request_at_agree v w n t k j a l)

pub kept_agree : (v w : Trace) (n t q : ℕ) → AgreeBefore v w n → t ≤ n → is_kept v t q ≡ is_kept w t q
unfolding is_kept
kept_agree v w n t q a l = go (held_before v t q)
    ∙ ap (λ o. option_map_or (λ j. is_requester w t q j) o false) (held_before_agree v w n t q a l)
  where
    go : (o : Option ℕ) → option_map_or (λ j. is_requester v t q j) o false ≡ option_map_or (λ j. is_requester w t q j) o false
    go None = refl
    go (Some j) = requester_agree v w n t q j a l

-- Holders that agree are held by the same jobs.
pub holds_agree : (f g : ℕ → Option ℕ) (j : ℕ) → ((q : ℕ) → f q ≡ g q) → (p : Phase) → holds_by f j p ≡ holds_by g j p
holds_agree f g j h Local = refl
holds_agree f g j h Finished = refl
holds_agree f g j h (Asking m q) = ap (λ o. option_map_or (λ i. i == j) o false) (h q)

pub waits_agree : (v w : Trace) (n t k j : ℕ) → AgreeBefore v w n → t ≤ n → waits_at v t k j ≡ waits_at w t k j
unfolding waits_at
waits_agree v w n t k j a l =
    ap (λ b. b && not (holds_by (held_before v t) j (phase_of v t j))) (request_at_agree v w n t k j a l)
    ∙ ap (λ b. has_request_at w t k j && not b)
    (holds_agree (held_before v t) (held_before w t) j (λ q. held_before_agree v w n t q a l) (phase_of v t j)
    ∙ ap (holds_by (held_before w t) j) (phase_agree v w n t j a l))

pub first_waiting_agree : (v w : Trace) (n t k j : ℕ) → AgreeBefore v w n → t ≤ n → is_first_waiting v t k j ≡ is_first_waiting w t k j
unfolding is_first_waiting
first_waiting_agree v w n t k j a l =
    ap (λ b. b && all_below (length v.jobs) (λ i. not (waits_at v t k i) || leb (task_of v j) (task_of v i))) (waits_agree v w n t k j a l)
    ∙ ap (λ b. waits_at w t k j && b)
    (ap (λ m. all_below m (λ i. not (waits_at v t k i) || leb (task_of v j) (task_of v i))) (listed_agree v w n a)
    ∙ all_below-agree (length w.jobs) (λ i. not (waits_at v t k i) || leb (task_of v j) (task_of v i))
    (λ i. not (waits_at w t k i) || leb (task_of w j) (task_of w i)) (λ i b. each i)) where
      each : (i : ℕ) → (not (waits_at v t k i) || leb (task_of v j) (task_of v i))
          ≡ (not (waits_at w t k i) || leb (task_of w j) (task_of w i))
      each i =
          ap (λ b. not b || leb (task_of v j) (task_of v i)) (waits_agree v w n t k i a l)
          ∙ ap (λ x. not (waits_at w t k i) || leb x (task_of v i)) (task_agree v w n j a)
          ∙ ap (λ x. not (waits_at w t k i) || leb (task_of w j) x) (task_agree v w n i a)

pub barred_agree : (v w : Trace) (n t k x : ℕ) → AgreeBefore v w n → t ≤ n → is_barred v t k x ≡ is_barred w t k x
unfolding is_barred
barred_agree v w n t k x a l =
    ap (λ (set : SetDef). any_below (length set.resources) (λ q. (home_of v q == k) && (is_kept v t q && leb (ceiling_rank v q) x))) a.set
    ∙ any_below-agree (length w.set.resources) (λ q. (home_of v q == k) && (is_kept v t q && leb (ceiling_rank v q) x))
    (λ q. (home_of w q == k) && (is_kept w t q && leb (ceiling_rank w q) x)) (λ q b. each q) where
      each : (q : ℕ) → ((home_of v q == k) && (is_kept v t q && leb (ceiling_rank v q) x))
          ≡ ((home_of w q == k) && (is_kept w t q && leb (ceiling_rank w q) x))
      each q =
          ap (λ h. (h == k) && (is_kept v t q && leb (ceiling_rank v q) x)) (home_agree v w n q a)
          ∙ ap (λ b. (home_of w q == k) && (b && leb (ceiling_rank v q) x)) (kept_agree v w n t q a l)
          ∙ ap (λ c. (home_of w q == k) && (is_kept w t q && leb c x)) (ceiling_agree v w n q a)

pub granted_agree : (v w : Trace) (n t q j : ℕ) → AgreeBefore v w n → t ≤ n
    → is_granted v t (home_of v q) j ≡ is_granted w t (home_of w q) j
unfolding is_granted
granted_agree v w n t q j a l =
    ap (λ k. is_first_waiting v t k j && not (is_barred v t k (task_of v j))) (home_agree v w n q a)
    ∙ ap (λ b. b && not (is_barred v t (home_of w q) (task_of v j))) (first_waiting_agree v w n t (home_of w q) j a l)
    ∙ ap (λ x. is_first_waiting w t (home_of w q) j && not (is_barred v t (home_of w q) x)) (task_agree v w n j a)
    ∙ ap (λ b. is_first_waiting w t (home_of w q) j && not b) (barred_agree v w n t (home_of w q) (task_of w j) a l)

pub holds_at_agree : (v w : Trace) (n t k j : ℕ) → AgreeBefore v w n → t < n → holds_at v t k j ≡ holds_at w t k j
unfolding holds_at
holds_at_agree v w n t k j a l =
    ap (λ b. b && holds_by (holder_in (v.row t)) j (phase_of v t j)) (request_at_agree v w n t k j a (omega arith))
    ∙ ap (λ b. has_request_at w t k j && b)
    (ap (λ row. holds_by (holder_in row) j (phase_of v t j)) (a.rows t l)
    ∙ ap (holds_by (holder_in (w.row t)) j) (phase_agree v w n t j a (omega arith)))

-- Each rule, from one schedule to the other.
pub dpcp_run_agree : (v w : Trace) (n t : ℕ) → AgreeBefore v w n → t < n → KeepsRun v t → KeepsRun w t
dpcp_run_agree v w n t a l run = record {
  active = λ k j e. sym (active_agree v w n t j a (omega arith)) ∙ run.active k j (running_agree v w n t k a l ∙ e);
  local = λ k j e h. run.local k j (running_agree v w n t k a l ∙ e)
      (ap is_local (phase_agree v w n t j a (omega arith)) ∙ h) ∙ processor_agree v w n j a;
  request = λ k j q e h. request k j q e h;
} where
  request : (k j q : ℕ) → running_on (w.row t) k ≡ Some j → is_asking q (phase_of w t j) ≡ true
      → (k ≡ home_of w q) × (holder_in (w.row t) q ≡ Some j)
  request k j q e h =
      let both : (k ≡ home_of v q) × (holder_in (v.row t) q ≡ Some j) = run.request k j q
      (running_agree v w n t k a l ∙ e) (ap (is_asking q) (phase_agree v w n t j a (omega arith)) ∙ h) in
      (both.0 ∙ home_agree v w n q a, sym (holder_agree v w n t q a l) ∙ both.1)

pub dpcp_grant_agree : (v w : Trace) (n t : ℕ) → AgreeBefore v w n → t < n → KeepsGrant v t → KeepsGrant w t
dpcp_grant_agree v w n t a l grant = record {
  requests = λ q j e. sym (requester_agree v w n t q j a early) ∙ grant.requests q j (holder_agree v w n t q a l ∙ e);
  new = λ q j e new. sym (granted_agree v w n t q j a early)
      ∙ grant.new q j (holder_agree v w n t q a l ∙ e) (λ x. new (sym (held_before_agree v w n t q a early) ∙ x));
  granted = λ q j b r g. sym (holder_agree v w n t q a l) ∙ grant.granted q j (listed_back v w n j a b)
      (requester_agree v w n t q j a early ∙ r) (granted_agree v w n t q j a early ∙ g);
} where
  early : t ≤ n
  early = omega arith

pub dpcp_idle_agree : (v w : Trace) (n t : ℕ) → AgreeBefore v w n → t < n → KeepsIdle v t → KeepsIdle w t
dpcp_idle_agree v w n t a l idle = record {
  requests = λ k e. sym (has_requests_agree v w n t k a (omega arith)) ∙ idle.requests k (running_agree v w n t k a l ∙ e);
  locals = λ k e i b c. sym (active_local_agree v w n t i a (omega arith))
      ∙ idle.locals k (running_agree v w n t k a l ∙ e) i (listed_back v w n i a b) (processor_agree v w n i a ∙ c);
}

-- Where the order of holders agrees, the first holder is the same.
first_holder_agree : (rank : Trace → ℕ → ℕ → ℕ) (v w : Trace) (n t k : ℕ) → AgreeBefore v w n → t < n
    → ((j : ℕ) → rank v t j ≡ rank w t j) → RunsFirstHolder rank v t k → RunsFirstHolder rank w t k
first_holder_agree rank v w n t k a l ranks f = record {
  runner = f.runner;
  runs = sym (running_agree v w n t k a l) ∙ f.runs;
  holds = sym (holds_at_agree v w n t k f.runner a l) ∙ f.holds;
  first = λ i b h. first i b h;
} where
  first : (i : ℕ) → i < length w.jobs → holds_at w t k i ≡ true → rank w t f.runner ≤ rank w t i
  first i b h =
      let order : rank v t f.runner ≤ rank v t i = f.first i (listed_back v w n i a b) (holds_at_agree v w n t k i a l ∙ h) in
      omega (arith, order, ranks f.runner, ranks i)

pub home_priority_agree : (rank : Trace → ℕ → ℕ → ℕ) (v w : Trace) (n t : ℕ) → AgreeBefore v w n → t < n
    → ((j : ℕ) → rank v t j ≡ rank w t j) → KeepsPriority rank v t → KeepsPriority rank w t
home_priority_agree rank v w n t a l ranks priority = record {
  requests = λ k h. first_holder_agree rank v w n t k a l ranks (priority.requests k (has_requests_agree v w n t k a (omega arith) ∙ h));
  locals = λ k r e none i b c h. locals k r e none i b c h;
} where
  locals : (k r : ℕ) → running_on (w.row t) k ≡ Some r → has_requests w t k ≡ false → (i : ℕ) → i < length w.jobs
      → processor_of w i ≡ k → is_active_local w t i ≡ true → task_of w r ≤ task_of w i
  locals k r e none i b c h =
      let order : task_of v r ≤ task_of v i =
      priority.locals k r (running_agree v w n t k a l ∙ e) (has_requests_agree v w n t k a (omega arith) ∙ none)
      i (listed_back v w n i a b) (processor_agree v w n i a ∙ c) (active_local_agree v w n t i a (omega arith) ∙ h) in
      omega (arith, order, task_agree v w n r a, task_agree v w n i a)

-- A row keeps a rule in one schedule where it does in the other.
pub dpcp_rules_read : RulesReadUpTo dpcp_rule
dpcp_rules_read rule.Run v w n t a l h = dpcp_run_agree v w n t a l h
dpcp_rules_read rule.Keep v w n t a l h = keep_agree v w n t a l h
dpcp_rules_read rule.Grant v w n t a l h = dpcp_grant_agree v w n t a l h
dpcp_rules_read rule.Idle v w n t a l h = dpcp_idle_agree v w n t a l h
dpcp_rules_read rule.Priority v w n t a l h = home_priority_agree by_task v w n t a l (λ j. task_agree v w n j a) h

-- And so the chosen row.
pub dpcp_choice_reads : ChoiceReadsUpTo IsDpcpChoice
dpcp_choice_reads v w n t a l chosen =
    record { sized = sized_agree v w n t a l chosen.sized; keeps = λ r. dpcp_rules_read r v w n t a l (chosen.keeps r) }
