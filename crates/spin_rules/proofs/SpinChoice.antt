-- After the same rows there is one chosen row.
use Rattle.std.proofs.Common.{◌≡◌, ℕ, ◌<◌, ◌≤◌, true, false, length, refl, sym, ap, ◌∙◌, arith, inl, inr, Option, Some, None}
use Rattle.std.proofs.lemmas.Bool.{cases_Bool, both_ways, false_from_ne_true}
use Rattle.schedule_model.specs.declared.rule.Rule.TheVariants as rule
use Rattle.schedule_model.specs.RowDef.{Trace, is_job, running_on, holder_in, held_before}
use Rattle.schedule_model.specs.Activity.{task_of, processor_of, is_requester, issue_tick_of, is_active_local, is_ready}
use Rattle.schedule_model.specs.SharedRules.{KeepsRun, KeepsKeep, KeepsGrant}
use Rattle.schedule_model.specs.Ranks.{fmlp_plus}
use Rattle.schedule_laws.specs.Agreement.{AgreeBefore}
use Rattle.schedule_laws.proofs.ActiveJobs.{one_active, Requester, requester_is, requester_listed}
use Rattle.schedule_laws.proofs.Rows.{job_named, named_job, ready_is, ready_active, ready_listed, ReadyHolder, ready_holder_is}
use Rattle.schedule_laws.proofs.Agreement.{agree_back, listed_agree, listed_on, task_agree, processor_agree, active_agree}
use Rattle.schedule_laws.proofs.Agreement.{requester_agree}
use Rattle.schedule_laws.proofs.Agreement.{active_local_agree, issue_agree, held_before_agree}
use Rattle.schedule_laws.proofs.SharedChoice.{same_named, rows_same, ready_by}
use Rattle.spin_rules.specs.SpinRules.{is_in_request, spins, has_spinner, KeepsIdle, KeepsPriority, IsSpinChoice}
use Rattle.spin_rules.proofs.InRequests.{in_request_from, in_request_listed, spins_in_request, spinner_waits, spinner_is}
use Rattle.spin_rules.proofs.SpinAgreement.{in_request_agree}

-- A new holder goes no later than a requester, and where both were issued at one tick it is of no lower task.
record Leads (w : Trace) (t j i : ℕ) : Type 0 where
  first : issue_tick_of w t j ≤ issue_tick_of w t i
  tie : issue_tick_of w t i ≡ issue_tick_of w t j → task_of w j ≤ task_of w i

leads : (w : Trace) (t q j i : ℕ) → IsSpinChoice w t → holder_in (w.row t) q ≡ Some j → (held_before w t q ≡ Some j → ⊥)
    → is_requester w t q i ≡ true → Leads w t j i
unfolding fmlp_plus
leads w t q j i c e new asks =
    let grant : KeepsGrant fmlp_plus w t = c.keeps rule.Grant in
    record {
      first = grant.first q j e new i (requester_listed w t q i asks) asks;
      tie = c.grants q j e new i (requester_listed w t q i asks) asks;
    }

-- Two new holders are of one task, and so are one job.
one_new_holder : (v w : Trace) (t q i j : ℕ) → AgreeBefore v w t → IsSpinChoice v t → IsSpinChoice w t
    → holder_in (v.row t) q ≡ Some j → holder_in (w.row t) q ≡ Some i
    → (held_before v t q ≡ Some j → ⊥) → (held_before w t q ≡ Some i → ⊥) → i ≡ j
one_new_holder v w t q i j a c d e f new_v new_w =
    let grant_v : KeepsGrant fmlp_plus v t = c.keeps rule.Grant in
    let grant_w : KeepsGrant fmlp_plus w t = d.keeps rule.Grant in
    let jv : is_requester v t q j ≡ true = grant_v.requests q j e in
    let iw : is_requester w t q i ≡ true = grant_w.requests q i f in
    let jw : is_requester w t q j ≡ true = sym (requester_agree v w t t q j a (omega arith)) ∙ jv in
    let iv : is_requester v t q i ≡ true = requester_agree v w t t q i a (omega arith) ∙ iw in
    let one : Leads v t j i = leads v t q j i c e new_v iv in
    let two : Leads w t i j = leads w t q i j d f new_w jw in
    let at_i : issue_tick_of v t i ≡ issue_tick_of w t i = issue_agree v w t t i a (omega arith) in
    let at_j : issue_tick_of v t j ≡ issue_tick_of w t j = issue_agree v w t t j a (omega arith) in
    let high : task_of v j ≤ task_of v i = one.tie (omega (arith, one.first, two.first, at_i, at_j)) in
    let low : task_of w i ≤ task_of w j = two.tie (omega (arith, one.first, two.first, at_i, at_j)) in
    let ri : Requester w t q i = requester_is w t q i iw in
    let rj : Requester w t q j = requester_is w t q j jw in
    one_active w t i j ri.active rj.active (omega (arith, high, low, task_agree v w t i a, task_agree v w t j a))

holder_same : (v w : Trace) (t q j : ℕ) → AgreeBefore v w t → IsSpinChoice v t → IsSpinChoice w t
    → holder_in (v.row t) q ≡ Some j → holder_in (w.row t) q ≡ Some j
holder_same v w t q j a c d e = go (holder_in (w.row t) q) refl where
  asks_v : is_requester v t q j ≡ true
  asks_v = let g : KeepsGrant fmlp_plus v t = c.keeps rule.Grant in g.requests q j e

  asks_w : is_requester w t q j ≡ true
  asks_w = sym (requester_agree v w t t q j a (omega arith)) ∙ asks_v

  kept_w : held_before v t q ≡ Some j → holder_in (w.row t) q ≡ Some j
  kept_w h = let keep : KeepsKeep w t = d.keeps rule.Keep in keep q j (sym (held_before_agree v w t t q a (omega arith)) ∙ h) asks_w

  kept_v : (i : ℕ) → holder_in (w.row t) q ≡ Some i → held_before w t q ≡ Some i → i ≡ j
  kept_v i f h =
      let keep : KeepsKeep v t = c.keeps rule.Keep in
      let grant : KeepsGrant fmlp_plus w t = d.keeps rule.Grant in
      let x : holder_in (v.row t) q ≡ Some i = keep q i (held_before_agree v w t t q a (omega arith) ∙ h)
      (requester_agree v w t t q i a (omega arith) ∙ grant.requests q i f) in
      let y : Some i ≡ Some j = sym x ∙ e in
      cc

  is_kept_v : (i : ℕ) → holder_in (w.row t) q ≡ Some i → (held_before v t q ≡ Some j → ⊥) → i ≡ j
  is_kept_v i f new_v = elim (cases_Bool (is_job i (held_before w t q))) [
    | inl kept ↦ kept_v i f (job_named i (held_before w t q) kept)
    | inr new ↦ one_new_holder v w t q i j a c d e f new_v
        (λ h. both_ways (is_job i (held_before w t q)) new (named_job i (held_before w t q) h))
  ]

  go : (p : Option ℕ) → holder_in (w.row t) q ≡ p → holder_in (w.row t) q ≡ Some j
  go None f = let g : KeepsGrant fmlp_plus w t = d.keeps rule.Grant in
      absurd (both_ways (is_requester w t q j) (g.free q f j (requester_listed w t q j asks_w)) asks_w)
  go (Some i) f = elim (cases_Bool (is_job j (held_before v t q))) [
    | inl kept ↦ kept_w (job_named j (held_before v t q) kept)
    | inr new ↦
        let s : i ≡ j = is_kept_v i f (λ h. both_ways (is_job j (held_before v t q)) new (named_job j (held_before v t q) h)) in
        f ∙ ap (λ k. Some k) s
  ]

-- Where holders agree, so do ready jobs.
-- A ready job that is in no request is Local.
local_if_free : (w : Trace) (t j : ℕ) → is_ready w t j ≡ true → is_in_request w t j ≡ false → is_active_local w t j ≡ true
local_if_free w t j ready free = elim (ready_is w t j ready) [
  | inl local ↦ local
  | inr holds ↦
      let h : ReadyHolder w t j = ready_holder_is w t j holds in
      absurd (both_ways (is_in_request w t j) free (in_request_from w t j h.number h.resource h.active h.phase))
]

-- Two running jobs of one processor where none is in a request are of its highest Local task, and so are one job.
one_local : (v w : Trace) (t k r s : ℕ) → AgreeBefore v w t → ((q : ℕ) → holder_in (v.row t) q ≡ holder_in (w.row t) q)
    → IsSpinChoice v t → IsSpinChoice w t → running_on (v.row t) k ≡ Some r → running_on (w.row t) k ≡ Some s
    → is_in_request v t r ≡ false → s ≡ r
one_local v w t k r s a h c d e f free =
    let one : task_of v r ≤ task_of v s = priority_v.locals k r e none_v s s_listed s_at
    (active_local_agree v w t t s a (omega arith) ∙ local_if_free w t s s_ready (none_w s (ready_listed w t s s_ready) (sym (run_w.column k s f)))) in
    let two : task_of w s ≤ task_of w r = priority_w.locals k s f none_w r r_listed r_at
    (sym (active_local_agree v w t t r a (omega arith)) ∙ local_if_free v t r r_ready free) in
    one_active w t s r (ready_active w t s s_ready) (sym (active_agree v w t t r a (omega arith)) ∙ ready_active v t r r_ready)
    (omega (arith, one, two, task_agree v w t r a, task_agree v w t s a)) where
      run_v : KeepsRun v t
      run_v = c.keeps rule.Run

      run_w : KeepsRun w t
      run_w = d.keeps rule.Run

      priority_v : KeepsPriority v t
      priority_v = c.keeps rule.Priority

      priority_w : KeepsPriority w t
      priority_w = d.keeps rule.Priority

      r_ready : is_ready v t r ≡ true
      r_ready = run_v.ready k r e

      s_ready : is_ready w t s ≡ true
      s_ready = run_w.ready k s f

      r_listed : r < length w.jobs
      r_listed = listed_on v w t r a (ready_listed v t r r_ready)

      s_listed : s < length v.jobs
      s_listed = ready_listed v t s (ready_by v w t s a h ∙ s_ready)

      r_at : processor_of w r ≡ k
      r_at = sym (run_v.column k r e ∙ processor_agree v w t r a)

      s_at : processor_of v s ≡ k
      s_at = processor_agree v w t s a ∙ sym (run_w.column k s f)

      none_v : (i : ℕ) → i < length v.jobs → processor_of v i ≡ k → is_in_request v t i ≡ false
      none_v i l place = false_from_ne_true (is_in_request v t i) (λ asks.
          both_ways (is_in_request v t i) (ap (is_in_request v t) (sym (priority_v.requests k r e i l place asks)) ∙ free) asks)

      none_w : (i : ℕ) → i < length w.jobs → processor_of w i ≡ k → is_in_request w t i ≡ false
      none_w i l place = sym (in_request_agree v w t t i a (omega arith))
          ∙ none_v i (omega (arith, l, listed_agree v w t a)) (processor_agree v w t i a ∙ place)

running_same : (v w : Trace) (t k r : ℕ) → AgreeBefore v w t → ((q : ℕ) → holder_in (v.row t) q ≡ holder_in (w.row t) q)
    → IsSpinChoice v t → IsSpinChoice w t → running_on (v.row t) k ≡ Some r → running_on (w.row t) k ≡ Some r
running_same v w t k r a h c d e = go (running_on (w.row t) k) refl where
  run_v : KeepsRun v t
  run_v = c.keeps rule.Run

  ready_w : is_ready w t r ≡ true
  ready_w = sym (ready_by v w t r a h) ∙ run_v.ready k r e

  at_w : processor_of w r ≡ k
  at_w = sym (run_v.column k r e ∙ processor_agree v w t r a)

  -- A spinner of the other row spins in this one too, since holders agree.
  calm_w : has_spinner w t k ≡ false
  calm_w = false_from_ne_true (has_spinner w t k) (λ some. other (spinner_is w t k some)) where
    other : (i : ℕ) × (processor_of w i ≡ k) × (spins w t i ≡ true) → ⊥
    other s =
        let priority : KeepsPriority v t = c.keeps rule.Priority in
        let asks_w : is_in_request w t s.0 ≡ true = spins_in_request w t s.0 s.2 in
        let asks : is_in_request v t s.0 ≡ true = in_request_agree v w t t s.0 a (omega arith) ∙ asks_w in
        let same : r ≡ s.0 = priority.requests k r e s.0 (in_request_listed v t s.0 asks) (processor_agree v w t s.0 a ∙ s.1) asks in
        both_ways (is_ready w t r) (ap (is_ready w t) same ∙ spinner_waits w t s.0 s.2) ready_w

  go : (p : Option ℕ) → running_on (w.row t) k ≡ p → running_on (w.row t) k ≡ Some r
  go None f = let idle : KeepsIdle w t = d.keeps rule.Idle in
      absurd (both_ways (is_ready w t r) (idle k f calm_w r (ready_listed w t r ready_w) at_w) ready_w)
  go (Some s) f = elim (cases_Bool (is_in_request v t r)) [
    | inl asks ↦
        let priority : KeepsPriority w t = d.keeps rule.Priority in
        f ∙ ap (λ i. Some i) (priority.requests k s f r (ready_listed w t r ready_w) at_w
        (sym (in_request_agree v w t t r a (omega arith)) ∙ asks))
    | inr free ↦ f ∙ ap (λ i. Some i) (one_local v w t k r s a h c d e f free)
  ]

-- Two chosen rows after the same rows are equal.
pub spin_choice_one : (v w : Trace) (t : ℕ) → AgreeBefore v w t → IsSpinChoice v t → IsSpinChoice w t → v.row t ≡ w.row t
spin_choice_one v w t a c d = rows_same v w t a.set c.sized d.sized running holders where
  back : AgreeBefore w v t
  back = agree_back v w t a

  holders : (q : ℕ) → holder_in (v.row t) q ≡ holder_in (w.row t) q
  holders q = same_named (holder_in (v.row t) q) (holder_in (w.row t) q) (λ j e. holder_same v w t q j a c d e)
      (λ j e. holder_same w v t q j back d c e)

  running : (k : ℕ) → running_on (v.row t) k ≡ running_on (w.row t) k
  running k = same_named (running_on (v.row t) k) (running_on (w.row t) k) (λ r e. running_same v w t k r a holders c d e)
      (λ r e. running_same w v t k r back (λ q. sym (holders q)) d c e)
