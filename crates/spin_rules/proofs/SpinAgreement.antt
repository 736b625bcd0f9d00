-- Whether a row keeps the rules, and is the chosen one, depends on the rows up to it alone.
use Rattle.std.proofs.Common.{◌≡◌, ℕ, ◌<◌, ◌≤◌, ◌==◌, ◌&&◌, not, true, false, length, refl, sym, ap, ◌∙◌, arith, Some}
use Rattle.number_laws.proofs.TestLaws.{any_below-agree}
use Rattle.number_laws.specs.Tests.{any_below}
use Rattle.schedule_model.specs.declared.rule.Rule.TheVariants as rule
use Rattle.schedule_model.specs.RowDef.{Trace, running_on, holder_in, held_before}
use Rattle.schedule_model.specs.Phase.{phase_of}
use Rattle.schedule_model.specs.Activity.{task_of, processor_of, is_requester, issue_tick_of, holds_by, is_active_local}
use Rattle.schedule_model.specs.Ranks.{fmlp_plus}
use Rattle.schedule_laws.specs.Agreement.{AgreeBefore, RulesReadUpTo, ChoiceReadsUpTo}
use Rattle.schedule_laws.proofs.Agreement.{listed_agree, listed_back, task_agree, processor_agree, phase_agree, active_agree}
use Rattle.schedule_laws.proofs.Agreement.{requester_agree}
use Rattle.schedule_laws.proofs.Agreement.{active_local_agree, issue_agree, held_before_agree, running_agree, holder_agree, ready_agree}
use Rattle.schedule_laws.proofs.SharedAgreement.{fmlp_plus_agree, run_agree, keep_agree, grant_agree, sized_agree}
use Rattle.spin_rules.specs.SpinRules.{is_in_request, spins, has_spinner, KeepsIdle, KeepsPriority, spin_rule, IsSpinChoice}

-- At a tick the same jobs are in requests, and spin.
pub in_request_agree : (v w : Trace) (n t j : ℕ) → AgreeBefore v w n → t ≤ n → is_in_request v t j ≡ is_in_request w t j
unfolding is_in_request
in_request_agree v w n t j a l = rw (active_agree v w n t j a l, phase_agree v w n t j a l) refl

pub spins_agree : (v w : Trace) (n t j : ℕ) → AgreeBefore v w n → t < n → spins v t j ≡ spins w t j
unfolding spins
spins_agree v w n t j a l =
    let early : t ≤ n = omega arith in
    ap (λ b. b && not (holds_by (holder_in (v.row t)) j (phase_of v t j))) (in_request_agree v w n t j a early)
    ∙ ap (λ p. is_in_request w t j && not (holds_by (holder_in (v.row t)) j p)) (phase_agree v w n t j a early)
    ∙ ap (λ row. is_in_request w t j && not (holds_by (holder_in row) j (phase_of w t j))) (a.rows t l)

pub has_spinner_agree : (v w : Trace) (n t k : ℕ) → AgreeBefore v w n → t < n → has_spinner v t k ≡ has_spinner w t k
unfolding has_spinner
has_spinner_agree v w n t k a l =
    any_below-agree (length v.jobs) (λ i. (processor_of v i == k) && spins v t i) (λ i. (processor_of w i == k) && spins w t i)
    (λ i b. ap (λ p. (p == k) && spins v t i) (processor_agree v w n i a)
    ∙ ap (λ s. (processor_of w i == k) && s) (spins_agree v w n t i a l))
    ∙ ap (λ m. any_below m (λ i. (processor_of w i == k) && spins w t i)) (listed_agree v w n a)

idle_agree : (v w : Trace) (n t : ℕ) → AgreeBefore v w n → t < n → KeepsIdle v t → KeepsIdle w t
idle_agree v w n t a l idle k e none i b c = sym (ready_agree v w n t i a l)
    ∙ idle k (running_agree v w n t k a l ∙ e) (has_spinner_agree v w n t k a l ∙ none) i (listed_back v w n i a b)
    (processor_agree v w n i a ∙ c)

priority_agree : (v w : Trace) (n t : ℕ) → AgreeBefore v w n → t < n → KeepsPriority v t → KeepsPriority w t
priority_agree v w n t a l priority = record {
  requests = λ k r e i b c h. priority.requests k r (running_agree v w n t k a l ∙ e) i (listed_back v w n i a b)
      (processor_agree v w n i a ∙ c) (in_request_agree v w n t i a (omega arith) ∙ h);
  locals = λ k r e none i b c h. locals k r e none i b c h;
} where
  locals : (k r : ℕ) → running_on (w.row t) k ≡ Some r
      → ((i : ℕ) → i < length w.jobs → processor_of w i ≡ k → is_in_request w t i ≡ false)
      → (i : ℕ) → i < length w.jobs → processor_of w i ≡ k → is_active_local w t i ≡ true → task_of w r ≤ task_of w i
  locals k r e none i b c h =
      let order : task_of v r ≤ task_of v i = priority.locals k r (running_agree v w n t k a l ∙ e)
      (λ x d f. in_request_agree v w n t x a (omega arith)
      ∙ none x (omega (arith, d, listed_agree v w n a)) (sym (processor_agree v w n x a) ∙ f))
      i (listed_back v w n i a b) (processor_agree v w n i a ∙ c) (active_local_agree v w n t i a (omega arith) ∙ h) in
      omega (arith, order, task_agree v w n r a, task_agree v w n i a)

-- A row keeps the rules in one schedule where it does in the other,
pub spin_rules_read : RulesReadUpTo spin_rule
spin_rules_read rule.Run v w n t a l h = run_agree v w n t a l h
spin_rules_read rule.Keep v w n t a l h = keep_agree v w n t a l h
spin_rules_read rule.Grant v w n t a l h = grant_agree fmlp_plus v w n t a l (fmlp_plus_agree v w n t a (omega arith)) h
spin_rules_read rule.Idle v w n t a l h = idle_agree v w n t a l h
spin_rules_read rule.Priority v w n t a l h = priority_agree v w n t a l h

-- and is the chosen one.
pub spin_choice_reads : ChoiceReadsUpTo IsSpinChoice
spin_choice_reads v w n t a l chosen = record {
  sized = sized_agree v w n t a l chosen.sized;
  keeps = λ r. spin_rules_read r v w n t a l (chosen.keeps r);
  grants = λ q j e new i b r same. grants q j e new i b r same;
} where
  grants : (q j : ℕ) → holder_in (w.row t) q ≡ Some j → (held_before w t q ≡ Some j → ⊥) → (i : ℕ) → i < length w.jobs
      → is_requester w t q i ≡ true → issue_tick_of w t i ≡ issue_tick_of w t j → task_of w j ≤ task_of w i
  grants q j e new i b r same =
      let early : t ≤ n = omega arith in
      let order : task_of v j ≤ task_of v i = chosen.grants q j (holder_agree v w n t q a l ∙ e)
      (λ x. new (sym (held_before_agree v w n t q a early) ∙ x)) i (listed_back v w n i a b)
      (requester_agree v w n t q i a early ∙ r) (issue_agree v w n t i a early ∙ same ∙ sym (issue_agree v w n t j a early)) in
      omega (arith, order, task_agree v w n j a, task_agree v w n i a)
