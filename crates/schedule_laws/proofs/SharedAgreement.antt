-- Whether a row keeps the rules of MPCP and FMLP+, and is the chosen one, depends on the rows up to it alone.
use Rattle.std.proofs.Common.{◌≡◌, ℕ, ◌<◌, ◌≤◌, true, false, length, sym, ap, ◌∙◌, arith, Some, unwrap_or}
use Rattle.sporadic_model.specs.SetDef.{SetDef}
use Rattle.sporadic_model.specs.Users.{remote_ceiling_of}
use Rattle.schedule_model.specs.declared.rule.Rule.{Rule}
use Rattle.schedule_model.specs.declared.rule.Rule.TheVariants as rule
use Rattle.schedule_model.specs.RowDef.{RowDef, Trace, running_on, holder_in, held_before}
use Rattle.schedule_model.specs.Phase.{Phase, phase_of}
use Rattle.schedule_model.specs.Phase.Phase.{Local, Asking, Finished}
use Rattle.schedule_model.specs.Activity.{task_of, processor_of, is_requester, is_active_local, is_ready_holder}
use Rattle.schedule_model.specs.SharedRules.{Ranks, KeepsRun, KeepsKeep, KeepsGrant, KeepsIdle, KeepsPriority}
use Rattle.schedule_model.specs.Ranks.{boost_in, mpcp, fmlp_plus}
use Rattle.schedule_model.specs.Protocols.{shared_rule}
use Rattle.schedule_model.specs.Chosen.{IsSized, IsSharedChoice}
use Rattle.schedule_laws.specs.Agreement.{AgreeBefore, RulesReadUpTo, ChoiceReadsUpTo}
use Rattle.schedule_laws.proofs.Agreement.{listed_agree, listed_back, task_agree, processor_agree, phase_agree, requester_agree}
use Rattle.schedule_laws.proofs.Agreement.{active_local_agree, issue_agree, held_before_agree, running_agree}
use Rattle.schedule_laws.proofs.Agreement.{holder_agree, ready_holder_agree, ready_agree}

-- Does an order of grants and runs give the same numbers at tick t of both schedules?
pub record RanksAgree (o : Ranks) (v w : Trace) (t : ℕ) : Type 0 where
  pub grant : (j : ℕ) → o.grant v t j ≡ o.grant w t j
  pub run : (j : ℕ) → o.run v t j ≡ o.run w t j

-- The order of FMLP+ agrees.
pub fmlp_plus_agree : (v w : Trace) (n t : ℕ) → AgreeBefore v w n → t ≤ n → RanksAgree fmlp_plus v w t
unfolding fmlp_plus
fmlp_plus_agree v w n t a l = record { grant = λ j. issue_agree v w n t j a l; run = λ j. issue_agree v w n t j a l }

-- Boosts agree.
pub boost_agree : (v w : Trace) (n k : ℕ) (p : Phase) → AgreeBefore v w n → boost_in v k p ≡ boost_in w k p
boost_agree v w n k p a = go p where
  go : (p : Phase) → boost_in v k p ≡ boost_in w k p
  go Local = ap (λ (set : SetDef). length set.tasks) a.set
  go Finished = ap (λ (set : SetDef). length set.tasks) a.set
  go (Asking m q) = ap (λ (set : SetDef). unwrap_or (remote_ceiling_of set q k) (length set.tasks)) a.set

-- The order of MPCP agrees.
pub mpcp_agree : (v w : Trace) (n t : ℕ) → AgreeBefore v w n → t ≤ n → RanksAgree mpcp v w t
unfolding mpcp
mpcp_agree v w n t a l = record {
  grant = λ j. task_agree v w n j a;
  run = λ j. boost_agree v w n (processor_of v j) (phase_of v t j) a ∙ ap (λ k. boost_in w k (phase_of v t j)) (processor_agree v w n j a)
      ∙ ap (boost_in w (processor_of w j)) (phase_agree v w n t j a l);
}

-- Each rule, from one schedule to the other.
pub run_agree : (v w : Trace) (n t : ℕ) → AgreeBefore v w n → t < n → KeepsRun v t → KeepsRun w t
run_agree v w n t a l run = record {
  ready = λ k j e. sym (ready_agree v w n t j a l) ∙ run.ready k j (running_agree v w n t k a l ∙ e);
  column = λ k j e. run.column k j (running_agree v w n t k a l ∙ e) ∙ processor_agree v w n j a;
}

pub keep_agree : (v w : Trace) (n t : ℕ) → AgreeBefore v w n → t < n → KeepsKeep v t → KeepsKeep w t
keep_agree v w n t a l keep q j e r =
    sym (holder_agree v w n t q a l)
    ∙ keep q j (held_before_agree v w n t q a (omega arith) ∙ e) (requester_agree v w n t q j a (omega arith) ∙ r)

pub grant_agree : (o : Ranks) (v w : Trace) (n t : ℕ) → AgreeBefore v w n → t < n → RanksAgree o v w t → KeepsGrant o v t → KeepsGrant o w t
grant_agree o v w n t a l ranks grant = record {
  requests = λ q j e. sym (requester_agree v w n t q j a early) ∙ grant.requests q j (holder_agree v w n t q a l ∙ e);
  first = λ q j e new i b r. first q j e new i b r;
  free = λ q e i b. sym (requester_agree v w n t q i a early) ∙ grant.free q (holder_agree v w n t q a l ∙ e) i (listed_back v w n i a b);
} where
  early : t ≤ n
  early = omega arith

  first : (q j : ℕ) → holder_in (w.row t) q ≡ Some j → (held_before w t q ≡ Some j → ⊥) → (i : ℕ) → i < length w.jobs
      → is_requester w t q i ≡ true → o.grant w t j ≤ o.grant w t i
  first q j e new i b r =
      let order : o.grant v t j ≤ o.grant v t i =
      grant.first q j (holder_agree v w n t q a l ∙ e) (λ x. new (sym (held_before_agree v w n t q a early) ∙ x)) i
      (listed_back v w n i a b) (requester_agree v w n t q i a early ∙ r) in
      omega (arith, order, ranks.grant i, ranks.grant j)

pub idle_agree : (v w : Trace) (n t : ℕ) → AgreeBefore v w n → t < n → KeepsIdle v t → KeepsIdle w t
idle_agree v w n t a l idle k e i b c = sym (ready_agree v w n t i a l)
    ∙ idle k (running_agree v w n t k a l ∙ e) i (listed_back v w n i a b) (processor_agree v w n i a ∙ c)

pub priority_agree : (o : Ranks) (v w : Trace) (n t : ℕ) → AgreeBefore v w n → t < n → RanksAgree o v w t
    → KeepsPriority o v t → KeepsPriority o w t
priority_agree o v w n t a l ranks priority = record {
  holders = λ k r e i b c h. holders k r e i b c h;
  locals = λ k r e none i b c h. locals k r e none i b c h;
} where
  holders : (k r : ℕ) → running_on (w.row t) k ≡ Some r → (i : ℕ) → i < length w.jobs → processor_of w i ≡ k
      → is_ready_holder w t i ≡ true → (is_ready_holder w t r ≡ true) × (o.run w t r ≤ o.run w t i)
  holders k r e i b c h =
      let both : (is_ready_holder v t r ≡ true) × (o.run v t r ≤ o.run v t i) =
      priority.holders k r (running_agree v w n t k a l ∙ e) i (listed_back v w n i a b) (processor_agree v w n i a ∙ c)
      (ready_holder_agree v w n t i a l ∙ h) in
      let order : o.run v t r ≤ o.run v t i = both.1 in
      (sym (ready_holder_agree v w n t r a l) ∙ both.0, omega (arith, order, ranks.run r, ranks.run i))

  locals : (k r : ℕ) → running_on (w.row t) k ≡ Some r
      → ((i : ℕ) → i < length w.jobs → processor_of w i ≡ k → is_ready_holder w t i ≡ false)
      → (i : ℕ) → i < length w.jobs → processor_of w i ≡ k → is_active_local w t i ≡ true → task_of w r ≤ task_of w i
  locals k r e none i b c h =
      let order : task_of v r ≤ task_of v i = priority.locals k r (running_agree v w n t k a l ∙ e)
      (λ x d f. ready_holder_agree v w n t x a l ∙ none x (omega (arith, d, listed_agree v w n a)) (sym (processor_agree v w n x a) ∙ f))
      i (listed_back v w n i a b) (processor_agree v w n i a ∙ c) (active_local_agree v w n t i a (omega arith) ∙ h) in
      omega (arith, order, task_agree v w n r a, task_agree v w n i a)

-- A row keeps the rules in one schedule where it does in the other.
pub shared_row_agree : (o : Ranks) (v w : Trace) (n t : ℕ) → AgreeBefore v w n → t < n → RanksAgree o v w t → (r : Rule)
    → shared_rule o r v t → shared_rule o r w t
shared_row_agree o v w n t a l ranks rule.Run h = run_agree v w n t a l h
shared_row_agree o v w n t a l ranks rule.Keep h = keep_agree v w n t a l h
shared_row_agree o v w n t a l ranks rule.Grant h = grant_agree o v w n t a l ranks h
shared_row_agree o v w n t a l ranks rule.Idle h = idle_agree v w n t a l h
shared_row_agree o v w n t a l ranks rule.Priority h = priority_agree o v w n t a l ranks h

-- The sizes of a row agree.
pub sized_agree : (v w : Trace) (n t : ℕ) → AgreeBefore v w n → t < n → IsSized v.set (v.row t) → IsSized w.set (w.row t)
sized_agree v w n t a l sized = record {
  processors = sym (ap (λ (row : RowDef). length row.running) (a.rows t l)) ∙ sized.processors ∙ ap (λ set. set.processors) a.set;
  resources = sym (ap (λ (row : RowDef). length row.holders) (a.rows t l)) ∙ sized.resources
      ∙ ap (λ (set : SetDef). length set.resources) a.set;
}

-- A row is the chosen one in one schedule where it is in the other.
pub shared_choice_agree : (o : Ranks) (v w : Trace) (n t : ℕ) → AgreeBefore v w n → t < n → RanksAgree o v w t
    → IsSharedChoice o v t → IsSharedChoice o w t
shared_choice_agree o v w n t a l ranks chosen = record {
  sized = sized_agree v w n t a l chosen.sized;
  keeps = λ r. shared_row_agree o v w n t a l ranks r (chosen.keeps r);
  grants = λ q j e new i b r same. grants q j e new i b r same;
  runs = λ k r e h i b c g same. runs k r e h i b c g same;
} where
  grants : (q j : ℕ) → holder_in (w.row t) q ≡ Some j → (held_before w t q ≡ Some j → ⊥) → (i : ℕ) → i < length w.jobs
      → is_requester w t q i ≡ true → o.grant w t i ≡ o.grant w t j → task_of w j ≤ task_of w i
  grants q j e new i b r same =
      let order : task_of v j ≤ task_of v i = chosen.grants q j (holder_agree v w n t q a l ∙ e)
      (λ x. new (sym (held_before_agree v w n t q a (omega arith)) ∙ x)) i (listed_back v w n i a b)
      (requester_agree v w n t q i a (omega arith) ∙ r) (ranks.grant i ∙ same ∙ sym (ranks.grant j)) in
      omega (arith, order, task_agree v w n j a, task_agree v w n i a)

  runs : (k r : ℕ) → running_on (w.row t) k ≡ Some r → is_ready_holder w t r ≡ true → (i : ℕ) → i < length w.jobs
      → processor_of w i ≡ k → is_ready_holder w t i ≡ true → o.run w t i ≡ o.run w t r → task_of w r ≤ task_of w i
  runs k r e h i b c g same =
      let order : task_of v r ≤ task_of v i = chosen.runs k r (running_agree v w n t k a l ∙ e)
      (ready_holder_agree v w n t r a l ∙ h) i (listed_back v w n i a b) (processor_agree v w n i a ∙ c)
      (ready_holder_agree v w n t i a l ∙ g) (ranks.run i ∙ same ∙ sym (ranks.run r)) in
      omega (arith, order, task_agree v w n r a, task_agree v w n i a)

-- So under MPCP and FMLP+.
pub mpcp_rules_read : RulesReadUpTo (shared_rule mpcp)
mpcp_rules_read r v w n t a l h = shared_row_agree mpcp v w n t a l (mpcp_agree v w n t a (omega arith)) r h

pub fmlp_plus_rules_read : RulesReadUpTo (shared_rule fmlp_plus)
fmlp_plus_rules_read r v w n t a l h = shared_row_agree fmlp_plus v w n t a l (fmlp_plus_agree v w n t a (omega arith)) r h

-- And so the chosen row.
pub mpcp_choice_reads : ChoiceReadsUpTo (IsSharedChoice mpcp)
mpcp_choice_reads v w n t a l chosen = shared_choice_agree mpcp v w n t a l (mpcp_agree v w n t a (omega arith)) chosen

pub fmlp_plus_choice_reads : ChoiceReadsUpTo (IsSharedChoice fmlp_plus)
fmlp_plus_choice_reads v w n t a l chosen = shared_choice_agree fmlp_plus v w n t a l (fmlp_plus_agree v w n t a (omega arith)) chosen
