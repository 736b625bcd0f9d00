-- Whether a row keeps the rules depends on the rows up to it alone, and so whether it is the chosen one.
use Rattle.std.proofs.Common.{◌≡◌, ℕ, ◌<◌, ◌≤◌, true, length, sym, ◌∙◌, arith, Some}
use Rattle.schedule_model.specs.declared.rule.Rule.TheVariants as rule
use Rattle.schedule_model.specs.RowDef.{running_on, holder_in, held_before}
use Rattle.schedule_model.specs.Activity.{task_of, is_requester, issue_tick_of}
use Rattle.schedule_model.specs.DpcpRules.{holds_at}
use Rattle.schedule_model.specs.Ranks.{fmlp_plus}
use Rattle.schedule_laws.specs.Agreement.{RulesReadUpTo, ChoiceReadsUpTo}
use Rattle.schedule_laws.proofs.Agreement.{listed_back, task_agree, requester_agree}
use Rattle.schedule_laws.proofs.Agreement.{issue_agree, held_before_agree, running_agree, holder_agree}
use Rattle.schedule_laws.proofs.SharedAgreement.{fmlp_plus_agree, keep_agree, grant_agree, sized_agree}
use Rattle.schedule_laws.proofs.DpcpAgreement.{holds_at_agree, dpcp_run_agree, dpcp_idle_agree, home_priority_agree}
use Rattle.dflp_laws.specs.Rules.{dflp_rule, IsDflpChoice}

-- A row keeps a rule in one schedule where it does in the other.
pub dflp_rules_read : RulesReadUpTo dflp_rule
dflp_rules_read rule.Run v w n t a l h = dpcp_run_agree v w n t a l h
dflp_rules_read rule.Keep v w n t a l h = keep_agree v w n t a l h
dflp_rules_read rule.Grant v w n t a l h = grant_agree fmlp_plus v w n t a l (fmlp_plus_agree v w n t a (omega arith)) h
dflp_rules_read rule.Idle v w n t a l h = dpcp_idle_agree v w n t a l h
dflp_rules_read rule.Priority v w n t a l h =
    home_priority_agree issue_tick_of v w n t a l (λ j. issue_agree v w n t j a (omega arith)) h

-- And so the chosen row.
pub dflp_choice_reads : ChoiceReadsUpTo IsDflpChoice
dflp_choice_reads v w n t a l chosen = record {
  sized = sized_agree v w n t a l chosen.sized;
  keeps = λ r. dflp_rules_read r v w n t a l (chosen.keeps r);
  grants = λ q j e new i b asks same. grants q j e new i b asks same;
  runs = λ k r e h i b g same. runs k r e h i b g same;
} where
  issues : (j : ℕ) → issue_tick_of v t j ≡ issue_tick_of w t j
  issues j = issue_agree v w n t j a (omega arith)

  grants : (q j : ℕ) → holder_in (w.row t) q ≡ Some j → (held_before w t q ≡ Some j → ⊥) → (i : ℕ) → i < length w.jobs
      → is_requester w t q i ≡ true → issue_tick_of w t i ≡ issue_tick_of w t j → task_of w j ≤ task_of w i
  grants q j e new i b asks same =
      let order : task_of v j ≤ task_of v i =
      chosen.grants q j (holder_agree v w n t q a l ∙ e)
      (λ x. new (sym (held_before_agree v w n t q a (omega arith)) ∙ x)) i (listed_back v w n i a b)
      (requester_agree v w n t q i a (omega arith) ∙ asks) (issues i ∙ same ∙ sym (issues j)) in
      omega (arith, order, task_agree v w n j a, task_agree v w n i a)

  runs : (k r : ℕ) → running_on (w.row t) k ≡ Some r → holds_at w t k r ≡ true → (i : ℕ) → i < length w.jobs
      → holds_at w t k i ≡ true → issue_tick_of w t i ≡ issue_tick_of w t r → task_of w r ≤ task_of w i
  runs k r e h i b g same =
      let order : task_of v r ≤ task_of v i =
      chosen.runs k r (running_agree v w n t k a l ∙ e) (holds_at_agree v w n t k r a l ∙ h) i (listed_back v w n i a b)
      (holds_at_agree v w n t k i a l ∙ g) (issues i ∙ same ∙ sym (issues r)) in
      omega (arith, order, task_agree v w n r a, task_agree v w n i a)
