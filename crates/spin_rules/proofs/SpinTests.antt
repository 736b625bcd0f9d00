-- Idle and Priority as tests that compute, for the worked example: where the test passes, the rule is kept.
use Rattle.std.proofs.Common.{◌≡◌, ℕ, ◌<◌, ◌≤◌, ◌==◌, ◌&&◌, ◌||◌, not, Bool, true, false, length, sym, ap, ◌∙◌, inl, inr}
use Rattle.std.proofs.Common.{Option, Some, is_some, leb}
use Rattle.std.specs.Option.{option_map_or}
use Rattle.std.proofs.lemmas.Bool.{both_ways, and_parts, or_cases, leb-true, eqb-true, false_from_ne_true}
use Rattle.number_laws.specs.Tests.{all_below, any_below}
use Rattle.number_laws.proofs.TestLaws.{all_below-each, any_below-some}
use Rattle.schedule_model.specs.declared.rule.Rule.{Rule}
use Rattle.schedule_model.specs.declared.rule.Rule.TheVariants as rule
use Rattle.schedule_model.specs.RowDef.{Trace, running_on}
use Rattle.schedule_model.specs.Activity.{task_of, processor_of, is_active_local, is_ready}
use Rattle.schedule_model.specs.Ranks.{fmlp_plus}
use Rattle.schedule_model.proofs.RuleTests.{then_true, or_other, passes_run, run_from, passes_keep, keep_from, passes_grant, grant_from, runner_passes}
use Rattle.spin_rules.specs.SpinRules.{is_in_request, has_spinner, KeepsIdle, KeepsPriority, spin_rule}

abbrev pub idle_at : Trace → ℕ → ℕ → Bool
idle_at w t i = not (is_ready w t i) || (is_some (running_on (w.row t) (processor_of w i)) || has_spinner w t (processor_of w i))

abbrev pub passes_idle : Trace → ℕ → Bool
passes_idle w t = all_below (length w.jobs) (idle_at w t)

pub idle_from : (w : Trace) (t : ℕ) → passes_idle w t ≡ true → KeepsIdle w t
idle_from w t h k empty none i l place = false_from_ne_true (is_ready w t i) (λ ready.
    let either : (is_some (running_on (w.row t) (processor_of w i)) || has_spinner w t (processor_of w i)) ≡ true =
    then_true (is_ready w t i) _ (all_below-each (length w.jobs) (idle_at w t) h i l) ready in
    let off : is_some (running_on (w.row t) (processor_of w i)) ≡ false =
    ap (λ c. is_some (running_on (w.row t) c)) place ∙ ap (λ (o : Option ℕ). is_some o) empty in
    both_ways (has_spinner w t k) none
    (ap (has_spinner w t) (sym place) ∙ or_other (is_some (running_on (w.row t) (processor_of w i))) _ either off))

-- Is a job of the processor's tasks in a request?
abbrev pub has_request : Trace → ℕ → ℕ → Bool
has_request w t k = any_below (length w.jobs) (λ x. (processor_of w x == k) && is_in_request w t x)

abbrev pub runs_rightly : Trace → ℕ → ℕ → ℕ → Bool
runs_rightly w t i r = (not (is_in_request w t i) || (r == i))
    && (not (is_active_local w t i) || (leb (task_of w r) (task_of w i) || has_request w t (processor_of w i)))

abbrev pub priority_at : Trace → ℕ → ℕ → Bool
priority_at w t i = option_map_or (runs_rightly w t i) (running_on (w.row t) (processor_of w i)) true

abbrev pub passes_priority : Trace → ℕ → Bool
passes_priority w t = all_below (length w.jobs) (priority_at w t)

pub priority_from : (w : Trace) (t : ℕ) → passes_priority w t ≡ true → KeepsPriority w t
priority_from w t h = record {
  requests = λ k r e i l place asks. eqb-true r i (then_true (is_in_request w t i) (r == i) (both k r e i l place).0 asks);
  locals = λ k r e none i l place local. locals k r e none i l place local;
} where
  both : (k r : ℕ) → running_on (w.row t) k ≡ Some r → (i : ℕ) → i < length w.jobs → processor_of w i ≡ k
      → ((not (is_in_request w t i) || (r == i)) ≡ true)
      × ((not (is_active_local w t i) || (leb (task_of w r) (task_of w i) || has_request w t (processor_of w i))) ≡ true)
  both k r e i l place = and_parts (not (is_in_request w t i) || (r == i))
      (not (is_active_local w t i) || (leb (task_of w r) (task_of w i) || has_request w t (processor_of w i)))
      (runner_passes (runs_rightly w t i) (running_on (w.row t) (processor_of w i)) r
      (all_below-each (length w.jobs) (priority_at w t) h i l) (ap (λ x. running_on (w.row t) x) place ∙ e))

  locals : (k r : ℕ) → running_on (w.row t) k ≡ Some r
      → ((i : ℕ) → i < length w.jobs → processor_of w i ≡ k → is_in_request w t i ≡ false) → (i : ℕ)
      → i < length w.jobs → processor_of w i ≡ k → is_active_local w t i ≡ true → task_of w r ≤ task_of w i
  locals k r e none i l place local =
      let either : (leb (task_of w r) (task_of w i) || has_request w t (processor_of w i)) ≡ true =
      then_true (is_active_local w t i) (leb (task_of w r) (task_of w i) || has_request w t (processor_of w i))
      (both k r e i l place).1 local in
      elim (or_cases (leb (task_of w r) (task_of w i)) (has_request w t (processor_of w i)) either) [
        | inl higher ↦ leb-true _ _ higher
        | inr some ↦
            let found = any_below-some (length w.jobs) (λ x. (processor_of w x == processor_of w i) && is_in_request w t x) some in
            let what : ((processor_of w found.0 == processor_of w i) ≡ true) × (is_in_request w t found.0 ≡ true) =
            and_parts (processor_of w found.0 == processor_of w i) (is_in_request w t found.0) found.2 in
            absurd (both_ways (is_in_request w t found.0) (none found.0 found.1 (eqb-true _ _ what.0 ∙ place)) what.1)
      ]

-- The five tests by the name of the rule.
abbrev pub passes_spin : Trace → ℕ → Rule → Bool
passes_spin w t rule.Run = passes_run w t
passes_spin w t rule.Keep = passes_keep w t
passes_spin w t rule.Grant = passes_grant fmlp_plus w t
passes_spin w t rule.Idle = passes_idle w t
passes_spin w t rule.Priority = passes_priority w t

pub spin_from : (w : Trace) (t : ℕ) (r : Rule) → passes_spin w t r ≡ true → spin_rule r w t
spin_from w t rule.Run h = run_from w t h
spin_from w t rule.Keep h = keep_from w t h
spin_from w t rule.Grant h = grant_from fmlp_plus w t h
spin_from w t rule.Idle h = idle_from w t h
spin_from w t rule.Priority h = priority_from w t h
