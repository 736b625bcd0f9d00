-- A lawful row stays as lawful through a steady stretch: no holder is new after its first tick, and each request's issue tick stays.
use Rattle.std.proofs.Common.{◌≡◌, ℕ, ◌+◌, ◌<◌, ◌≤◌, true, length, refl, sym, ◌∙◌, subst, arith, inl, inr, Some}
use Rattle.std.proofs.lemmas.Bool.{cases_lt, and_parts}
use Rattle.sporadic_model.specs.Homes.{EachHasHome}
use Rattle.schedule_model.specs.declared.rule.Rule.TheVariants as rule
use Rattle.schedule_model.specs.RowDef.{Trace, running_on, holder_in}
use Rattle.schedule_model.specs.Phase.{phase_of}
use Rattle.schedule_model.specs.Phase.Phase.{Asking}
use Rattle.schedule_model.specs.Activity.{task_of, is_active, issue_tick_of, holds_by}
use Rattle.schedule_model.specs.BlockedTicks.{is_dpcp_interference}
use Rattle.schedule_model.specs.DpcpRules.{home_of, has_request_at, holds_at}
use Rattle.schedule_model.specs.Ranks.{fmlp_plus}
use Rattle.schedule_model.specs.Keeping.{KeepsRow}
use Rattle.schedule_laws.proofs.Issues.{issue_stays}
use Rattle.schedule_laws.specs.Steady.{IsAsLawful, StaysLawful}
use Rattle.schedule_laws.proofs.Alike.{IsAlike, alike_through, running_alike, holder_alike, dpcp_blocked_alike}
use Rattle.schedule_laws.proofs.SharedStretches.{keep_again, grant_again, sized_again}
use Rattle.schedule_laws.proofs.DpcpStretches.{holds_at_alike, run_again, idle_again, priority_again}
use Rattle.charge_laws.proofs.DpcpCharging.{request_at_is}
use Rattle.dflp_laws.specs.Rules.{dflp_rule, IsDflpChoice}

-- Who holds at a processor stays in a request, so its issue tick stays.
issue_alike : (w : Trace) (t u k j : ℕ) → IsAlike w t u → holds_at w t k j ≡ true → issue_tick_of w u j ≡ issue_tick_of w t j
unfolding holds_at
issue_alike w t u k j a h =
    let at : has_request_at w t k j ≡ true = (and_parts (has_request_at w t k j) (holds_by (holder_in (w.row t)) j (phase_of w t j)) h).0 in
    let is : (m : ℕ) × (q : ℕ) × (is_active w t j ≡ true) × (phase_of w t j ≡ Asking m q) × (home_of w q ≡ k) =
    request_at_is w t k j at in
    sym (issue_stays w t u j is.0 is.1 is.1 is.3 (a.phase j ∙ is.3) a.later)

row_again : (w : Trace) (t u : ℕ) → IsAlike w t u → KeepsRow dflp_rule w t → KeepsRow dflp_rule w u
row_again w t u a keeps rule.Run = run_again w t u a (keeps rule.Run)
row_again w t u a keeps rule.Keep = keep_again w t u a
row_again w t u a keeps rule.Grant = grant_again fmlp_plus w t u a (keeps rule.Grant)
row_again w t u a keeps rule.Idle = idle_again w t u a (keeps rule.Idle)
row_again w t u a keeps rule.Priority =
    priority_again issue_tick_of w t u a (λ k j h. issue_alike w t u k j a h) (keeps rule.Priority)

choice_again : (w : Trace) (t u : ℕ) → IsAlike w t u → IsDflpChoice w t → IsDflpChoice w u
choice_again w t u a chosen = record {
  sized = sized_again w t u a chosen.sized;
  keeps = row_again w t u a chosen.keeps;
  grants = λ q j e new i b asks same. absurd (new (a.held q ∙ sym (holder_alike w t u q a) ∙ e));
  runs = λ k r e h i b g same. runs k r e h i b g same;
} where
  runs : (k r : ℕ) → running_on (w.row u) k ≡ Some r → holds_at w u k r ≡ true → (i : ℕ) → i < length w.jobs
      → holds_at w u k i ≡ true → issue_tick_of w u i ≡ issue_tick_of w u r → task_of w r ≤ task_of w i
  runs k r e h i b g same =
      let first : holds_at w t k r ≡ true = sym (holds_at_alike w t u k r a) ∙ h in
      let other : holds_at w t k i ≡ true = sym (holds_at_alike w t u k i a) ∙ g in
      chosen.runs k r (sym (running_alike w t u k a) ∙ e) first i b other
      (sym (issue_alike w t u k i a other) ∙ same ∙ issue_alike w t u k r a first)

pub dflp_stays_lawful : StaysLawful EachHasHome dflp_rule IsDflpChoice is_dpcp_interference
dflp_stays_lawful w t n suits lawful steady keeps i l = elim (cases_lt 0 i) [
  | inl some ↦
      let a : IsAlike w t (t + i) = alike_through w t n i steady some l in
      record {
        lawful = row_again w t (t + i) a keeps;
        blocked = λ j. dpcp_blocked_alike w t (t + i) j a;
        chosen = λ chosen. choice_again w t (t + i) a chosen;
      }
  | inr none ↦
      let here : t ≡ t + i = omega (arith, none) in
      subst (λ u. IsAsLawful dflp_rule IsDflpChoice is_dpcp_interference w t u) here
      (record { lawful = keeps; blocked = λ j. refl; chosen = λ chosen. chosen })
]
