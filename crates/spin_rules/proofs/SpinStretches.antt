-- A lawful row stays lawful through a steady stretch. No holder is new after the first tick, and the same jobs are ready, in a request, and
-- spin.
use Rattle.std.proofs.Common.{◌≡◌, ℕ, ◌+◌, ◌==◌, ◌&&◌, length, refl, sym, ap, ◌∙◌, subst, arith, inl, inr}
use Rattle.std.proofs.lemmas.Bool.{cases_lt}
use Rattle.number_laws.proofs.TestLaws.{any_below-agree}
use Rattle.schedule_model.specs.declared.rule.Rule.TheVariants as rule
use Rattle.schedule_model.specs.RowDef.{Trace}
use Rattle.schedule_model.specs.Activity.{processor_of}
use Rattle.schedule_model.specs.BlockedTicks.{is_shared_interference}
use Rattle.schedule_model.specs.Ranks.{fmlp_plus}
use Rattle.schedule_model.specs.Protocols.{EachSetSuits}
use Rattle.schedule_model.specs.Keeping.{KeepsRow}
use Rattle.schedule_laws.specs.Steady.{IsAsLawful, StaysLawful}
use Rattle.schedule_laws.proofs.Alike.{IsAlike, alike_through, active_alike, active_local_alike, ready_alike, running_alike}
use Rattle.schedule_laws.proofs.Alike.{holder_alike, shared_blocked_alike}
use Rattle.schedule_laws.proofs.SharedStretches.{run_again, keep_again, grant_again, sized_again}
use Rattle.spin_rules.specs.SpinRules.{is_in_request, spins, has_spinner, KeepsIdle, KeepsPriority, spin_rule, IsSpinChoice}

pub in_request_alike : (w : Trace) (t u j : ℕ) → IsAlike w t u → is_in_request w u j ≡ is_in_request w t j
unfolding is_in_request
in_request_alike w t u j a = rw (active_alike w t u j a, a.phase j) refl

pub spins_alike : (w : Trace) (t u j : ℕ) → IsAlike w t u → spins w u j ≡ spins w t j
unfolding spins
spins_alike w t u j a = rw (in_request_alike w t u j a, a.phase j, a.row) refl

pub has_spinner_alike : (w : Trace) (t u k : ℕ) → IsAlike w t u → has_spinner w u k ≡ has_spinner w t k
unfolding has_spinner
has_spinner_alike w t u k a =
    any_below-agree (length w.jobs) (λ i. (processor_of w i == k) && spins w u i) (λ i. (processor_of w i == k) && spins w t i)
    (λ i b. ap (λ s. (processor_of w i == k) && s) (spins_alike w t u i a))

idle_again : (w : Trace) (t u : ℕ) → IsAlike w t u → KeepsIdle w t → KeepsIdle w u
idle_again w t u a idle k e none i b c = ready_alike w t u i a
    ∙ idle k (sym (running_alike w t u k a) ∙ e) (sym (has_spinner_alike w t u k a) ∙ none) i b c

priority_again : (w : Trace) (t u : ℕ) → IsAlike w t u → KeepsPriority w t → KeepsPriority w u
priority_again w t u a priority = record {
  requests = λ k r e i b c h. priority.requests k r (sym (running_alike w t u k a) ∙ e) i b c (sym (in_request_alike w t u i a) ∙ h);
  locals = λ k r e none i b c h. priority.locals k r (sym (running_alike w t u k a) ∙ e)
      (λ x d f. sym (in_request_alike w t u x a) ∙ none x d f) i b c
      (sym (active_local_alike w t u i a) ∙ h);
}

row_again : (w : Trace) (t u : ℕ) → IsAlike w t u → KeepsRow spin_rule w t → KeepsRow spin_rule w u
row_again w t u a keeps rule.Run = run_again w t u a (keeps rule.Run)
row_again w t u a keeps rule.Keep = keep_again w t u a
row_again w t u a keeps rule.Grant = grant_again fmlp_plus w t u a (keeps rule.Grant)
row_again w t u a keeps rule.Idle = idle_again w t u a (keeps rule.Idle)
row_again w t u a keeps rule.Priority = priority_again w t u a (keeps rule.Priority)

choice_again : (w : Trace) (t u : ℕ) → IsAlike w t u → IsSpinChoice w t → IsSpinChoice w u
choice_again w t u a chosen = record {
  sized = sized_again w t u a chosen.sized;
  keeps = row_again w t u a chosen.keeps;
  grants = λ q j e new i b r same. absurd (new (a.held q ∙ sym (holder_alike w t u q a) ∙ e));
}

-- So a row that keeps the rules at the first tick of a steady stretch is as lawful at each.
pub spin_stays_lawful : StaysLawful EachSetSuits spin_rule IsSpinChoice is_shared_interference
spin_stays_lawful w t n suits lawful steady keeps i l = elim (cases_lt 0 i) [
  | inl some ↦
      let a : IsAlike w t (t + i) = alike_through w t n i steady some l in
      record {
        lawful = row_again w t (t + i) a keeps;
        blocked = λ j. shared_blocked_alike w t (t + i) j a;
        chosen = λ chosen. choice_again w t (t + i) a chosen;
      }
  | inr none ↦
      let here : t ≡ t + i = omega (arith, none) in
      subst (λ u. IsAsLawful spin_rule IsSpinChoice is_shared_interference w t u) here
      (record { lawful = keeps; blocked = λ j. refl; chosen = λ chosen. chosen })
]
