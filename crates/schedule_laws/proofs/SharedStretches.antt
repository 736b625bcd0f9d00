-- A lawful row stays lawful through a steady stretch, under MPCP, FMLP+ and each other order of grants and runs. No holder is new after the
-- first tick, and the ready jobs stay the same.
use Rattle.std.proofs.Common.{◌≡◌, ℕ, ◌+◌, ◌<◌, ◌≤◌, true, length, refl, sym, ap, ◌∙◌, subst, arith, inl, inr, Some}
use Rattle.std.proofs.lemmas.Bool.{cases_lt}
use Rattle.schedule_model.specs.declared.rule.Rule.TheVariants as rule
use Rattle.schedule_model.specs.RowDef.{Trace, running_on}
use Rattle.schedule_model.specs.Phase.{phase_of}
use Rattle.schedule_model.specs.Phase.Phase.{Asking}
use Rattle.schedule_model.specs.Activity.{task_of, processor_of, is_ready_holder}
use Rattle.schedule_model.specs.BlockedTicks.{is_shared_interference}
use Rattle.schedule_model.specs.SharedRules.{Ranks, KeepsRun, KeepsKeep, KeepsGrant, KeepsIdle, KeepsPriority}
use Rattle.schedule_model.specs.Ranks.{boost_in, mpcp, fmlp_plus}
use Rattle.schedule_model.specs.Protocols.{shared_rule, EachSetSuits}
use Rattle.schedule_model.specs.Keeping.{KeepsRow}
use Rattle.schedule_model.specs.Chosen.{IsSized, IsSharedChoice}
use Rattle.schedule_laws.proofs.Issues.{issue_stays}
use Rattle.schedule_laws.proofs.Rows.{ReadyHolder, ready_holder_is}
use Rattle.schedule_laws.specs.Steady.{IsAsLawful, StaysLawful}
use Rattle.schedule_laws.proofs.Alike.{IsAlike, alike_through, requester_alike, active_local_alike, ready_holder_alike}
use Rattle.schedule_laws.proofs.Alike.{ready_alike, running_alike, holder_alike, shared_blocked_alike}

-- Does an order run a job that stays in its request by the same number?
abbrev pub RunsAlike : Ranks → Type 0
RunsAlike o = (w : Trace) (t u j m q : ℕ) → IsAlike w t u → phase_of w t j ≡ Asking m q → o.run w u j ≡ o.run w t j

-- FMLP+ does, for the request's issue tick stays.
pub fmlp_plus_runs_alike : RunsAlike fmlp_plus
unfolding fmlp_plus
fmlp_plus_runs_alike w t u j m q a e = sym (issue_stays w t u j m q q e (a.phase j ∙ e) a.later)

-- MPCP does, for its boost is one of the phase.
pub mpcp_runs_alike : RunsAlike mpcp
unfolding mpcp
mpcp_runs_alike w t u j m q a e = ap (boost_in w (processor_of w j)) (a.phase j)

pub run_of_holder : (o : Ranks) (w : Trace) (t u j : ℕ) → RunsAlike o → IsAlike w t u → is_ready_holder w t j ≡ true → o.run w u j ≡ o.run w t j
run_of_holder o w t u j ranks a h = let r : ReadyHolder w t j = ready_holder_is w t j h in ranks w t u j r.number r.resource a r.phase

-- Each rule.
pub run_again : (w : Trace) (t u : ℕ) → IsAlike w t u → KeepsRun w t → KeepsRun w u
run_again w t u a run = record {
  ready = λ k j e. ready_alike w t u j a ∙ run.ready k j (sym (running_alike w t u k a) ∙ e);
  column = λ k j e. run.column k j (sym (running_alike w t u k a) ∙ e);
}

pub keep_again : (w : Trace) (t u : ℕ) → IsAlike w t u → KeepsKeep w u
keep_again w t u a q j e asks = holder_alike w t u q a ∙ sym (a.held q) ∙ e

pub grant_again : (o : Ranks) (w : Trace) (t u : ℕ) → IsAlike w t u → KeepsGrant o w t → KeepsGrant o w u
grant_again o w t u a grant = record {
  requests = λ q j e. requester_alike w t u q j a ∙ grant.requests q j (sym (holder_alike w t u q a) ∙ e);
  first = λ q j e new i b r. absurd (new (a.held q ∙ sym (holder_alike w t u q a) ∙ e));
  free = λ q e i b. requester_alike w t u q i a ∙ grant.free q (sym (holder_alike w t u q a) ∙ e) i b;
}

pub idle_again : (w : Trace) (t u : ℕ) → IsAlike w t u → KeepsIdle w t → KeepsIdle w u
idle_again w t u a idle k e i b c = ready_alike w t u i a ∙ idle k (sym (running_alike w t u k a) ∙ e) i b c

pub priority_again : (o : Ranks) (w : Trace) (t u : ℕ) → RunsAlike o → IsAlike w t u → KeepsPriority o w t → KeepsPriority o w u
priority_again o w t u ranks a priority = record {
  holders = λ k r e i b c h. holders k r e i b c h;
  locals = λ k r e none i b c h. priority.locals k r (sym (running_alike w t u k a) ∙ e)
      (λ x d f. sym (ready_holder_alike w t u x a) ∙ none x d f) i b c
      (sym (active_local_alike w t u i a) ∙ h);
} where
  holders : (k r : ℕ) → running_on (w.row u) k ≡ Some r → (i : ℕ) → i < length w.jobs → processor_of w i ≡ k
      → is_ready_holder w u i ≡ true → (is_ready_holder w u r ≡ true) × (o.run w u r ≤ o.run w u i)
  holders k r e i b c h =
      let ready : is_ready_holder w t i ≡ true = sym (ready_holder_alike w t u i a) ∙ h in
      let both : (is_ready_holder w t r ≡ true) × (o.run w t r ≤ o.run w t i) =
      priority.holders k r (sym (running_alike w t u k a) ∙ e) i b c ready in (
        ready_holder_alike w t u r a ∙ both.0,
        omega (arith, both.1, run_of_holder o w t u r ranks a both.0, run_of_holder o w t u i ranks a ready),
      )

pub row_again : (o : Ranks) (w : Trace) (t u : ℕ) → RunsAlike o → IsAlike w t u → KeepsRow (shared_rule o) w t → KeepsRow (shared_rule o) w u
row_again o w t u ranks a keeps rule.Run = run_again w t u a (keeps rule.Run)
row_again o w t u ranks a keeps rule.Keep = keep_again w t u a
row_again o w t u ranks a keeps rule.Grant = grant_again o w t u a (keeps rule.Grant)
row_again o w t u ranks a keeps rule.Idle = idle_again w t u a (keeps rule.Idle)
row_again o w t u ranks a keeps rule.Priority = priority_again o w t u ranks a (keeps rule.Priority)

-- The sizes of the row.
pub sized_again : (w : Trace) (t u : ℕ) → IsAlike w t u → IsSized w.set (w.row t) → IsSized w.set (w.row u)
sized_again w t u a sized = subst (IsSized w.set) (sym a.row) sized

pub choice_again : (o : Ranks) (w : Trace) (t u : ℕ) → RunsAlike o → IsAlike w t u → IsSharedChoice o w t → IsSharedChoice o w u
choice_again o w t u ranks a chosen = record {
  sized = sized_again w t u a chosen.sized;
  keeps = row_again o w t u ranks a chosen.keeps;
  grants = λ q j e new i b r same. absurd (new (a.held q ∙ sym (holder_alike w t u q a) ∙ e));
  runs = λ k r e h i b c g same. runs k r e h i b c g same;
} where
  runs : (k r : ℕ) → running_on (w.row u) k ≡ Some r → is_ready_holder w u r ≡ true → (i : ℕ) → i < length w.jobs
      → processor_of w i ≡ k → is_ready_holder w u i ≡ true → o.run w u i ≡ o.run w u r → task_of w r ≤ task_of w i
  runs k r e h i b c g same =
      let ready : is_ready_holder w t r ≡ true = sym (ready_holder_alike w t u r a) ∙ h in
      let other : is_ready_holder w t i ≡ true = sym (ready_holder_alike w t u i a) ∙ g in
      chosen.runs k r (sym (running_alike w t u k a) ∙ e) ready i b c other
      (sym (run_of_holder o w t u i ranks a other) ∙ same ∙ run_of_holder o w t u r ranks a ready)

-- So under each order that runs a job in its request by the same number.
pub shared_stays_lawful : (o : Ranks) → RunsAlike o → StaysLawful EachSetSuits (shared_rule o) (IsSharedChoice o) is_shared_interference
shared_stays_lawful o ranks w t n suits lawful steady keeps i l = elim (cases_lt 0 i) [
  | inl some ↦
      let a : IsAlike w t (t + i) = alike_through w t n i steady some l in
      record {
        lawful = row_again o w t (t + i) ranks a keeps;
        blocked = λ j. shared_blocked_alike w t (t + i) j a;
        chosen = λ chosen. choice_again o w t (t + i) ranks a chosen;
      }
  | inr none ↦
      let here : t ≡ t + i = omega (arith, none) in
      subst (λ u. IsAsLawful (shared_rule o) (IsSharedChoice o) is_shared_interference w t u) here
      (record { lawful = keeps; blocked = λ j. refl; chosen = λ chosen. chosen })
]

pub mpcp_stays_lawful : StaysLawful EachSetSuits (shared_rule mpcp) (IsSharedChoice mpcp) is_shared_interference
mpcp_stays_lawful = shared_stays_lawful mpcp mpcp_runs_alike

pub fmlp_plus_stays_lawful : StaysLawful EachSetSuits (shared_rule fmlp_plus) (IsSharedChoice fmlp_plus) is_shared_interference
fmlp_plus_stays_lawful = shared_stays_lawful fmlp_plus fmlp_plus_runs_alike
