-- What the holders and the running jobs are once all tasks have come makes the row the chosen one.
use Rattle.std.proofs.Common.{◌≡◌, ℕ, ◌<◌, ◌≤◌, true, false, refl, sym, ap, ◌∙◌, arith, Some}
use Rattle.std.proofs.lemmas.Bool.{both_ways, false_from_ne_true}
use Rattle.schedule_model.specs.declared.rule.Rule.{Rule}
use Rattle.schedule_model.specs.declared.rule.Rule.TheVariants as rule
use Rattle.schedule_model.specs.RowDef.{Trace, running_on, holder_in, held_before}
use Rattle.schedule_model.specs.Phase.{is_local, is_asking, phase_of}
use Rattle.schedule_model.specs.Activity.{task_of, processor_of, is_active, is_requester, is_active_local, is_ready_holder, is_ready}
use Rattle.schedule_model.specs.SharedRules.{Ranks, KeepsRun, KeepsKeep, KeepsGrant, KeepsIdle, KeepsPriority}
use Rattle.schedule_model.specs.Protocols.{shared_rule}
use Rattle.schedule_model.specs.Chosen.{IsSized, IsSharedChoice}
use Rattle.schedule_laws.proofs.ActiveJobs.{Requester, requester_is, requester_from, ActiveLocal, active_local_is}
use Rattle.schedule_laws.proofs.Rows.{ReadyHolder, ready_holder_is, ready_active, ready_listed}
use Rattle.phase_machine.proofs.Facts.{same_where_active}
use Rattle.shared_choosing.specs.Scene.{Scene, requests, holds, may_run}
use Rattle.shared_choosing.specs.Choosing.{Leads, Granted, Placed}

-- Is this the scene of a schedule at a tick, under an order of grants and runs?
pub record IsSceneOf (o : Ranks) (s : Scene) (w : Trace) (t : ℕ) : Type 0 where
  pub within : (j : ℕ) → is_active w t j ≡ true → s.task j < s.tasks
  pub actives : (j : ℕ) → s.active j ≡ is_active w t j
  pub own : (j : ℕ) → s.task j ≡ task_of w j
  pub column : (j : ℕ) → s.processor j ≡ processor_of w j
  pub doing : (j : ℕ) → is_active w t j ≡ true → s.phase j ≡ phase_of w t j
  pub held : (q : ℕ) → s.before q ≡ held_before w t q
  pub grants : (q j : ℕ) → is_requester w t q j ≡ true → s.grant j ≡ o.grant w t j
  pub runs : (q j : ℕ) → is_requester w t q j ≡ true → s.run j ≡ o.run w t j

pub requests_shown : (o : Ranks) (s : Scene) (w : Trace) (t q j : ℕ) → IsSceneOf o s w t → requests s q j ≡ is_requester w t q j
unfolding is_requester
requests_shown o s w t q j scene =
    same_where_active (s.active j) (is_active w t j) (is_asking q (s.phase j)) (is_asking q (phase_of w t j))
    (scene.actives j) (λ a. ap (is_asking q) (scene.doing j a))

pub holds_shown : (o : Ranks) (s : Scene) (w : Trace) (t j : ℕ) → IsSceneOf o s w t → is_active w t j ≡ true
    → holds s (holder_in (w.row t)) j ≡ is_ready_holder w t j
unfolding is_ready_holder
holds_shown o s w t j scene a = rw (a, scene.doing j a) refl

pub may_run_shown : (o : Ranks) (s : Scene) (w : Trace) (t j : ℕ) → IsSceneOf o s w t → is_active w t j ≡ true
    → may_run s (holder_in (w.row t)) j ≡ is_ready w t j
unfolding is_ready is_active_local
may_run_shown o s w t j scene a = rw (← holds_shown o s w t j scene a, a, scene.doing j a) refl

pub run_given : (o : Ranks) (s : Scene) (w : Trace) (t j : ℕ) → IsSceneOf o s w t → is_ready_holder w t j ≡ true → s.run j ≡ o.run w t j
run_given o s w t j scene h =
    let r : ReadyHolder w t j = ready_holder_is w t j h in
    scene.runs r.resource j (requester_from w t r.resource j r.number r.active r.phase)

pub asking_within : (o : Ranks) (s : Scene) (w : Trace) (t q i : ℕ) → IsSceneOf o s w t → is_requester w t q i ≡ true → s.task i < s.tasks
asking_within o s w t q i scene a = let r : Requester w t q i = requester_is w t q i a in scene.within i r.active

holder_leads : (o : Ranks) (s : Scene) (w : Trace) (t q j i : ℕ) → IsSceneOf o s w t
    → Granted s s.tasks (holder_in (w.row t)) → holder_in (w.row t) q ≡ Some j → (held_before w t q ≡ Some j → ⊥)
    → is_requester w t q i ≡ true → Leads s.grant s.task j i
holder_leads o s w t q j i scene g e new a =
    g.leads q j e (λ f. new (sym (scene.held q) ∙ f)) i (requests_shown o s w t q i scene ∙ a) (asking_within o s w t q i scene a)

pub holder_asks : (o : Ranks) (s : Scene) (w : Trace) (t q j : ℕ) → IsSceneOf o s w t
    → Granted s s.tasks (holder_in (w.row t)) → holder_in (w.row t) q ≡ Some j → is_requester w t q j ≡ true
holder_asks o s w t q j scene g e = sym (requests_shown o s w t q j scene) ∙ g.asks q j e

pub granted_keep : (o : Ranks) (s : Scene) (w : Trace) (t : ℕ) → IsSceneOf o s w t → Granted s s.tasks (holder_in (w.row t)) → KeepsKeep w t
granted_keep o s w t scene g q j e h = g.keeps q j (scene.held q ∙ e) (requests_shown o s w t q j scene ∙ h)

pub granted_grant : (o : Ranks) (s : Scene) (w : Trace) (t : ℕ) → IsSceneOf o s w t → Granted s s.tasks (holder_in (w.row t)) → KeepsGrant o w t
granted_grant o s w t scene g = record {
  requests = λ q j e. holder_asks o s w t q j scene g e;
  first = λ q j e new i l a. first q j i e new a;
  free = λ q e i l. false_from_ne_true (is_requester w t q i)
      (λ a. g.free q e i (requests_shown o s w t q i scene ∙ a) (asking_within o s w t q i scene a));
} where
  first : (q j i : ℕ) → holder_in (w.row t) q ≡ Some j → (held_before w t q ≡ Some j → ⊥) → is_requester w t q i ≡ true
      → o.grant w t j ≤ o.grant w t i
  first q j i e new a =
      let leads : Leads s.grant s.task j i = holder_leads o s w t q j i scene g e new a in
      omega (arith, leads.first, scene.grants q j (holder_asks o s w t q j scene g e), scene.grants q i a)

pub grants_tie : (o : Ranks) (s : Scene) (w : Trace) (t q j i : ℕ) → IsSceneOf o s w t
    → Granted s s.tasks (holder_in (w.row t)) → holder_in (w.row t) q ≡ Some j → (held_before w t q ≡ Some j → ⊥)
    → is_requester w t q i ≡ true → o.grant w t i ≡ o.grant w t j → task_of w j ≤ task_of w i
grants_tie o s w t q j i scene g e new a same =
    let leads : Leads s.grant s.task j i = holder_leads o s w t q j i scene g e new a in
    let tie : s.grant i ≡ s.grant j = scene.grants q i a ∙ same ∙ sym (scene.grants q j (holder_asks o s w t q j scene g e)) in
    omega (arith, leads.tie tie, scene.own j, scene.own i)

runs_active : (o : Ranks) (s : Scene) (w : Trace) (t k r : ℕ) → IsSceneOf o s w t
    → Placed s (holder_in (w.row t)) s.tasks (running_on (w.row t)) → running_on (w.row t) k ≡ Some r
    → is_active w t r ≡ true
runs_active o s w t k r scene p e = sym (scene.actives r) ∙ p.active k r e

placed_run : (o : Ranks) (s : Scene) (w : Trace) (t : ℕ) → IsSceneOf o s w t
    → Placed s (holder_in (w.row t)) s.tasks (running_on (w.row t)) → KeepsRun w t
placed_run o s w t scene p = record {
  ready = λ k r e. sym (may_run_shown o s w t r scene (runs_active o s w t k r scene p e)) ∙ p.ready k r e;
  column = λ k r e. sym (p.column k r e) ∙ scene.column r;
}

placed_idle : (o : Ranks) (s : Scene) (w : Trace) (t : ℕ) → IsSceneOf o s w t
    → Placed s (holder_in (w.row t)) s.tasks (running_on (w.row t)) → KeepsIdle w t
placed_idle o s w t scene p k e i l own = false_from_ne_true (is_ready w t i) (λ ready. none ready) where
  none : is_ready w t i ≡ true → ⊥
  none ready =
      let active : is_active w t i ≡ true = ready_active w t i ready in
      both_ways (may_run s (holder_in (w.row t)) i)
      (p.busy k e i (scene.actives i ∙ active) (scene.within i active) (scene.column i ∙ own))
      (may_run_shown o s w t i scene active ∙ ready)

runner_leads : (o : Ranks) (s : Scene) (w : Trace) (t k r i : ℕ) → IsSceneOf o s w t
    → Placed s (holder_in (w.row t)) s.tasks (running_on (w.row t)) → running_on (w.row t) k ≡ Some r
    → processor_of w i ≡ k → is_ready_holder w t i ≡ true → (holds s (holder_in (w.row t)) r ≡ true) × Leads s.run s.task r i
runner_leads o s w t k r i scene p e own hi =
    let h : ReadyHolder w t i = ready_holder_is w t i hi in
    p.holders k r e i (scene.actives i ∙ h.active) (scene.within i h.active) (scene.column i ∙ own)
    (holds_shown o s w t i scene h.active ∙ hi)

placed_priority : (o : Ranks) (s : Scene) (w : Trace) (t : ℕ) → IsSceneOf o s w t
    → Placed s (holder_in (w.row t)) s.tasks (running_on (w.row t)) → KeepsPriority o w t
placed_priority o s w t scene p = record {
  holders = λ k r e i l own hi. holders k r i e own hi;
  locals = λ k r e none i l own li. locals k r i e own (none r (ready_listed w t r (run.ready k r e)) (sym (run.column k r e))) li;
} where
  run : KeepsRun w t
  run = placed_run o s w t scene p

  holders : (k r i : ℕ) → running_on (w.row t) k ≡ Some r → processor_of w i ≡ k → is_ready_holder w t i ≡ true
      → (is_ready_holder w t r ≡ true) × (o.run w t r ≤ o.run w t i)
  holders k r i e own hi =
      let both : (holds s (holder_in (w.row t)) r ≡ true) × Leads s.run s.task r i = runner_leads o s w t k r i scene p e own hi in
      let leads : Leads s.run s.task r i = both.1 in
      let hr : is_ready_holder w t r ≡ true = sym (holds_shown o s w t r scene (runs_active o s w t k r scene p e)) ∙ both.0 in
      (hr, omega (arith, leads.first, run_given o s w t r scene hr, run_given o s w t i scene hi))

  locals : (k r i : ℕ) → running_on (w.row t) k ≡ Some r → processor_of w i ≡ k → is_ready_holder w t r ≡ false
      → is_active_local w t i ≡ true → task_of w r ≤ task_of w i
  locals k r i e own none li =
      let local : ActiveLocal w t i = active_local_is w t i li in
      let le : s.task r ≤ s.task i =
      p.locals k r e (holds_shown o s w t r scene (runs_active o s w t k r scene p e) ∙ none) i
      (scene.actives i ∙ local.active) (scene.within i local.active) (scene.column i ∙ own)
      (ap is_local (scene.doing i local.active ∙ local.phase)) in
      omega (arith, le, scene.own r, scene.own i)

runs_tie : (o : Ranks) (s : Scene) (w : Trace) (t k r i : ℕ) → IsSceneOf o s w t
    → Placed s (holder_in (w.row t)) s.tasks (running_on (w.row t)) → running_on (w.row t) k ≡ Some r
    → is_ready_holder w t r ≡ true → processor_of w i ≡ k → is_ready_holder w t i ≡ true → o.run w t i ≡ o.run w t r
    → task_of w r ≤ task_of w i
runs_tie o s w t k r i scene p e hr own hi same =
    let both : (holds s (holder_in (w.row t)) r ≡ true) × Leads s.run s.task r i = runner_leads o s w t k r i scene p e own hi in
    let leads : Leads s.run s.task r i = both.1 in
    let tie : s.run i ≡ s.run r = run_given o s w t i scene hi ∙ same ∙ sym (run_given o s w t r scene hr) in
    omega (arith, leads.tie tie, scene.own r, scene.own i)

pub chosen_from : (o : Ranks) (s : Scene) (w : Trace) (t : ℕ) → IsSceneOf o s w t → IsSized w.set (w.row t)
    → Granted s s.tasks (holder_in (w.row t))
    → Placed s (holder_in (w.row t)) s.tasks (running_on (w.row t)) → IsSharedChoice o w t
chosen_from o s w t scene sized g p = record {
  sized = sized;
  keeps = λ r. keeps r;
  grants = λ q j e new i l a same. grants_tie o s w t q j i scene g e new a same;
  runs = λ k r e hr i l own hi same. runs_tie o s w t k r i scene p e hr own hi same;
} where
  keeps : (r : Rule) → shared_rule o r w t
  keeps rule.Run = placed_run o s w t scene p
  keeps rule.Keep = granted_keep o s w t scene g
  keeps rule.Grant = granted_grant o s w t scene g
  keeps rule.Idle = placed_idle o s w t scene p
  keeps rule.Priority = placed_priority o s w t scene p
