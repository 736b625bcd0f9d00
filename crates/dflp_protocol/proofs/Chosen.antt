-- What the holders and the running jobs are once all tasks have come makes the row the chosen one.
use Rattle.std.proofs.Common.{◌≡◌, ℕ, suc, ◌+◌, ◌≤◌, ◌&&◌, ◌||◌, not, true, false, length, refl, sym, ap, ◌∙◌}
use Rattle.std.proofs.Common.{inl, inr, Option, Some, None, subst, add-one}
use Rattle.std.specs.Prelude.{is_some}
use Rattle.std.proofs.lemmas.Bool.{cases_Bool, and_from, or_left, or_right, not_from_false, both_ways, eq-eqb, le-leb}
use Rattle.schedule_model.specs.declared.rule.Rule.{Rule}
use Rattle.schedule_model.specs.declared.rule.Rule.TheVariants as rule
use Rattle.schedule_model.specs.RowDef.{RowDef, running_on, holder_in, held_before}
use Rattle.schedule_model.specs.Phase.{Phase, is_local, phase_of}
use Rattle.schedule_model.specs.Phase.Phase.{Local, Asking, Finished}
use Rattle.schedule_model.specs.Activity.{task_of, is_active, is_requester, issue_tick_of, holds_by}
use Rattle.schedule_model.specs.SharedRules.{KeepsGrant}
use Rattle.schedule_model.specs.DpcpRules.{holds_at, KeepsRun}
use Rattle.schedule_model.specs.Ranks.{fmlp_plus}
use Rattle.schedule_model.specs.Chosen.{IsSized}
use Rattle.schedule_laws.proofs.ActiveJobs.{Requester, requester_is, requester_from, requester_listed}
use Rattle.schedule_laws.proofs.Rows.{named_job}
use Rattle.phase_machine.specs.MachineDef.{MachineDef, task_in, under}
use Rattle.phase_machine.specs.Now.{active_now}
use Rattle.phase_machine.specs.Shows.{Shows}
use Rattle.phase_machine.proofs.Facts.{active_back}
use Rattle.phase_machine.specs.Now.{is_local_now, holds_now, may_run_now}
use Rattle.shared_choosing.specs.Scene.{Scene, scene_in, scene_now, place_in, running_in}
use Rattle.shared_choosing.specs.Choosing.{Leads, Granted, Placed}
use Rattle.shared_rules.proofs.RunTest.{stands_from}
use Rattle.shared_rules.proofs.Currents.{task_below, each_from}
use Rattle.shared_choosing.proofs.Walks.{placed_same}
use Rattle.shared_choosing.proofs.Scenes.{scene_shown, running_same}
use Rattle.shared_choosing.proofs.Chosen.{IsSceneOf, granted_keep, granted_grant, grants_tie}
use Rattle.fmlp_rules.specs.IssueOrder.{issue_now}
use Rattle.fmlp_rules.specs.IssueOrderLaw.{issue_gives}
use Rattle.dpcp_rules.specs.Homes.{column_now}
use Rattle.dpcp_rules.specs.RowTests.{passes_run, idle_passes, passes_idle, is_no_later, goes_first, priority_passes, passes_priority}
use Rattle.dpcp_rules.proofs.RunTest.{run_is}
use Rattle.dpcp_rules.proofs.Shown.{HolderAt, holds_at_is, phase_is, column_is, unfinished}
use Rattle.dpcp_rules.proofs.ReadyTests.{idle_is, local_now, holds_of, column_of_request, priority_is}
use Rattle.dflp_laws.specs.Rules.{dflp_rule, IsDflpChoice}
use Rattle.dflp_protocol.proofs.Issues.{issues_give, issue_shown}

-- The scene of the grants, and the one where jobs run at homes.
abbrev pub grants_at : MachineDef → Scene
grants_at m = scene_now (issue_now m) (issue_now m) m

abbrev pub runs_at : MachineDef → Scene
runs_at m = scene_in (column_now m) (issue_now m) (issue_now m) m

-- What is made: the holders, and what runs.
pub record Made (m : MachineDef) (rows : ℕ → RowDef) : Type 0 where
  pub shows : Shows m rows
  pub holders : Granted (grants_at m) (length m.list.set.tasks) (holder_in (rows m.tick))
  pub running : Placed (runs_at m) (holder_in (rows m.tick)) (length m.list.set.tasks) (running_on (rows m.tick))

grants_scene : (m : MachineDef) (rows : ℕ → RowDef) → Shows m rows → IsSceneOf fmlp_plus (grants_at m) (under m rows) m.tick
grants_scene m rows shows = scene_shown fmlp_plus issue_now issue_now m rows issue_gives shows

-- Run, by its test.
run_passes : (m : MachineDef) (rows : ℕ → RowDef) → Made m rows → passes_run m (rows m.tick) ≡ true
run_passes m rows made = stands_from m (column_now m) (rows m.tick) (λ c j e.
    and_from (active_now m j) _ (made.running.active (suc c) j e)
    (and_from (may_run_now m (holder_in (rows m.tick)) j) _ (made.running.ready (suc c) j e)
    (eq-eqb (column_now m j) (c + 1) (made.running.column (suc c) j e ∙ sym (add-one c)))))

-- Where a request is at a processor, a holder there may run.
record HolderNow (m : MachineDef) (rows : ℕ → RowDef) (k : ℕ) : Type 0 where
  job : ℕ
  active : is_active (under m rows) m.tick job ≡ true
  column : column_now m job ≡ k
  holds : holds_now m (holder_in (rows m.tick)) job ≡ true

holder_there : (m : MachineDef) (rows : ℕ → RowDef) (j n q : ℕ) → Made m rows → is_active (under m rows) m.tick j ≡ true
    → phase_of (under m rows) m.tick j ≡ Asking n q → HolderNow m rows (column_now m j)
holder_there m rows j n q made a e = go (holder_in (rows m.tick) q) refl where
  grant : KeepsGrant fmlp_plus (under m rows) m.tick
  grant = granted_grant fmlp_plus (grants_at m) (under m rows) m.tick (grants_scene m rows made.shows) made.holders

  asks : is_requester (under m rows) m.tick q j ≡ true
  asks = requester_from (under m rows) m.tick q j n a e

  go : (o : Option ℕ) → holder_in (rows m.tick) q ≡ o → HolderNow m rows (column_now m j)
  go None f = absurd (both_ways (is_requester (under m rows) m.tick q j)
      (grant.free q f j (requester_listed (under m rows) m.tick q j asks)) asks)
  go (Some y) f =
      let r : Requester (under m rows) m.tick q y = requester_is (under m rows) m.tick q y (grant.requests q y f) in
      record {
        job = y;
        active = r.active;
        column = column_is m rows y (Asking r.number q) made.shows r.active r.phase ∙ sym (column_is m rows j (Asking n q) made.shows a e);
        holds = ap (holds_by (holder_in (rows m.tick)) y) (phase_is m rows y (Asking r.number q) made.shows r.active r.phase)
            ∙ named_job y (holder_in (rows m.tick) q) f;
      }

-- Something runs where an active job would.
busy : (m : MachineDef) (rows : ℕ → RowDef) (j : ℕ) (p : Phase) → Made m rows → is_active (under m rows) m.tick j ≡ true
    → phase_of (under m rows) m.tick j ≡ p → running_on (rows m.tick) (column_now m j) ≡ None → ⊥
busy m rows j Finished made a e none = unfinished (under m rows) m.tick j a e
busy m rows j Local made a e none =
    both_ways (may_run_now m (holder_in (rows m.tick)) j)
    (made.running.busy (column_now m j) none j (active_back m rows j made.shows a) (task_below m rows j made.shows a) refl)
    (or_left (is_local_now m j) (holds_now m (holder_in (rows m.tick)) j) (local_now m rows j Local made.shows a e))
busy m rows j (Asking n q) made a e none =
    let h : HolderNow m rows (column_now m j) = holder_there m rows j n q made a e in
    both_ways (may_run_now m (holder_in (rows m.tick)) h.job)
    (made.running.busy (column_now m j) none h.job (active_back m rows h.job made.shows h.active) (task_below m rows h.job made.shows h.active)
    h.column)
    (or_right (is_local_now m h.job) (holds_now m (holder_in (rows m.tick)) h.job) h.holds)

idle_passes_made : (m : MachineDef) (rows : ℕ → RowDef) → Made m rows → passes_idle m (rows m.tick) ≡ true
unfolding passes_idle
idle_passes_made m rows made = each_from m rows (idle_passes m (rows m.tick)) made.shows
    (λ j a. at_job j a (running_on (rows m.tick) (column_now m j)) refl)
  where
    at_job : (j : ℕ) → is_active (under m rows) m.tick j ≡ true → (o : Option ℕ) → running_on (rows m.tick) (column_now m j) ≡ o
        → idle_passes m (rows m.tick) j ≡ true
    at_job j a None e = absurd (busy m rows j (phase_of (under m rows) m.tick j) made a refl e)
    at_job j a (Some r) e = ap is_some e

-- Who holds isn't Local.
holds_not_local : (held : ℕ → Option ℕ) (j : ℕ) (p : Phase) → holds_by held j p ≡ true → is_local p ≡ false
holds_not_local held j Local h = absurd (cc)
holds_not_local held j Finished h = absurd (cc)
holds_not_local held j (Asking n q) h = refl

priority_passes_made : (m : MachineDef) (rows : ℕ → RowDef) → Made m rows → passes_priority m (issue_now m) (rows m.tick) ≡ true
unfolding passes_priority
priority_passes_made m rows made = each_from m rows (priority_passes m (issue_now m) (rows m.tick)) made.shows
    (λ j a. at_job j a (phase_of (under m rows) m.tick j) refl (running_on (rows m.tick) (column_now m j)) refl)
  where
    local_case : (j r : ℕ) → is_active (under m rows) m.tick j ≡ true → phase_of (under m rows) m.tick j ≡ Local
        → running_on (rows m.tick) (column_now m j) ≡ Some r → (not (is_local_now m r) || is_no_later (task_in m.list.jobs) r j) ≡ true
    local_case j r a f e = elim (cases_Bool (holds_now m (holder_in (rows m.tick)) r)) [
      | inl holds ↦ or_left (not (is_local_now m r)) (is_no_later (task_in m.list.jobs) r j)
          (not_from_false (is_local_now m r) (holds_not_local (holder_in (rows m.tick)) r _ holds))
      | inr free ↦ or_right (not (is_local_now m r)) (is_no_later (task_in m.list.jobs) r j)
          (le-leb (task_in m.list.jobs r) (task_in m.list.jobs j)
          (made.running.locals (column_now m j) r e free j (active_back m rows j made.shows a) (task_below m rows j made.shows a) refl
          (local_now m rows j Local made.shows a f)))
    ]

    request_case : (j r n q : ℕ) → is_active (under m rows) m.tick j ≡ true → phase_of (under m rows) m.tick j ≡ Asking n q
        → running_on (rows m.tick) (column_now m j) ≡ Some r → (holds_now m (holder_in (rows m.tick)) r
        && (not (holds_now m (holder_in (rows m.tick)) j) || is_no_later (issue_now m) r j)) ≡ true
    request_case j r n q a f e = and_from (holds_now m (holder_in (rows m.tick)) r) _ runner.0
        (elim (cases_Bool (holds_now m (holder_in (rows m.tick)) j)) [
          | inr fails ↦ or_left (not (holds_now m (holder_in (rows m.tick)) j)) (is_no_later (issue_now m) r j)
              (not_from_false (holds_now m (holder_in (rows m.tick)) j) fails)
          | inl truly ↦ or_right (not (holds_now m (holder_in (rows m.tick)) j)) (is_no_later (issue_now m) r j)
              (le-leb (issue_now m r) (issue_now m j) (leads truly))
        ]) where
          h : HolderNow m rows (column_now m j)
          h = holder_there m rows j n q made a f

          runner : (holds_now m (holder_in (rows m.tick)) r ≡ true) × Leads (issue_now m) (task_in m.list.jobs) r h.job
          runner = made.running.holders (column_now m j) r e h.job (active_back m rows h.job made.shows h.active)
              (task_below m rows h.job made.shows h.active) h.column h.holds

          leads : holds_now m (holder_in (rows m.tick)) j ≡ true → issue_now m r ≤ issue_now m j
          leads truly =
              let both : (holds_now m (holder_in (rows m.tick)) r ≡ true) × Leads (issue_now m) (task_in m.list.jobs) r j =
              made.running.holders (column_now m j) r e j (active_back m rows j made.shows a) (task_below m rows j made.shows a) refl truly in
              let l : Leads (issue_now m) (task_in m.list.jobs) r j = both.1 in
              l.first

    at_job : (j : ℕ) → is_active (under m rows) m.tick j ≡ true → (p : Phase) → phase_of (under m rows) m.tick j ≡ p
        → (o : Option ℕ) → running_on (rows m.tick) (column_now m j) ≡ o → priority_passes m (issue_now m) (rows m.tick) j ≡ true
    at_job j a p f None e = absurd (busy m rows j p made a f e)
    at_job j a Finished f (Some r) e = absurd (unfinished (under m rows) m.tick j a f)
    at_job j a Local f (Some r) e =
        ap (goes_first m (issue_now m) (rows m.tick) j) e ∙ rw (local_now m rows j Local made.shows a f) (local_case j r a f e)
    at_job j a (Asking n q) f (Some r) e =
        ap (goes_first m (issue_now m) (rows m.tick) j) e ∙ rw (local_now m rows j (Asking n q) made.shows a f) (request_case j r n q a f e)

-- Of the holders there that were issued at one tick the one of the highest task runs.
runs_tie : (m : MachineDef) (rows : ℕ → RowDef) (k r i : ℕ) → Made m rows → running_on (rows m.tick) k ≡ Some r
    → holds_at (under m rows) m.tick k r ≡ true → holds_at (under m rows) m.tick k i ≡ true
    → issue_tick_of (under m rows) m.tick i ≡ issue_tick_of (under m rows) m.tick r → task_of (under m rows) r ≤ task_of (under m rows) i
runs_tie m rows k r i made e hr hi same =
    let mine : HolderAt (under m rows) m.tick k r = holds_at_is (under m rows) m.tick k r hr in
    let other : HolderAt (under m rows) m.tick k i = holds_at_is (under m rows) m.tick k i hi in
    let both : (holds_now m (holder_in (rows m.tick)) r ≡ true) × Leads (issue_now m) (task_in m.list.jobs) r i =
    made.running.holders k r e i (active_back m rows i made.shows other.request.active) (task_below m rows i made.shows other.request.active)
    (column_of_request m rows k i made.shows other.request) (holds_of m rows k i made.shows other) in
    let leads : Leads (issue_now m) (task_in m.list.jobs) r i = both.1 in
    leads.tie (issue_shown m rows k i made.shows other.request ∙ same ∙ sym (issue_shown m rows k r made.shows mine.request))

issue_tie : (m : MachineDef) (rows : ℕ → RowDef) (q j i : ℕ) → Made m rows → holder_in (rows m.tick) q ≡ Some j
    → (held_before (under m rows) m.tick q ≡ Some j → ⊥) → is_requester (under m rows) m.tick q i ≡ true
    → issue_tick_of (under m rows) m.tick i ≡ issue_tick_of (under m rows) m.tick j → task_of (under m rows) j ≤ task_of (under m rows) i
unfolding fmlp_plus
issue_tie m rows q j i made e new asks same =
    grants_tie fmlp_plus (grants_at m) (under m rows) m.tick q j i (grants_scene m rows made.shows) made.holders e new asks same

pub chosen_from : (m : MachineDef) (rows : ℕ → RowDef) → Made m rows → IsSized m.list.set (rows m.tick)
    → IsDflpChoice (under m rows) m.tick
chosen_from m rows made sized = record {
  sized = sized;
  keeps = λ r. keeps r;
  grants = λ q j e new i l asks same. issue_tie m rows q j i made e new asks same;
  runs = λ k r e hr i l hi same. runs_tie m rows k r i made e hr hi same;
} where
  scene : IsSceneOf fmlp_plus (grants_at m) (under m rows) m.tick
  scene = grants_scene m rows made.shows

  run : KeepsRun (under m rows) m.tick
  run = run_is m rows made.shows (run_passes m rows made)

  keeps : (r : Rule) → dflp_rule r (under m rows) m.tick
  keeps rule.Run = run
  keeps rule.Keep = granted_keep fmlp_plus (grants_at m) (under m rows) m.tick scene made.holders
  keeps rule.Grant = granted_grant fmlp_plus (grants_at m) (under m rows) m.tick scene made.holders
  keeps rule.Idle = idle_is m rows made.shows (idle_passes_made m rows made)
  keeps rule.Priority =
      priority_is issue_tick_of issue_now m rows issues_give made.shows run (priority_passes_made m rows made)

-- The row that the walks end with is the chosen one.
pub choice_made : (m : MachineDef) (rows : ℕ → RowDef) (row : RowDef) → Shows m rows → rows m.tick ≡ row → IsSized m.list.set row
    → Granted (grants_at m) (length m.list.set.tasks) (place_in row.holders)
    → Placed (runs_at m) (place_in row.holders) (length m.list.set.tasks) (running_in row.running)
    → IsDflpChoice (under m rows) m.tick
choice_made m rows row shows e sized g p =
    chosen_from m rows
    (record {
      shows = shows;
      holders = subst (λ r. Granted (grants_at m) (length m.list.set.tasks) (holder_in r)) (sym e) g;
      running = subst (λ r. Placed (runs_at m) (holder_in r) (length m.list.set.tasks) (running_on r)) (sym e)
          (placed_same (runs_at m) (place_in row.holders) (length m.list.set.tasks) (running_in row.running) (running_on row) p
          (running_same row));
    })
    (subst (λ r. IsSized m.list.set r) (sym e) sized)
