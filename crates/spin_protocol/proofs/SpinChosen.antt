-- What the holders and the running jobs are once all tasks have come makes the row the chosen one, after rows that keep the rules.
use Rattle.std.proofs.Common.{◌≡◌, ◌⊎◌, ℕ, ◌<◌, ◌≤◌, ◌&&◌, not, Bool, true, false, length, refl, sym, ap, subst, ◌∙◌, arith, inl, inr}
use Rattle.std.proofs.Common.{Option, Some, None, if◌then◌else◌}
use Rattle.std.proofs.lemmas.Bool.{cases_Bool, both_ways, and_parts, not-true, false_from_ne_true}
use Rattle.schedule_model.specs.declared.rule.Rule.{Rule}
use Rattle.schedule_model.specs.declared.rule.Rule.TheVariants as rule
use Rattle.schedule_model.specs.RowDef.{RowDef, running_on, holder_in}
use Rattle.schedule_model.specs.Phase.Phase.{Local, Asking}
use Rattle.schedule_model.specs.Activity.{task_of, processor_of, is_active_local, is_ready_holder, is_ready}
use Rattle.schedule_model.specs.SharedRules.{KeepsRun}
use Rattle.schedule_model.specs.Ranks.{fmlp_plus}
use Rattle.schedule_model.specs.Keeping.{KeepsBefore}
use Rattle.schedule_model.specs.Chosen.{IsSized}
use Rattle.schedule_laws.proofs.ActiveJobs.{ActiveLocal, active_local_is}
use Rattle.schedule_laws.proofs.Rows.{ReadyHolder, ready_holder_is, ready_is, ready_local, ready_holding}
use Rattle.phase_machine.specs.MachineDef.{MachineDef, under}
use Rattle.phase_machine.specs.Shows.{Shows}
use Rattle.phase_machine.proofs.Facts.{active_shown}
use Rattle.fmlp_rules.specs.IssueOrder.{issue_now}
use Rattle.fmlp_rules.specs.IssueOrderLaw.{issue_gives}
use Rattle.phase_machine.specs.Now.{processor_now, is_local_now, holds_now}
use Rattle.shared_choosing.specs.Scene.{Scene, scene_now, place_in, running_in}
use Rattle.shared_choosing.specs.Choosing.{Granted}
use Rattle.shared_choosing.specs.Filling.{Takes, FilledTwice, holder_claim}
use Rattle.shared_choosing.proofs.Chosen.{IsSceneOf, granted_keep, granted_grant, grants_tie}
use Rattle.shared_rules.proofs.Currents.{task_below, local_shown, holds_shown}
use Rattle.shared_choosing.proofs.Filling.{running_read}
use Rattle.shared_choosing.proofs.Scenes.{scene_shown, running_same}
use Rattle.spin_rules.specs.SpinRules.{is_in_request, has_spinner, KeepsIdle, KeepsPriority, spin_rule, IsSpinChoice}
use Rattle.spin_rules.proofs.InRequests.{InRequest, in_request_is, in_request_from, in_request_listed, spinner_from}
use Rattle.spin_rules.proofs.InRequests.{waiting_spins}
use Rattle.spin_rules.proofs.SpinFacts.{one_in_request}
use Rattle.spin_protocol.specs.SpinTests.{has_spinner_now}
use Rattle.spin_protocol.specs.SpinClaims.{calm_claim}
use Rattle.spin_protocol.proofs.SpinVerdict.{has_spinner_shown}

-- What is claimed where a test passes.
pub claims : (b : Bool) (k l : ℕ) → (if b then Some k else None) ≡ Some l → (b ≡ true) × (k ≡ l)
claims true k l e = (refl, cc)
claims false k l e = absurd (cc)

-- What is known of the row that was made.
record Made (m : MachineDef) (rows : ℕ → RowDef) : Type 0 where
  shows : Shows m rows
  keeps : KeepsBefore spin_rule (under m rows) m.tick
  granted : Granted (scene_now (issue_now m) (issue_now m) m) (length m.list.set.tasks) (holder_in (rows m.tick))
  placed : FilledTwice m (holder_claim m (processor_now m) (holder_in (rows m.tick))) (calm_claim m (holder_in (rows m.tick)))
      (running_on (rows m.tick))

-- A ready holder claims its processor, and a Local job does where no job spins there.
holder_claims : (m : MachineDef) (rows : ℕ → RowDef) (j : ℕ) → Shows m rows → is_ready_holder (under m rows) m.tick j ≡ true
    → holder_claim m (processor_now m) (holder_in (rows m.tick)) j ≡ Some (processor_of (under m rows) j)
holder_claims m rows j shows h =
    let a : ReadyHolder (under m rows) m.tick j = ready_holder_is (under m rows) m.tick j h in
    let holds : holds_now m (holder_in (rows m.tick)) j ≡ true = holds_shown m rows j shows a.active ∙ h in
    rw holds refl

local_claims : (m : MachineDef) (rows : ℕ → RowDef) (j : ℕ) → Shows m rows → is_active_local (under m rows) m.tick j ≡ true
    → has_spinner (under m rows) m.tick (processor_of (under m rows) j) ≡ false
    → calm_claim m (holder_in (rows m.tick)) j ≡ Some (processor_of (under m rows) j)
local_claims m rows j shows h none =
    let a : ActiveLocal (under m rows) m.tick j = active_local_is (under m rows) m.tick j h in
    let local : is_local_now m j ≡ true = local_shown m rows j shows a.active ∙ h in
    let calm : has_spinner_now m (holder_in (rows m.tick)) (processor_now m j) ≡ false =
    has_spinner_shown m rows (processor_now m j) shows ∙ none in
    rw (local, calm) refl

-- What runs is a holder, or a Local job of the highest task that has one, where no job spins and no holder is.
record RunsHolder (m : MachineDef) (rows : ℕ → RowDef) (k r : ℕ) : Type 0 where
  holds : is_ready_holder (under m rows) m.tick r ≡ true
  place : processor_of (under m rows) r ≡ k

record RunsLocal (m : MachineDef) (rows : ℕ → RowDef) (k r : ℕ) : Type 0 where
  local : is_active_local (under m rows) m.tick r ≡ true
  place : processor_of (under m rows) r ≡ k
  calm : has_spinner (under m rows) m.tick k ≡ false
  no_holder : (i : ℕ) → is_ready_holder (under m rows) m.tick i ≡ true → processor_of (under m rows) i ≡ k → ⊥
  first : (i : ℕ) → is_active_local (under m rows) m.tick i ≡ true → processor_of (under m rows) i ≡ k
      → task_of (under m rows) r ≤ task_of (under m rows) i

holder_taken : (m : MachineDef) (rows : ℕ → RowDef) (x k r : ℕ) → Shows m rows
    → Takes m (holder_claim m (processor_now m) (holder_in (rows m.tick))) x k r → RunsHolder m rows k r
holder_taken m rows x k r shows t =
    let parts : (holds_now m (holder_in (rows m.tick)) r ≡ true) × (processor_now m r ≡ k) =
    claims (holds_now m (holder_in (rows m.tick)) r) (processor_now m r) k t.claims in
    record {
      holds = sym (holds_shown m rows r shows (sym (active_shown m rows r shows) ∙ t.active)) ∙ parts.0;
      place = parts.1;
    }

-- Where a holder is on the processor, it is what runs there.
before_runs : (m : MachineDef) (rows : ℕ → RowDef) (k : ℕ) (made : Made m rows) (h : ℕ) → made.placed.before k ≡ Some h
    → running_on (rows m.tick) k ≡ Some h
before_runs m rows k made h e = let p = made.placed.locals in p.keeps k h e

some_before : (m : MachineDef) (rows : ℕ → RowDef) (k i : ℕ) (made : Made m rows) → is_ready_holder (under m rows) m.tick i ≡ true
    → processor_of (under m rows) i ≡ k → made.placed.before k ≡ None → ⊥
some_before m rows k i made h place e =
    let a : ReadyHolder (under m rows) m.tick i = ready_holder_is (under m rows) m.tick i h in
    let p = made.placed.holders in
    p.free k e i (active_shown m rows i made.shows ∙ a.active)
    (holder_claims m rows i made.shows h ∙ ap (λ l. Some l) place) (task_below m rows i made.shows a.active)

holder_before : (m : MachineDef) (rows : ℕ → RowDef) (k h : ℕ) (made : Made m rows) → made.placed.before k ≡ Some h → RunsHolder m rows k h
holder_before m rows k h made e = go (let p = made.placed.holders in p.from k h e) where
  go : (None ≡ Some h) ⊎ Takes m (holder_claim m (processor_now m) (holder_in (rows m.tick))) (length m.list.set.tasks) k h
      → RunsHolder m rows k h
  go (inl old) = absurd (cc)
  go (inr taken) = holder_taken m rows (length m.list.set.tasks) k h made.shows taken

local_taken : (m : MachineDef) (rows : ℕ → RowDef) (k r : ℕ) (made : Made m rows) → made.placed.before k ≡ None
    → Takes m (calm_claim m (holder_in (rows m.tick))) (length m.list.set.tasks) k r → RunsLocal m rows k r
local_taken m rows k r made none t = record {
  local = sym (local_shown m rows r made.shows (sym (active_shown m rows r made.shows) ∙ t.active)) ∙ both.0;
  place = parts.1;
  calm = calm;
  no_holder = λ i h place. some_before m rows k i made h place none;
  first = λ i li place. first i li place;
} where
  parts : ((is_local_now m r && not (has_spinner_now m (holder_in (rows m.tick)) (processor_now m r))) ≡ true) × (processor_now m r ≡ k)
  parts = claims (is_local_now m r && not (has_spinner_now m (holder_in (rows m.tick)) (processor_now m r))) (processor_now m r) k t.claims

  both : (is_local_now m r ≡ true) × (not (has_spinner_now m (holder_in (rows m.tick)) (processor_now m r)) ≡ true)
  both = and_parts _ _ parts.0

  calm : has_spinner (under m rows) m.tick k ≡ false
  calm = ap (has_spinner (under m rows) m.tick) (sym parts.1)
      ∙ sym (has_spinner_shown m rows (processor_now m r) made.shows) ∙ not-true _ both.1

  first : (i : ℕ) → is_active_local (under m rows) m.tick i ≡ true → processor_of (under m rows) i ≡ k
      → task_of (under m rows) r ≤ task_of (under m rows) i
  first i li place =
      let a : ActiveLocal (under m rows) m.tick i = active_local_is (under m rows) m.tick i li in
      t.first i (active_shown m rows i made.shows ∙ a.active)
      (local_claims m rows i made.shows li (ap (has_spinner (under m rows) m.tick) place ∙ calm) ∙ ap (λ l. Some l) place)
      (task_below m rows i made.shows a.active)

runs_as : (m : MachineDef) (rows : ℕ → RowDef) (k r : ℕ) (made : Made m rows) → running_on (rows m.tick) k ≡ Some r
    → RunsHolder m rows k r ⊎ RunsLocal m rows k r
runs_as m rows k r made e = go (made.placed.before k) refl where
  taken : made.placed.before k ≡ None
      → (made.placed.before k ≡ Some r) ⊎ Takes m (calm_claim m (holder_in (rows m.tick))) (length m.list.set.tasks) k r
      → RunsHolder m rows k r ⊎ RunsLocal m rows k r
  taken none (inl old) = inl (holder_before m rows k r made old)
  taken none (inr t) = inr (local_taken m rows k r made none t)

  go : (o : Option ℕ) → made.placed.before k ≡ o → RunsHolder m rows k r ⊎ RunsLocal m rows k r
  go (Some h) f =
      let x : Some h ≡ Some r = sym (before_runs m rows k made h f) ∙ e in
      let same : h ≡ r = cc in
      inl (subst (RunsHolder m rows k) same (holder_before m rows k h made f))
  go None f = taken f (let p = made.placed.locals in p.from k r e)

made_run : (m : MachineDef) (rows : ℕ → RowDef) → Made m rows → KeepsRun (under m rows) m.tick
made_run m rows made = record {
  ready = λ k r e. ready r k (runs_as m rows k r made e);
  column = λ k r e. column r k (runs_as m rows k r made e);
} where
  ready : (r k : ℕ) → RunsHolder m rows k r ⊎ RunsLocal m rows k r → is_ready (under m rows) m.tick r ≡ true
  ready r k (inl a) = ready_holding (under m rows) m.tick r a.holds
  ready r k (inr a) = ready_local (under m rows) m.tick r a.local

  column : (r k : ℕ) → RunsHolder m rows k r ⊎ RunsLocal m rows k r → k ≡ processor_of (under m rows) r
  column r k (inl a) = sym a.place
  column r k (inr a) = sym a.place

made_idle : (m : MachineDef) (rows : ℕ → RowDef) → Made m rows → KeepsIdle (under m rows) m.tick
made_idle m rows made k e none i l place = false_from_ne_true (is_ready (under m rows) m.tick i)
    (λ ready. no (ready_is (under m rows) m.tick i ready)) where
      empty : (o : Option ℕ) → made.placed.before k ≡ o → made.placed.before k ≡ None
      empty None f = f
      empty (Some h) f = let x : None ≡ Some h = sym e ∙ before_runs m rows k made h f in absurd (cc)

      no : (is_active_local (under m rows) m.tick i ≡ true) ⊎ (is_ready_holder (under m rows) m.tick i ≡ true) → ⊥
      no (inr h) = some_before m rows k i made h place (empty (made.placed.before k) refl)
      no (inl li) =
          let a : ActiveLocal (under m rows) m.tick i = active_local_is (under m rows) m.tick i li in
          let p = made.placed.locals in
          p.free k e i (active_shown m rows i made.shows ∙ a.active)
          (local_claims m rows i made.shows li (ap (has_spinner (under m rows) m.tick) place ∙ none) ∙ ap (λ x. Some x) place)
          (task_below m rows i made.shows a.active)

made_priority : (m : MachineDef) (rows : ℕ → RowDef) → Made m rows → KeepsPriority (under m rows) m.tick
made_priority m rows made = record {
  requests = λ k r e i l place asks. requests k r i place asks (runs_as m rows k r made e);
  locals = λ k r e none i l place li. locals k r i none place li (runs_as m rows k r made e);
} where
  holder_in_request : (r : ℕ) → is_ready_holder (under m rows) m.tick r ≡ true → is_in_request (under m rows) m.tick r ≡ true
  holder_in_request r h =
      let a : ReadyHolder (under m rows) m.tick r = ready_holder_is (under m rows) m.tick r h in
      in_request_from (under m rows) m.tick r a.number a.resource a.active a.phase

  -- Where a Local job runs, no job there is in a request: it would spin or hold.
  none_beside : (k r i : ℕ) → RunsLocal m rows k r → processor_of (under m rows) i ≡ k → is_in_request (under m rows) m.tick i ≡ true → ⊥
  none_beside k r i a place asks = elim (cases_Bool (is_ready (under m rows) m.tick i)) [
    | inr off ↦ both_ways (has_spinner (under m rows) m.tick k) a.calm
        (spinner_from (under m rows) m.tick k i place
        (waiting_spins (under m rows) m.tick i (in_request_is (under m rows) m.tick i asks).active off))
    | inl ready ↦ elim (ready_is (under m rows) m.tick i ready) [
      | inr holds ↦ a.no_holder i holds place
      | inl local ↦
          let c : InRequest (under m rows) m.tick i = in_request_is (under m rows) m.tick i asks in
          let d : ActiveLocal (under m rows) m.tick i = active_local_is (under m rows) m.tick i local in
          let x : Local ≡ Asking c.number c.resource = sym d.phase ∙ c.phase in
          cc
    ]
  ]

  requests : (k r i : ℕ) → processor_of (under m rows) i ≡ k → is_in_request (under m rows) m.tick i ≡ true
      → RunsHolder m rows k r ⊎ RunsLocal m rows k r → r ≡ i
  requests k r i place asks (inl a) =
      one_in_request (under m rows) m.tick m.tick r i made.shows.machine.lawful made.keeps (omega arith)
      (holder_in_request r a.holds) asks (a.place ∙ sym place)
  requests k r i place asks (inr a) = absurd (none_beside k r i a place asks)

  locals : (k r i : ℕ) → ((i : ℕ) → i < length m.list.jobs → processor_of (under m rows) i ≡ k
      → is_in_request (under m rows) m.tick i ≡ false) → processor_of (under m rows) i ≡ k
      → is_active_local (under m rows) m.tick i ≡ true → RunsHolder m rows k r ⊎ RunsLocal m rows k r
      → task_of (under m rows) r ≤ task_of (under m rows) i
  locals k r i none place li (inr a) = a.first i li place
  locals k r i none place li (inl a) =
      let asks : is_in_request (under m rows) m.tick r ≡ true = holder_in_request r a.holds in
      absurd (both_ways (is_in_request (under m rows) m.tick r) (none r (in_request_listed (under m rows) m.tick r asks) a.place) asks)

made_chosen : (m : MachineDef) (rows : ℕ → RowDef) → Made m rows → IsSized m.list.set (rows m.tick) → IsSpinChoice (under m rows) m.tick
unfolding fmlp_plus
made_chosen m rows made sized = record {
  sized = sized;
  keeps = λ r. keeps r;
  grants = λ q j e new i l a same. grants_tie fmlp_plus scene (under m rows) m.tick q j i shown made.granted e new a same;
} where
  scene : Scene
  scene = scene_now (issue_now m) (issue_now m) m

  shown : IsSceneOf fmlp_plus scene (under m rows) m.tick
  shown = scene_shown fmlp_plus issue_now issue_now m rows issue_gives made.shows

  keeps : (r : Rule) → spin_rule r (under m rows) m.tick
  keeps rule.Run = made_run m rows made
  keeps rule.Keep = granted_keep fmlp_plus scene (under m rows) m.tick shown made.granted
  keeps rule.Grant = granted_grant fmlp_plus scene (under m rows) m.tick shown made.granted
  keeps rule.Idle = made_idle m rows made
  keeps rule.Priority = made_priority m rows made

-- The row that the walks end with is the chosen one.
pub spin_choice_made : (m : MachineDef) (rows : ℕ → RowDef) (row : RowDef) → Shows m rows → rows m.tick ≡ row
    → KeepsBefore spin_rule (under m rows) m.tick → IsSized m.list.set row
    → Granted (scene_now (issue_now m) (issue_now m) m) (length m.list.set.tasks) (place_in row.holders)
    → FilledTwice m (holder_claim m (processor_now m) (place_in row.holders)) (calm_claim m (place_in row.holders)) (running_in row.running)
    → IsSpinChoice (under m rows) m.tick
spin_choice_made m rows row shows e keeps sized g p =
    made_chosen m rows (record {
      shows = shows;
      keeps = keeps;
      granted = subst (λ r. Granted (scene_now (issue_now m) (issue_now m) m) (length m.list.set.tasks) (holder_in r)) (sym e) g;
      placed = subst (λ r. FilledTwice m (holder_claim m (processor_now m) (holder_in r)) (calm_claim m (holder_in r)) (running_on r)) (sym e)
          (running_read m (holder_claim m (processor_now m) (place_in row.holders)) (calm_claim m (place_in row.holders))
          (running_in row.running) (running_on row) p (running_same row));
    }) (subst (λ r. IsSized m.list.set r) (sym e) sized)
