-- What the holders and the running jobs are once all tasks have come makes the row the chosen one.
use Rattle.std.proofs.Common.{◌≡◌, ◌⊎◌, ℕ, ◌<◌, ◌≤◌, ◌==◌, ◌&&◌, ◌||◌, not, Bool, true, false, List, length, refl, sym}
use Rattle.std.proofs.Common.{ap, ◌∙◌, arith, inl, inr, Option, Some, None, subst, cond, leb, ltb}
use Rattle.std.specs.Option.{option_map_or}
use Rattle.std.proofs.Math.Bool.{and_assoc}
use Rattle.std.proofs.lemmas.Bool.{cases_Bool, and_parts, and_from, and_left, both_ways, false_from_ne_true, not-true}
use Rattle.std.proofs.lemmas.Bool.{eq-eqb, eqb-true, le-leb, leb-true}
use Rattle.std.proofs.lemmas.Option.{same_Some}
use Rattle.number_laws.specs.Tests.{all_below, any_below}
use Rattle.number_laws.proofs.TestLaws.{all_below-each, any_below-from, any_below-some, any_below-none, any_below-none_from}
use Rattle.sporadic_model.specs.Users.{is_user}
use Rattle.sporadic_model.specs.declared.limits.TheConstants.{MOST_PROCESSORS}
use Rattle.schedule_model.specs.declared.rule.Rule.{Rule}
use Rattle.schedule_model.specs.declared.rule.Rule.TheVariants as rule
use Rattle.schedule_model.specs.RowDef.{RowDef, running_on, holder_in, held_before}
use Rattle.schedule_model.specs.Phase.{Phase, is_local, is_asking, phase_of}
use Rattle.schedule_model.specs.Phase.Phase.{Local, Asking, Finished}
use Rattle.schedule_model.specs.Activity.{task_of, processor_of, is_active, is_requester, is_active_local, holds_by}
use Rattle.schedule_model.specs.SharedRules.{KeepsKeep}
use Rattle.schedule_model.specs.DpcpRules.{home_of, ceiling_rank, has_requests, holds_at, is_kept, waits_at}
use Rattle.schedule_model.specs.DpcpRules.{is_first_waiting, is_barred, is_granted, KeepsRun, KeepsGrant, KeepsIdle}
use Rattle.schedule_model.specs.DpcpRules.{RunsFirstHolder, KeepsPriority}
use Rattle.schedule_model.specs.Ranks.{by_task}
use Rattle.schedule_model.specs.Protocols.{dpcp_rule}
use Rattle.schedule_model.specs.Chosen.{IsSized, IsDpcpChoice}
use Rattle.schedule_model.proofs.RuleTests.{or_other}
use Rattle.schedule_laws.proofs.ActiveJobs.{active_listed, one_active, Requester, requester_is, requester_from}
use Rattle.schedule_laws.proofs.ActiveJobs.{ActiveLocal, active_local_is}
use Rattle.schedule_laws.proofs.Rows.{job_named, named_job}
use Rattle.schedule_laws.proofs.RuleUses.{request_among}
use Rattle.schedule_laws.proofs.Segments.{open_resource, open_user}
use Rattle.schedule_laws.proofs.DpcpStretches.{ceiling_low}
use Rattle.schedule_laws.proofs.DpcpStretches.{RequestAt, request_at_is}
use Rattle.phase_machine.specs.MachineDef.{MachineDef, task_in, under}
use Rattle.phase_machine.specs.Now.{phase_now, active_now, holder_now, requester_now, waiting_now}
use Rattle.phase_machine.specs.Shows.{Shows}
use Rattle.phase_machine.proofs.Facts.{active_true, active_back, requester_shown}
use Rattle.phase_machine.specs.Now.{is_local_now, holds_now}
use Rattle.shared_choosing.specs.Scene.{stays, resource_in}
use Rattle.shared_choosing.specs.Filling.{Takes}
use Rattle.shared_rules.proofs.Currents.{task_below}
use Rattle.dpcp_rules.specs.Homes.{column_now, entry_at}
use Rattle.dpcp_rules.specs.RowTests.{is_due}
use Rattle.dpcp_rules.specs.Choosing.{grant_claim, holder_claim, local_claim, AreHolders, IsRunning}
use Rattle.dpcp_rules.proofs.Shown.{request_at_from, HolderAt, holds_at_is, holds_at_from}
use Rattle.dpcp_rules.proofs.Shown.{phase_is, column_is, column_within, processors_within, unfinished}
use Rattle.dpcp_rules.proofs.Waiting.{Requesting, waiting_asks, waits_new, waiting_of}
use Rattle.dpcp_rules.proofs.Entries.{Waits, waits_is, waits_from, WaitsOf, entry_low, first_of, below_is, barred_shown}
use Rattle.dpcp_rules.proofs.GrantTest.{Noted, granted_waits, due_at, holds_at_q}
use Rattle.dpcp_rules.proofs.ReadyTests.{some_request, column_of_request, column_of_local}

-- What is made: the holders, and what runs, with the tables.
pub record Made (m : MachineDef) (rows : ℕ → RowDef) (first bars : List ℕ) : Type 0 where
  pub noted : Noted m rows first bars
  pub holders : AreHolders m first bars (holder_in (rows m.tick))
  pub running : IsRunning m (holder_in (rows m.tick)) (running_on (rows m.tick))

-- The holder that stays.
pub stays_is : (asks : ℕ → Bool) (o : Option ℕ) (j : ℕ) → stays asks o ≡ Some j → (o ≡ Some j) × (asks j ≡ true)
stays_is asks None j h = absurd (cc)
stays_is asks (Some i) j h = elim (cases_Bool (asks i)) [
  | inl still ↦ let e : Some i ≡ Some j = rw still at h in let f : i ≡ j = cc in (e, subst (λ k. asks k ≡ true) f still)
  | inr ends ↦ let e : None ≡ Some j = rw ends at h in absurd (cc)
]

pub stays_from : (asks : ℕ → Bool) (j : ℕ) → asks j ≡ true → stays asks (Some j) ≡ Some j
stays_from asks j h = rw h refl

-- A claim that is made where a test passes.
pub cond_some : (b : Bool) (o : Option ℕ) (k : ℕ) → cond b o None ≡ Some k → (b ≡ true) × (o ≡ Some k)
cond_some true o k h = (refl, h)
cond_some false o k h = absurd (cc)

pub cond_from : (b : Bool) (o : Option ℕ) (k : ℕ) → b ≡ true → o ≡ Some k → cond b o None ≡ Some k
cond_from b o k e f = ap (λ c. cond c o None) e ∙ f

-- What a job that is granted q is.
pub record Due (m : MachineDef) (rows : ℕ → RowDef) (first bars : List ℕ) (q j : ℕ) : Type 0 where
  pub asks : is_requester (under m rows) m.tick q j ≡ true
  pub waiting : waiting_now m j ≡ true
  pub due : is_due m first bars j ≡ true

pub asking_true : (q : ℕ) (p : Phase) → resource_in p ≡ Some q → is_asking q p ≡ true
asking_true q Local h = absurd (cc)
asking_true q Finished h = absurd (cc)
asking_true q (Asking n r) h = eq-eqb r q (cc)

pub requests_now : (m : MachineDef) (q j : ℕ) → active_now m j ≡ true → is_asking q (phase_now m j) ≡ true → requester_now m q j ≡ true
unfolding requester_now
requests_now m q j a h = and_from (active_now m j) (is_asking q (phase_now m j)) a h

pub due_of : (m : MachineDef) (rows : ℕ → RowDef) (first bars : List ℕ) (q j : ℕ) → Shows m rows → active_now m j ≡ true
    → grant_claim m first bars j ≡ Some q → Due m rows first bars q j
due_of m rows first bars q j shows a h =
    let parts : ((waiting_now m j && is_due m first bars j) ≡ true) × (resource_in (phase_now m j) ≡ Some q) =
    cond_some (waiting_now m j && is_due m first bars j) (resource_in (phase_now m j)) q h in
    let both : (waiting_now m j ≡ true) × (is_due m first bars j ≡ true) = and_parts (waiting_now m j) (is_due m first bars j) parts.0 in
    record {
      asks = sym (requester_shown m rows q j shows) ∙ requests_now m q j a (asking_true q (phase_now m j) parts.1);
      waiting = both.0;
      due = both.1;
    }

claim_of_due : (m : MachineDef) (rows : ℕ → RowDef) (first bars : List ℕ) (q j : ℕ) → Shows m rows
    → Due m rows first bars q j → grant_claim m first bars j ≡ Some q
claim_of_due m rows first bars q j shows d =
    let r : Requester (under m rows) m.tick q j = requester_is (under m rows) m.tick q j d.asks in
    cond_from (waiting_now m j && is_due m first bars j) (resource_in (phase_now m j)) q
    (and_from (waiting_now m j) (is_due m first bars j) d.waiting d.due)
    (ap resource_in (phase_is m rows j (Asking r.number q) shows r.active r.phase))

granted_due : (m : MachineDef) (rows : ℕ → RowDef) (first bars : List ℕ) (q j : ℕ) → Noted m rows first bars
    → Due m rows first bars q j → is_granted (under m rows) m.tick (home_of (under m rows) q) j ≡ true
granted_due m rows first bars q j noted d = sym (due_at m rows first bars q j noted d.asks d.waiting) ∙ d.due

-- A holder was kept, or is due.
held_is : (m : MachineDef) (rows : ℕ → RowDef) (first bars : List ℕ) (q j : ℕ) → Made m rows first bars → holder_in (rows m.tick) q ≡ Some j
    → ((held_before (under m rows) m.tick q ≡ Some j) × (is_requester (under m rows) m.tick q j ≡ true)) ⊎ Due m rows first bars q j
held_is m rows first bars q j made e = elim (made.holders.from q j e) [
  | inl old ↦
      let s : (holder_now m q ≡ Some j) × (requester_now m q j ≡ true) = stays_is (requester_now m q) (holder_now m q) j old in
      inl (sym (made.noted.shows.holders q) ∙ s.0, sym (requester_shown m rows q j made.noted.shows) ∙ s.1)
  | inr taken ↦ inr (due_of m rows first bars q j made.noted.shows taken.active taken.claims)
]

holder_asks : (m : MachineDef) (rows : ℕ → RowDef) (first bars : List ℕ) (q j : ℕ) → Made m rows first bars
    → holder_in (rows m.tick) q ≡ Some j → is_requester (under m rows) m.tick q j ≡ true
holder_asks m rows first bars q j made e = elim (held_is m rows first bars q j made e) [
  | inl old ↦ old.1
  | inr due ↦ due.asks
]

made_keep : (m : MachineDef) (rows : ℕ → RowDef) (first bars : List ℕ) → Made m rows first bars → KeepsKeep (under m rows) m.tick
made_keep m rows first bars made q j e asks =
    made.holders.keeps q j (ap (stays (requester_now m q)) (made.noted.shows.holders q ∙ e)
    ∙ stays_from (requester_now m q) j (requester_shown m rows q j made.noted.shows ∙ asks))

kept_true : (m : MachineDef) (rows : ℕ → RowDef) (q h : ℕ) → held_before (under m rows) m.tick q ≡ Some h
    → is_requester (under m rows) m.tick q h ≡ true → is_kept (under m rows) m.tick q ≡ true
unfolding is_kept
kept_true m rows q h e asks = ap (λ o. option_map_or (λ j. is_requester (under m rows) m.tick q j) o false) e ∙ asks

-- Who requests a kept resource is barred at its home.
barred_by : (m : MachineDef) (rows : ℕ → RowDef) (q j : ℕ) → Shows m rows
    → is_requester (under m rows) m.tick q j ≡ true → is_kept (under m rows) m.tick q ≡ true
    → is_barred (under m rows) m.tick (home_of (under m rows) q) (task_of (under m rows) j) ≡ true
unfolding is_barred
barred_by m rows q j shows asks kept =
    let r : Requester (under m rows) m.tick q j = requester_is (under m rows) m.tick q j asks in
    let listed : j < length m.list.jobs = active_listed (under m rows) m.tick j r.active in
    let user : is_user m.list.set q (task_in m.list.jobs j) ≡ true =
    open_user m.list.set (under m rows) m.tick j r.number q (shows.machine.lawful.each j listed) r.phase in
    let within : q < length m.list.set.resources =
    open_resource m.list.set (under m rows) m.tick j r.number q (shows.machine.lawful.each j listed) r.phase in
    any_below-from (length m.list.set.resources)
    (λ p. (home_of (under m rows) p == home_of (under m rows) q)
    && (is_kept (under m rows) m.tick p && leb (ceiling_rank (under m rows) p) (task_of (under m rows) j))) q within
    (and_from (home_of (under m rows) q == home_of (under m rows) q)
    (is_kept (under m rows) m.tick q && leb (ceiling_rank (under m rows) q) (task_of (under m rows) j))
    (eq-eqb (home_of (under m rows) q) (home_of (under m rows) q) refl)
    (and_from (is_kept (under m rows) m.tick q) (leb (ceiling_rank (under m rows) q) (task_of (under m rows) j)) kept
    (le-leb (ceiling_rank (under m rows) q) (task_of (under m rows) j)
    (ceiling_low m.list.set q (task_in m.list.jobs j) user (task_below m rows j shows r.active)))))

not_barred : (m : MachineDef) (rows : ℕ → RowDef) (k j : ℕ) → is_granted (under m rows) m.tick k j ≡ true
    → is_barred (under m rows) m.tick k (task_of (under m rows) j) ≡ false
unfolding is_granted
not_barred m rows k j h =
    not-true (is_barred (under m rows) m.tick k (task_of (under m rows) j))
    (and_parts (is_first_waiting (under m rows) m.tick k j)
    (not (is_barred (under m rows) m.tick k (task_of (under m rows) j))) h).1

-- A job that is granted is of no lower task than a job that waits there.
granted_leads : (m : MachineDef) (rows : ℕ → RowDef) (k j i : ℕ) → is_granted (under m rows) m.tick k j ≡ true
    → is_active (under m rows) m.tick i ≡ true → waits_at (under m rows) m.tick k i ≡ true
    → task_of (under m rows) j ≤ task_of (under m rows) i
unfolding is_granted is_first_waiting
granted_leads m rows k j i h a waits =
    let each : all_below (length m.list.jobs)
    (λ i. not (waits_at (under m rows) m.tick k i) || leb (task_of (under m rows) j) (task_of (under m rows) i))
    ≡ true = (and_parts _ _ (and_parts _ _ h).0).1 in
    leb-true (task_of (under m rows) j) (task_of (under m rows) i)
    (or_other (not (waits_at (under m rows) m.tick k i)) (leb (task_of (under m rows) j) (task_of (under m rows) i))
    (all_below-each (length m.list.jobs)
    (λ i. not (waits_at (under m rows) m.tick k i) || leb (task_of (under m rows) j) (task_of (under m rows) i)) each i
    (active_listed (under m rows) m.tick i a)) (ap not waits))

made_grant : (m : MachineDef) (rows : ℕ → RowDef) (first bars : List ℕ) → Made m rows first bars → KeepsGrant (under m rows) m.tick
made_grant m rows first bars made = record {
  requests = λ q j e. holder_asks m rows first bars q j made e;
  new = λ q j e fresh. new q j fresh (held_is m rows first bars q j made e);
  granted = λ q j l asks g. granted q j asks g (holder_in (rows m.tick) q) refl;
} where
  shows : Shows m rows
  shows = made.noted.shows

  new : (q j : ℕ) → (held_before (under m rows) m.tick q ≡ Some j → ⊥)
      → ((held_before (under m rows) m.tick q ≡ Some j) × (is_requester (under m rows) m.tick q j ≡ true))
      ⊎ Due m rows first bars q j
      → is_granted (under m rows) m.tick (home_of (under m rows) q) j ≡ true
  new q j fresh (inl old) = absurd (fresh old.0)
  new q j fresh (inr due) = granted_due m rows first bars q j made.noted due

  due_from : (q j : ℕ) → is_requester (under m rows) m.tick q j ≡ true
      → is_granted (under m rows) m.tick (home_of (under m rows) q) j ≡ true → Due m rows first bars q j
  due_from q j asks g =
      let w : waiting_now m j ≡ true = waiting_of m rows (home_of (under m rows) q) q j shows asks
      (granted_waits m rows (home_of (under m rows) q) j g) in
      record { asks = asks; waiting = w; due = due_at m rows first bars q j made.noted asks w ∙ g }

  -- A holder of what is granted to j is j.
  holder_is : (q j h : ℕ) → is_requester (under m rows) m.tick q j ≡ true
      → is_granted (under m rows) m.tick (home_of (under m rows) q) j ≡ true
      → ((held_before (under m rows) m.tick q ≡ Some h) × (is_requester (under m rows) m.tick q h ≡ true))
      ⊎ Due m rows first bars q h → h ≡ j
  holder_is q j h asks g (inl old) =
      absurd (both_ways (is_barred (under m rows) m.tick (home_of (under m rows) q) (task_of (under m rows) j))
      (not_barred m rows (home_of (under m rows) q) j g)
      (barred_by m rows q j shows asks (kept_true m rows q h old.0 old.1)))
  holder_is q j h asks g (inr due) =
      let gh : is_granted (under m rows) m.tick (home_of (under m rows) q) h ≡ true = granted_due m rows first bars q h made.noted due in
      let rh : Requester (under m rows) m.tick q h = requester_is (under m rows) m.tick q h due.asks in
      let rj : Requester (under m rows) m.tick q j = requester_is (under m rows) m.tick q j asks in
      one_active (under m rows) m.tick h j rh.active rj.active
      (omega (
        arith,
        granted_leads m rows (home_of (under m rows) q) h j gh rj.active (granted_waits m rows (home_of (under m rows) q) j g),
        granted_leads m rows (home_of (under m rows) q) j h g rh.active (granted_waits m rows (home_of (under m rows) q) h gh),
      ))

  granted : (q j : ℕ) → is_requester (under m rows) m.tick q j ≡ true → is_granted (under m rows) m.tick (home_of (under m rows) q) j ≡ true
      → (o : Option ℕ) → holder_in (rows m.tick) q ≡ o → holder_in (rows m.tick) q ≡ Some j
  granted q j asks g None e =
      let r : Requester (under m rows) m.tick q j = requester_is (under m rows) m.tick q j asks in
      absurd (made.holders.free q e j (active_back m rows j shows r.active)
      (claim_of_due m rows first bars q j shows (due_from q j asks g)) (task_below m rows j shows r.active))
  granted q j asks g (Some h) e = e ∙ ap (λ i. Some i) (holder_is q j h asks g (held_is m rows first bars q h made e))

-- Who holds at a processor claims it, and the other way round.
pub claim_of_holder : (m : MachineDef) (rows : ℕ → RowDef) (k q h : ℕ) → Shows m rows
    → is_requester (under m rows) m.tick q h ≡ true → holder_in (rows m.tick) q ≡ Some h → home_of (under m rows) q ≡ k
    → holder_claim m (holder_in (rows m.tick)) h ≡ Some k
claim_of_holder m rows k q h shows asks e home =
    let r : Requester (under m rows) m.tick q h = requester_is (under m rows) m.tick q h asks in
    cond_from (holds_now m (holder_in (rows m.tick)) h) (Some (column_now m h)) k
    (holds_at_q m rows (holder_in (rows m.tick)) q h shows asks ∙ named_job h (holder_in (rows m.tick) q) e)
    (ap (λ c. Some c) (column_is m rows h (Asking r.number q) shows r.active r.phase ∙ home))

pub claim_of_holds : (m : MachineDef) (rows : ℕ → RowDef) (k h : ℕ) → Shows m rows
    → holds_at (under m rows) m.tick k h ≡ true → holder_claim m (holder_in (rows m.tick)) h ≡ Some k
claim_of_holds m rows k h shows holds =
    let at : HolderAt (under m rows) m.tick k h = holds_at_is (under m rows) m.tick k h holds in
    claim_of_holder m rows k at.request.resource h shows
    (requester_from (under m rows) m.tick at.request.resource h at.request.number at.request.active at.request.phase)
    at.holds at.request.home

pub holds_of_claim : (m : MachineDef) (rows : ℕ → RowDef) (k h : ℕ) → Shows m rows
    → is_active (under m rows) m.tick h ≡ true → holder_claim m (holder_in (rows m.tick)) h ≡ Some k
    → holds_at (under m rows) m.tick k h ≡ true
holds_of_claim m rows k h shows a claim = go (phase_of (under m rows) m.tick h) refl where
  parts : (holds_now m (holder_in (rows m.tick)) h ≡ true) × (Some (column_now m h) ≡ Some k)
  parts = cond_some (holds_now m (holder_in (rows m.tick)) h) (Some (column_now m h)) k claim

  go : (p : Phase) → phase_of (under m rows) m.tick h ≡ p → holds_at (under m rows) m.tick k h ≡ true
  go Local e = let x : false ≡ true =
      sym (ap (holds_by (holder_in (rows m.tick)) h) (phase_is m rows h Local shows a e)) ∙ parts.0 in
      absurd (cc)
  go Finished e = absurd (unfinished (under m rows) m.tick h a e)
  go (Asking n q) e =
      holds_at_from (under m rows) m.tick k h n q a e
      (sym (column_is m rows h (Asking n q) shows a e) ∙ same_Some (column_now m h) k parts.1)
      (job_named h (holder_in (rows m.tick) q)
      (sym (ap (holds_by (holder_in (rows m.tick)) h) (phase_is m rows h (Asking n q) shows a e)) ∙ parts.0))

-- Where a processor has requests, it has a holder.
record AtHome (m : MachineDef) (rows : ℕ → RowDef) (k : ℕ) : Type 0 where
  job : ℕ
  active : is_active (under m rows) m.tick job ≡ true
  claims : holder_claim m (holder_in (rows m.tick)) job ≡ Some k

holder_at_home : (m : MachineDef) (rows : ℕ → RowDef) (first bars : List ℕ) (k q h : ℕ) → Made m rows first bars
    → holder_in (rows m.tick) q ≡ Some h → home_of (under m rows) q ≡ k → AtHome m rows k
holder_at_home m rows first bars k q h made e home =
    let asks : is_requester (under m rows) m.tick q h ≡ true = holder_asks m rows first bars q h made e in
    let r : Requester (under m rows) m.tick q h = requester_is (under m rows) m.tick q h asks in
    record { job = h; active = r.active; claims = claim_of_holder m rows k q h made.noted.shows asks e home }

-- A kept resource's holder.
kept_holder : (m : MachineDef) (rows : ℕ → RowDef) (q : ℕ) → is_kept (under m rows) m.tick q ≡ true
    → (h : ℕ) × (held_before (under m rows) m.tick q ≡ Some h) × (is_requester (under m rows) m.tick q h ≡ true)
unfolding is_kept
kept_holder m rows q kept = go (held_before (under m rows) m.tick q) refl where
  go : (o : Option ℕ) → held_before (under m rows) m.tick q ≡ o
      → (h : ℕ) × (held_before (under m rows) m.tick q ≡ Some h) × (is_requester (under m rows) m.tick q h ≡ true)
  go None e = let x : false ≡ true =
      sym (ap (λ o. option_map_or (λ j. is_requester (under m rows) m.tick q j) o false) e) ∙ kept in
      absurd (cc)
  go (Some h) e = (h, e, sym (ap (λ o. option_map_or (λ j. is_requester (under m rows) m.tick q j) o false) e) ∙ kept)

-- Where nothing is kept at a processor, no task is barred there.
nothing_barred : (m : MachineDef) (rows : ℕ → RowDef) (k x : ℕ) → any_below (length m.list.set.resources)
    (λ q. (home_of (under m rows) q == k) && is_kept (under m rows) m.tick q) ≡ false
    → is_barred (under m rows) m.tick k x ≡ false
unfolding is_barred
nothing_barred m rows k x none =
    any_below-none_from (length m.list.set.resources)
    (λ q. (home_of (under m rows) q == k) && (is_kept (under m rows) m.tick q && leb (ceiling_rank (under m rows) q) x))
    (λ q l. sym (and_assoc (home_of (under m rows) q == k) (is_kept (under m rows) m.tick q) (leb (ceiling_rank (under m rows) q) x))
    ∙ and_left ((home_of (under m rows) q == k) && is_kept (under m rows) m.tick q) (leb (ceiling_rank (under m rows) q) x)
    (any_below-none (length m.list.set.resources) (λ q. (home_of (under m rows) q == k) && is_kept (under m rows) m.tick q) none q l))

-- Then the first that waits there is due.
first_due : (m : MachineDef) (rows : ℕ → RowDef) (first bars : List ℕ) (k i : ℕ) → Noted m rows first bars
    → RequestAt (under m rows) m.tick k i
    → any_below (length m.list.set.resources) (λ q. (home_of (under m rows) q == k) && is_kept (under m rows) m.tick q) ≡ false
    → (f : ℕ) × (q : ℕ) × (home_of (under m rows) q ≡ k) × Due m rows first bars q f
first_due m rows first bars k i noted r none = due w.job w.active w.own (waits_is m rows w.job k shows w.active within.0 w.waits) where
  shows : Shows m rows
  shows = noted.shows

  asks : is_requester (under m rows) m.tick r.resource i ≡ true
  asks = requester_from (under m rows) m.tick r.resource i r.number r.active r.phase

  column : column_now m i ≡ k
  column = column_of_request m rows k i shows r

  within : (1 ≤ k) × (k ≤ MOST_PROCESSORS)
  within =
      let here : (1 ≤ column_now m i) × (column_now m i ≤ m.list.set.processors) =
      column_within m rows i shows noted.accepted noted.homes r.active in
      (omega (arith, here.0, column), omega (arith, here.1, column, processors_within m.list.set noted.accepted))

  fresh : held_before (under m rows) m.tick r.resource ≡ Some i → ⊥
  fresh e =
      let listed : i < length m.list.jobs = active_listed (under m rows) m.tick i r.active in
      let l : r.resource < length m.list.set.resources = open_resource m.list.set (under m rows) m.tick i r.number
      r.resource (shows.machine.lawful.each i listed) r.phase in
      both_ways ((home_of (under m rows) r.resource == k) && is_kept (under m rows) m.tick r.resource)
      (any_below-none (length m.list.set.resources)
      (λ q. (home_of (under m rows) q == k) && is_kept (under m rows) m.tick q) none r.resource l)
      (and_from (home_of (under m rows) r.resource == k) (is_kept (under m rows) m.tick r.resource)
      (eq-eqb (home_of (under m rows) r.resource) k r.home) (kept_true m rows r.resource i e asks))

  waits : waits_at (under m rows) m.tick k i ≡ true
  waits =
      let here : waits_at (under m rows) m.tick (column_now m i) i ≡ true =
      waits_from m rows i shows r.active (omega (arith, within.0, column)) (waits_new m rows r.resource i shows asks fresh) in
      subst (λ c. waits_at (under m rows) m.tick c i ≡ true) column here

  low : entry_at first k ≤ task_in m.list.jobs i
  low = entry_low m rows first k i shows noted.waiting within.0 within.1 waits

  some : (x : ℕ) × (x ≤ entry_at first k) × WaitsOf m rows x k
  some = first_of m rows first k shows noted.waiting within.0 within.1 (omega (arith, low, task_below m rows i shows r.active))

  w : WaitsOf m rows some.0 k
  w = some.2

  due : (f : ℕ) → is_active (under m rows) m.tick f ≡ true → task_in m.list.jobs f ≡ some.0 → Waits m f k
      → (f : ℕ) × (q : ℕ) × (home_of (under m rows) q ≡ k) × Due m rows first bars q f
  due f a own at = (
    f,
    g.resource,
    sym (column_is m rows f (Asking rf.number g.resource) shows a rf.phase) ∙ at.column,
    record { asks = g.asks; waiting = at.waiting; due = passes },
  ) where
    g : Requesting m rows f
    g = waiting_asks m rows f shows a at.waiting

    rf : Requester (under m rows) m.tick g.resource f
    rf = requester_is (under m rows) m.tick g.resource f g.asks

    leads : leb (task_in m.list.jobs f) (entry_at first k) ≡ true
    leads = le-leb (task_in m.list.jobs f) (entry_at first k) (omega (arith, own, some.1))

    free : ltb (task_in m.list.jobs f) (entry_at bars k) ≡ true
    free =
        below_is (task_in m.list.jobs f) (entry_at bars k)
        ∙ ap not (barred_shown m rows bars k (task_in m.list.jobs f) shows noted.kept within.0 within.1
        (task_below m rows f shows a) ∙ nothing_barred m rows k (task_in m.list.jobs f) none)

    passes : is_due m first bars f ≡ true
    passes =
        ap (λ c. leb (task_in m.list.jobs f) (entry_at first c) && ltb (task_in m.list.jobs f) (entry_at bars c)) at.column
        ∙ and_from (leb (task_in m.list.jobs f) (entry_at first k)) (ltb (task_in m.list.jobs f) (entry_at bars k)) leads free

home_holder : (m : MachineDef) (rows : ℕ → RowDef) (first bars : List ℕ) (k : ℕ) → Made m rows first bars
    → has_requests (under m rows) m.tick k ≡ true → AtHome m rows k
home_holder m rows first bars k made h = elim (cases_Bool (any_below (length m.list.set.resources)
    (λ q. (home_of (under m rows) q == k) && is_kept (under m rows) m.tick q))) [
      | inl kept ↦ of_kept (any_below-some (length m.list.set.resources)
          (λ q. (home_of (under m rows) q == k) && is_kept (under m rows) m.tick q) kept)
      | inr none ↦ of_due (first_due m rows first bars k (some_request m rows k h).0 made.noted
          (request_at_is (under m rows) m.tick k (some_request m rows k h).0 (some_request m rows k h).1) none)
    ] where
      of_kept : (q : ℕ) × (q < length m.list.set.resources)
          × (((home_of (under m rows) q == k) && is_kept (under m rows) m.tick q) ≡ true) → AtHome m rows k
      of_kept s =
          let parts : ((home_of (under m rows) s.0 == k) ≡ true) × (is_kept (under m rows) m.tick s.0 ≡ true) =
          and_parts (home_of (under m rows) s.0 == k) (is_kept (under m rows) m.tick s.0) s.2 in
          let old : (h : ℕ) × (held_before (under m rows) m.tick s.0 ≡ Some h)
          × (is_requester (under m rows) m.tick s.0 h ≡ true) = kept_holder m rows s.0 parts.1 in
          holder_at_home m rows first bars k s.0 old.0 made (made_keep m rows first bars made s.0 old.0 old.1 old.2)
          (eqb-true (home_of (under m rows) s.0) k parts.0)

      held : (q : ℕ) (o : Option ℕ) (f : ℕ) → home_of (under m rows) q ≡ k → Due m rows first bars q f
          → holder_in (rows m.tick) q ≡ o → AtHome m rows k
      held q None f home due e =
          let r : Requester (under m rows) m.tick q f = requester_is (under m rows) m.tick q f due.asks in
          absurd (made.holders.free q e f (active_back m rows f made.noted.shows r.active)
          (claim_of_due m rows first bars q f made.noted.shows due) (task_below m rows f made.noted.shows r.active))
      held q (Some g) f home due e = holder_at_home m rows first bars k q g made e home

      of_due : (f : ℕ) × (q : ℕ) × (home_of (under m rows) q ≡ k) × Due m rows first bars q f → AtHome m rows k
      of_due s = held s.1 (holder_in (rows m.tick) s.1) s.0 s.2 s.3 refl

-- What runs on a processor: a holder there, or a Local job.
ran : (m : MachineDef) (rows : ℕ → RowDef) (first bars : List ℕ) (made : Made m rows first bars) (k r : ℕ)
    → running_on (rows m.tick) k ≡ Some r
    → Takes m (holder_claim m (holder_in (rows m.tick))) (length m.list.set.tasks) k r
    ⊎ Takes m (local_claim m) (length m.list.set.tasks) k r
ran m rows first bars made k r e = elim (made.running.locals.from k r e) [
  | inr local ↦ inr local
  | inl held ↦ elim (made.running.holders.from k r held) [
    | inr holder ↦ inl holder
    | inl nothing ↦ absurd (cc)
  ]
]

-- What runs where a processor has requests.
record HolderRuns (m : MachineDef) (rows : ℕ → RowDef) (k : ℕ) : Type 0 where
  runner : ℕ
  runs : running_on (rows m.tick) k ≡ Some runner
  takes : Takes m (holder_claim m (holder_in (rows m.tick))) (length m.list.set.tasks) k runner

holder_runs : (m : MachineDef) (rows : ℕ → RowDef) (first bars : List ℕ) (k : ℕ) → Made m rows first bars
    → AtHome m rows k → HolderRuns m rows k
holder_runs m rows first bars k made at = go (made.running.before k) refl where
  go : (o : Option ℕ) → made.running.before k ≡ o → HolderRuns m rows k
  go None e = absurd (made.running.holders.free k e at.job (active_back m rows at.job made.noted.shows at.active)
      at.claims (task_below m rows at.job made.noted.shows at.active))
  go (Some r) e = record {
    runner = r;
    runs = made.running.locals.keeps k r e;
    takes = elim (made.running.holders.from k r e) [
      | inr holder ↦ holder
      | inl nothing ↦ absurd (cc)
    ];
  }

pub claim_of_local : (m : MachineDef) (rows : ℕ → RowDef) (k i : ℕ) → Shows m rows → ActiveLocal (under m rows) m.tick i
    → processor_of (under m rows) i ≡ k → local_claim m i ≡ Some k
claim_of_local m rows k i shows l own =
    cond_from (is_local_now m i) (Some (column_now m i)) k
    (ap is_local (phase_is m rows i Local shows l.active l.phase))
    (ap (λ c. Some c) (column_of_local m rows k i shows l own))

made_run : (m : MachineDef) (rows : ℕ → RowDef) (first bars : List ℕ) → Made m rows first bars → KeepsRun (under m rows) m.tick
made_run m rows first bars made = record {
  active = λ k j e. active k j (ran m rows first bars made k j e);
  local = λ k j e l. local k j (phase_of (under m rows) m.tick j) (ran m rows first bars made k j e) l refl;
  request = λ k j q e asks. request k j q (phase_of (under m rows) m.tick j) (ran m rows first bars made k j e) asks refl;
} where
  shows : Shows m rows
  shows = made.noted.shows

  active : (k j : ℕ)
      → Takes m (holder_claim m (holder_in (rows m.tick))) (length m.list.set.tasks) k j
      ⊎ Takes m (local_claim m) (length m.list.set.tasks) k j → is_active (under m rows) m.tick j ≡ true
  active k j (inl holder) = active_true m rows j shows holder.active
  active k j (inr local) = active_true m rows j shows local.active

  holds : (k j : ℕ) → Takes m (holder_claim m (holder_in (rows m.tick))) (length m.list.set.tasks) k j → HolderAt (under m rows) m.tick k j
  holds k j holder = holds_at_is (under m rows) m.tick k j
      (holds_of_claim m rows k j shows (active_true m rows j shows holder.active) holder.claims)

  local_parts : (k j : ℕ) → Takes m (local_claim m) (length m.list.set.tasks) k j
      → (is_local_now m j ≡ true) × (Some (column_now m j) ≡ Some k)
  local_parts k j taken = cond_some (is_local_now m j) (Some (column_now m j)) k taken.claims

  local : (k j : ℕ) (p : Phase) → Takes m (holder_claim m (holder_in (rows m.tick))) (length m.list.set.tasks) k j
      ⊎ Takes m (local_claim m) (length m.list.set.tasks) k j
      → is_local (phase_of (under m rows) m.tick j) ≡ true → phase_of (under m rows) m.tick j ≡ p → k ≡ processor_of (under m rows) j
  local k j (Asking n q) t l e = let x : false ≡ true = sym (ap is_local e) ∙ l in absurd (cc)
  local k j Finished t l e = let x : false ≡ true = sym (ap is_local e) ∙ l in absurd (cc)
  local k j Local (inl holder) l e =
      let at : HolderAt (under m rows) m.tick k j = holds k j holder in
      let x : Local ≡ Asking at.request.number at.request.resource = sym e ∙ at.request.phase in absurd (cc)
  local k j Local (inr taken) l e =
      sym (same_Some (column_now m j) k (local_parts k j taken).1)
      ∙ column_is m rows j Local shows (active_true m rows j shows taken.active) e

  request : (k j q : ℕ) (p : Phase) → Takes m (holder_claim m (holder_in (rows m.tick))) (length m.list.set.tasks) k j
      ⊎ Takes m (local_claim m) (length m.list.set.tasks) k j
      → is_asking q (phase_of (under m rows) m.tick j) ≡ true → phase_of (under m rows) m.tick j ≡ p
      → (k ≡ home_of (under m rows) q) × (holder_in (rows m.tick) q ≡ Some j)
  request k j q p (inl holder) asks e =
      let at : HolderAt (under m rows) m.tick k j = holds k j holder in
      let same : at.request.resource ≡ q = eqb-true at.request.resource q (sym (ap (is_asking q) at.request.phase) ∙ asks) in
      (sym at.request.home ∙ ap (home_of (under m rows)) same, sym (ap (holder_in (rows m.tick)) same) ∙ at.holds)
  request k j q p (inr taken) asks e = absurd (not_local p e) where
    not_local : (p : Phase) → phase_of (under m rows) m.tick j ≡ p → ⊥
    not_local Local f = let x : false ≡ true = sym (ap (is_asking q) f) ∙ asks in cc
    not_local Finished f = let x : false ≡ true = sym (ap (is_asking q) f) ∙ asks in cc
    not_local (Asking n r) f =
        let x : false ≡ true =
        sym (ap is_local (phase_is m rows j (Asking n r) shows (active_true m rows j shows taken.active) f))
        ∙ (local_parts k j taken).0 in
        cc

made_idle : (m : MachineDef) (rows : ℕ → RowDef) (first bars : List ℕ) → Made m rows first bars → KeepsIdle (under m rows) m.tick
made_idle m rows first bars made = record {
  requests = λ k e. false_from_ne_true (has_requests (under m rows) m.tick k)
      (λ some. busy k e (holder_runs m rows first bars k made (home_holder m rows first bars k made some)));
  locals = λ k e i l own. false_from_ne_true (is_active_local (under m rows) m.tick i)
      (λ li. waits k e i own (active_local_is (under m rows) m.tick i li));
} where
  busy : (k : ℕ) → running_on (rows m.tick) k ≡ None → HolderRuns m rows k → ⊥
  busy k e h = let x : Some h.runner ≡ None = sym h.runs ∙ e in cc

  waits : (k : ℕ) → running_on (rows m.tick) k ≡ None → (i : ℕ) → processor_of (under m rows) i ≡ k
      → ActiveLocal (under m rows) m.tick i → ⊥
  waits k e i own l =
      made.running.locals.free k e i (active_back m rows i made.noted.shows l.active)
      (claim_of_local m rows k i made.noted.shows l own) (task_below m rows i made.noted.shows l.active)

made_priority : (m : MachineDef) (rows : ℕ → RowDef) (first bars : List ℕ) → Made m rows first bars
    → KeepsPriority by_task (under m rows) m.tick
made_priority m rows first bars made = record {
  requests = λ k some. requests k (holder_runs m rows first bars k made (home_holder m rows first bars k made some));
  locals = λ k r e none i l own li. locals k r i none own (ran m rows first bars made k r e) (active_local_is (under m rows) m.tick i li);
} where
  shows : Shows m rows
  shows = made.noted.shows

  holder_active : (k i : ℕ) → holds_at (under m rows) m.tick k i ≡ true → is_active (under m rows) m.tick i ≡ true
  holder_active k i h = let at : HolderAt (under m rows) m.tick k i = holds_at_is (under m rows) m.tick k i h in at.request.active

  requests : (k : ℕ) → HolderRuns m rows k → RunsFirstHolder by_task (under m rows) m.tick k
  requests k h = record {
    runner = h.runner;
    runs = h.runs;
    holds = holds_of_claim m rows k h.runner shows (active_true m rows h.runner shows h.takes.active) h.takes.claims;
    first = λ i l holds. h.takes.first i (active_back m rows i shows (holder_active k i holds))
        (claim_of_holds m rows k i shows holds) (task_below m rows i shows (holder_active k i holds));
  }

  locals : (k r i : ℕ) → has_requests (under m rows) m.tick k ≡ false → processor_of (under m rows) i ≡ k
      → Takes m (holder_claim m (holder_in (rows m.tick))) (length m.list.set.tasks) k r
      ⊎ Takes m (local_claim m) (length m.list.set.tasks) k r → ActiveLocal (under m rows) m.tick i
      → task_of (under m rows) r ≤ task_of (under m rows) i
  locals k r i none own (inl holder) l =
      let active : is_active (under m rows) m.tick r ≡ true = active_true m rows r shows holder.active in
      let at : HolderAt (under m rows) m.tick k r =
      holds_at_is (under m rows) m.tick k r (holds_of_claim m rows k r shows active holder.claims) in
      absurd (both_ways (has_requests (under m rows) m.tick k) none
      (request_among (under m rows) m.tick k r (active_listed (under m rows) m.tick r active)
      (request_at_from (under m rows) m.tick k r at.request.number at.request.resource active at.request.phase at.request.home)))
  locals k r i none own (inr taken) l =
      taken.first i (active_back m rows i shows l.active) (claim_of_local m rows k i shows l own) (task_below m rows i shows l.active)

pub chosen_from : (m : MachineDef) (rows : ℕ → RowDef) (first bars : List ℕ) → Made m rows first bars
    → IsSized m.list.set (rows m.tick) → IsDpcpChoice (under m rows) m.tick
chosen_from m rows first bars made sized = record { sized = sized; keeps = λ r. keeps r } where
  keeps : (r : Rule) → dpcp_rule r (under m rows) m.tick
  keeps rule.Run = made_run m rows first bars made
  keeps rule.Keep = made_keep m rows first bars made
  keeps rule.Grant = made_grant m rows first bars made
  keeps rule.Idle = made_idle m rows first bars made
  keeps rule.Priority = made_priority m rows first bars made
