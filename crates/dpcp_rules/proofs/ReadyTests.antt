-- The tests of Idle and of Priority say that the row keeps them; that of Priority does so where Run is kept.
use Rattle.std.proofs.Common.{◌≡◌, ℕ, ◌<◌, ◌≤◌, ◌&&◌, ◌||◌, not, Bool, true, false, length, refl, sym, ap, ◌∙◌, arith}
use Rattle.std.proofs.Common.{inl, inr, Option, Some, None, cond}
use Rattle.std.specs.Prelude.{is_some}
use Rattle.std.proofs.lemmas.Bool.{cases_Bool, and_parts, and_from, or_left, or_right, not_from_false, both_ways}
use Rattle.std.proofs.lemmas.Bool.{false_from_ne_true, leb-true, le-leb, eq-eqb}
use Rattle.number_laws.proofs.TestLaws.{any_below-some}
use Rattle.schedule_model.specs.RowDef.{Trace, RowDef, running_on, holder_in}
use Rattle.schedule_model.specs.Phase.{Phase, is_local, is_asking, phase_of}
use Rattle.schedule_model.specs.Phase.Phase.{Local, Asking, Finished}
use Rattle.schedule_model.specs.Activity.{task_of, processor_of, is_active, is_requester, is_active_local, holds_by}
use Rattle.schedule_model.specs.DpcpRules.{home_of, has_request_at, has_requests, holds_at, KeepsRun, KeepsIdle}
use Rattle.schedule_model.specs.DpcpRules.{RunsFirstHolder, KeepsPriority}
use Rattle.schedule_model.proofs.RuleTests.{or_other}
use Rattle.schedule_laws.proofs.ActiveJobs.{active_listed, requester_from, ActiveLocal, active_local_is, active_local_from}
use Rattle.schedule_laws.proofs.Rows.{job_named, named_job}
use Rattle.schedule_laws.proofs.RuleUses.{request_among}
use Rattle.schedule_laws.proofs.DpcpStretches.{RequestAt, request_at_is}
use Rattle.phase_machine.specs.MachineDef.{MachineDef, task_in, under}
use Rattle.phase_machine.specs.Shows.{Shows}
use Rattle.phase_machine.specs.Now.{is_local_now, holds_now}
use Rattle.shared_rules.proofs.Currents.{each_is, each_from}
use Rattle.dpcp_rules.specs.Homes.{column_now}
use Rattle.dpcp_rules.specs.RowTests.{idle_passes, passes_idle, is_no_later, goes_first, priority_passes, passes_priority}
use Rattle.dpcp_rules.proofs.Shown.{request_at_from, HolderAt, holds_at_is, holds_at_from}
use Rattle.dpcp_rules.proofs.Shown.{phase_is, column_is, unfinished}

-- Where some job has a request at a processor, there is one.
pub some_request : (m : MachineDef) (rows : ℕ → RowDef) (k : ℕ) → has_requests (under m rows) m.tick k ≡ true
    → (j : ℕ) × (has_request_at (under m rows) m.tick k j ≡ true)
unfolding has_requests
some_request m rows k h =
    let s : (j : ℕ) × (j < length m.list.jobs) × (has_request_at (under m rows) m.tick k j ≡ true) =
    any_below-some (length m.list.jobs) (has_request_at (under m rows) m.tick k) h in
    (s.0, s.2)

-- A request runs at its home.
pub column_of_request : (m : MachineDef) (rows : ℕ → RowDef) (k j : ℕ) → Shows m rows
    → RequestAt (under m rows) m.tick k j → column_now m j ≡ k
column_of_request m rows k j shows r = column_is m rows j (Asking r.number r.resource) shows r.active r.phase ∙ r.home

pub column_of_local : (m : MachineDef) (rows : ℕ → RowDef) (k j : ℕ) → Shows m rows
    → ActiveLocal (under m rows) m.tick j → processor_of (under m rows) j ≡ k → column_now m j ≡ k
column_of_local m rows k j shows l own = column_is m rows j Local shows l.active l.phase ∙ own

pub idle_is : (m : MachineDef) (rows : ℕ → RowDef) → Shows m rows → passes_idle m (rows m.tick) ≡ true → KeepsIdle (under m rows) m.tick
unfolding passes_idle
idle_is m rows shows h = record {
  requests = λ k e. false_from_ne_true (has_requests (under m rows) m.tick k) (λ some. request k e (some_request m rows k some));
  locals = λ k e i l own. false_from_ne_true (is_active_local (under m rows) m.tick i)
      (λ li. local k e i own (active_local_is (under m rows) m.tick i li));
} where
  busy : (k i : ℕ) → running_on (rows m.tick) k ≡ None → is_active (under m rows) m.tick i ≡ true → column_now m i ≡ k → ⊥
  busy k i e a own =
      let p : is_some (running_on (rows m.tick) (column_now m i)) ≡ true = each_is m rows (idle_passes m (rows m.tick)) i shows h a in
      let x : false ≡ true = sym (ap (λ c. is_some (running_on (rows m.tick) c)) own ∙ ap is_some e) ∙ p in
      cc

  request : (k : ℕ) → running_on (rows m.tick) k ≡ None → (j : ℕ) × (has_request_at (under m rows) m.tick k j ≡ true) → ⊥
  request k e s = let r : RequestAt (under m rows) m.tick k s.0 = request_at_is (under m rows) m.tick k s.0 s.1 in
      busy k s.0 e r.active (column_of_request m rows k s.0 shows r)

  local : (k : ℕ) → running_on (rows m.tick) k ≡ None → (i : ℕ) → processor_of (under m rows) i ≡ k
      → ActiveLocal (under m rows) m.tick i → ⊥
  local k e i own l = busy k i e l.active (column_of_local m rows k i shows l own)

pub idle_from : (m : MachineDef) (rows : ℕ → RowDef) → Shows m rows → KeepsIdle (under m rows) m.tick → passes_idle m (rows m.tick) ≡ true
unfolding passes_idle
idle_from m rows shows idle = each_from m rows (idle_passes m (rows m.tick)) shows
    (λ j a. at_job j a (running_on (rows m.tick) (column_now m j)) refl)
  where
    not_idle : (j : ℕ) (p : Phase) → is_active (under m rows) m.tick j ≡ true → phase_of (under m rows) m.tick j ≡ p
        → running_on (rows m.tick) (column_now m j) ≡ None → ⊥
    not_idle j Finished a f e = unfinished (under m rows) m.tick j a f
    not_idle j Local a f e =
        let none : is_active_local (under m rows) m.tick j ≡ false =
        idle.locals (column_now m j) e j (active_listed (under m rows) m.tick j a) (sym (column_is m rows j Local shows a f)) in
        both_ways (is_active_local (under m rows) m.tick j) none (active_local_from (under m rows) m.tick j a f)
    not_idle j (Asking n q) a f e =
        both_ways (has_requests (under m rows) m.tick (column_now m j)) (idle.requests (column_now m j) e)
        (request_among (under m rows) m.tick (column_now m j) j (active_listed (under m rows) m.tick j a)
        (request_at_from (under m rows) m.tick (column_now m j) j n q a f (sym (column_is m rows j (Asking n q) shows a f))))

    at_job : (j : ℕ) → is_active (under m rows) m.tick j ≡ true → (o : Option ℕ)
        → running_on (rows m.tick) (column_now m j) ≡ o → idle_passes m (rows m.tick) j ≡ true
    at_job j a None e = absurd (not_idle j (phase_of (under m rows) m.tick j) a refl e)
    at_job j a (Some r) e = ap is_some e

-- What the test of Priority says where a job runs, by whether the job that is asked about is Local.
pub by_local : (l a b : Bool) → cond l a b ≡ true → l ≡ true → a ≡ true
by_local true a b h e = h
by_local false a b h e = absurd (cc)

pub by_request : (l a b : Bool) → cond l a b ≡ true → l ≡ false → b ≡ true
by_request true a b h e = absurd (cc)
by_request false a b h e = h

pub local_now : (m : MachineDef) (rows : ℕ → RowDef) (j : ℕ) (p : Phase) → Shows m rows
    → is_active (under m rows) m.tick j ≡ true → phase_of (under m rows) m.tick j ≡ p → is_local_now m j ≡ is_local p
local_now m rows j p shows a e = ap is_local (phase_is m rows j p shows a e)

-- A holder at a processor holds, as the machine says, and one that holds and runs there is one.
pub holds_of : (m : MachineDef) (rows : ℕ → RowDef) (k j : ℕ) → Shows m rows → HolderAt (under m rows) m.tick k j
    → holds_now m (holder_in (rows m.tick)) j ≡ true
holds_of m rows k j shows h =
    ap (holds_by (holder_in (rows m.tick)) j)
    (phase_is m rows j (Asking h.request.number h.request.resource) shows h.request.active h.request.phase)
    ∙ named_job j (holder_in (rows m.tick) h.request.resource) h.holds

-- What a job that runs is, in a row that keeps Run.
pub runner_phase : (m : MachineDef) (rows : ℕ → RowDef) (k r n q : ℕ) → KeepsRun (under m rows) m.tick
    → running_on (rows m.tick) k ≡ Some r → phase_of (under m rows) m.tick r ≡ Asking n q
    → holds_at (under m rows) m.tick k r ≡ true
runner_phase m rows k r n q run e f =
    let here : (k ≡ home_of (under m rows) q) × (holder_in (rows m.tick) q ≡ Some r) =
    run.request k r q e (ap (is_asking q) f ∙ eq-eqb q q refl) in
    holds_at_from (under m rows) m.tick k r n q (run.active k r e) f (sym here.0) here.1

pub runner_holds : (m : MachineDef) (rows : ℕ → RowDef) (k r : ℕ) (p : Phase) → Shows m rows
    → KeepsRun (under m rows) m.tick → running_on (rows m.tick) k ≡ Some r → phase_of (under m rows) m.tick r ≡ p
    → holds_now m (holder_in (rows m.tick)) r ≡ true → holds_at (under m rows) m.tick k r ≡ true
runner_holds m rows k r Local shows run e f h =
    let x : false ≡ true =
    sym (ap (holds_by (holder_in (rows m.tick)) r) (phase_is m rows r Local shows (run.active k r e) f)) ∙ h in
    absurd (cc)
runner_holds m rows k r Finished shows run e f h = absurd (unfinished (under m rows) m.tick r (run.active k r e) f)
runner_holds m rows k r (Asking n q) shows run e f h = runner_phase m rows k r n q run e f

-- Do these numbers of jobs give the order at the machine's tick?
abbrev pub Gives : (Trace → ℕ → ℕ → ℕ) → (MachineDef → ℕ → ℕ) → Type 0
Gives rank number = (m : MachineDef) (rows : ℕ → RowDef) → Shows m rows → (q j : ℕ) → is_requester (under m rows) m.tick q j ≡ true
    → number m j ≡ rank (under m rows) m.tick j

pub number_shown : (rank : Trace → ℕ → ℕ → ℕ) (number : MachineDef → ℕ → ℕ) (m : MachineDef) (rows : ℕ → RowDef) → Gives rank number
    → (k j : ℕ) → Shows m rows → RequestAt (under m rows) m.tick k j → number m j ≡ rank (under m rows) m.tick j
number_shown rank number m rows gives k j shows r =
    gives m rows shows r.resource j (requester_from (under m rows) m.tick r.resource j r.number r.active r.phase)

pub priority_is : (rank : Trace → ℕ → ℕ → ℕ) (number : MachineDef → ℕ → ℕ) (m : MachineDef) (rows : ℕ → RowDef) → Gives rank number
    → Shows m rows → KeepsRun (under m rows) m.tick → passes_priority m (number m) (rows m.tick) ≡ true
    → KeepsPriority rank (under m rows) m.tick
unfolding passes_priority
priority_is rank number m rows gives shows run h = record {
  requests = λ k some. requests k (some_request m rows k some);
  locals = λ k r e none i l own li. locals k r i e none own (active_local_is (under m rows) m.tick i li);
} where
  at : (k j : ℕ) (o : Option ℕ) → is_active (under m rows) m.tick j ≡ true → column_now m j ≡ k
      → running_on (rows m.tick) k ≡ o → goes_first m (number m) (rows m.tick) j o ≡ true
  at k j o a own e =
      sym (ap (goes_first m (number m) (rows m.tick) j) (ap (running_on (rows m.tick)) own ∙ e))
      ∙ each_is m rows (priority_passes m (number m) (rows m.tick)) j shows h a

  asks : (k j : ℕ) → RequestAt (under m rows) m.tick k j → is_local_now m j ≡ false
  asks k j r = local_now m rows j (Asking r.number r.resource) shows r.active r.phase

  -- What runs against a request.
  against : (k j r : ℕ) → RequestAt (under m rows) m.tick k j → running_on (rows m.tick) k ≡ Some r
      → (holds_now m (holder_in (rows m.tick)) r && (not (holds_now m (holder_in (rows m.tick)) j) || is_no_later (number m) r j)) ≡ true
  against k j r q e =
      by_request (is_local_now m j) (not (is_local_now m r) || is_no_later (task_in m.list.jobs) r j)
      (holds_now m (holder_in (rows m.tick)) r && (not (holds_now m (holder_in (rows m.tick)) j) || is_no_later (number m) r j))
      (at k j (Some r) q.active (column_of_request m rows k j shows q) e) (asks k j q)

  holds : (k j r : ℕ) → RequestAt (under m rows) m.tick k j → running_on (rows m.tick) k ≡ Some r → HolderAt (under m rows) m.tick k r
  holds k j r q e =
      holds_at_is (under m rows) m.tick k r
      (runner_holds m rows k r (phase_of (under m rows) m.tick r) shows run e refl
      (and_parts (holds_now m (holder_in (rows m.tick)) r)
      (not (holds_now m (holder_in (rows m.tick)) j) || is_no_later (number m) r j) (against k j r q e)).0)

  first : (k i r : ℕ) → running_on (rows m.tick) k ≡ Some r → HolderAt (under m rows) m.tick k i
      → rank (under m rows) m.tick r ≤ rank (under m rows) m.tick i
  first k i r e holder =
      let p = and_parts (holds_now m (holder_in (rows m.tick)) r)
      (not (holds_now m (holder_in (rows m.tick)) i) || is_no_later (number m) r i) (against k i r holder.request e) in
      let le : number m r ≤ number m i =
      leb-true (number m r) (number m i)
      (or_other (not (holds_now m (holder_in (rows m.tick)) i)) (is_no_later (number m) r i) p.1
      (ap not (holds_of m rows k i shows holder))) in
      let runner : HolderAt (under m rows) m.tick k r = holds k i r holder.request e in
      omega (
        arith,
        le,
        number_shown rank number m rows gives k r shows runner.request,
        number_shown rank number m rows gives k i shows holder.request,
      )

  runs : (k j : ℕ) (o : Option ℕ) → RequestAt (under m rows) m.tick k j → running_on (rows m.tick) k ≡ o
      → RunsFirstHolder rank (under m rows) m.tick k
  runs k j None q e =
      let x : false ≡ true = sym (asks k j q) ∙ at k j None q.active (column_of_request m rows k j shows q) e in absurd (cc)
  runs k j (Some r) q e =
      let holder : HolderAt (under m rows) m.tick k r = holds k j r q e in
      record {
        runner = r;
        runs = e;
        holds = holds_at_from (under m rows) m.tick k r holder.request.number holder.request.resource holder.request.active
            holder.request.phase holder.request.home holder.holds;
        first = λ i l held. first k i r e (holds_at_is (under m rows) m.tick k i held);
      }

  requests : (k : ℕ) → (j : ℕ) × (has_request_at (under m rows) m.tick k j ≡ true) → RunsFirstHolder rank (under m rows) m.tick k
  requests k s = runs k s.0 (running_on (rows m.tick) k) (request_at_is (under m rows) m.tick k s.0 s.1) refl

  local_runner : (k r : ℕ) (p : Phase) → running_on (rows m.tick) k ≡ Some r
      → has_requests (under m rows) m.tick k ≡ false → phase_of (under m rows) m.tick r ≡ p → is_local_now m r ≡ true
  local_runner k r Local e none f = local_now m rows r Local shows (run.active k r e) f
  local_runner k r Finished e none f = absurd (unfinished (under m rows) m.tick r (run.active k r e) f)
  local_runner k r (Asking n q) e none f =
      let holder : HolderAt (under m rows) m.tick k r = holds_at_is (under m rows) m.tick k r (runner_phase m rows k r n q run e f) in
      absurd (both_ways (has_requests (under m rows) m.tick k) none
      (request_among (under m rows) m.tick k r (active_listed (under m rows) m.tick r (run.active k r e))
      (request_at_from (under m rows) m.tick k r holder.request.number holder.request.resource holder.request.active
      holder.request.phase holder.request.home)))

  locals : (k r i : ℕ) → running_on (rows m.tick) k ≡ Some r → has_requests (under m rows) m.tick k ≡ false
      → processor_of (under m rows) i ≡ k → ActiveLocal (under m rows) m.tick i
      → task_of (under m rows) r ≤ task_of (under m rows) i
  locals k r i e none own l =
      let p : (not (is_local_now m r) || is_no_later (task_in m.list.jobs) r i) ≡ true =
      by_local (is_local_now m i) (not (is_local_now m r) || is_no_later (task_in m.list.jobs) r i)
      (holds_now m (holder_in (rows m.tick)) r && (not (holds_now m (holder_in (rows m.tick)) i) || is_no_later (number m) r i))
      (at k i (Some r) l.active (column_of_local m rows k i shows l own) e) (local_now m rows i Local shows l.active l.phase) in
      leb-true (task_in m.list.jobs r) (task_in m.list.jobs i)
      (or_other (not (is_local_now m r)) (is_no_later (task_in m.list.jobs) r i) p
      (ap not (local_runner k r (phase_of (under m rows) m.tick r) e none refl)))

pub priority_from : (rank : Trace → ℕ → ℕ → ℕ) (number : MachineDef → ℕ → ℕ) (m : MachineDef) (rows : ℕ → RowDef) → Gives rank number
    → Shows m rows → KeepsRun (under m rows) m.tick → KeepsPriority rank (under m rows) m.tick
    → passes_priority m (number m) (rows m.tick) ≡ true
unfolding passes_priority
priority_from rank number m rows gives shows run priority =
    each_from m rows (priority_passes m (number m) (rows m.tick)) shows (λ j a. at_job j (phase_of (under m rows) m.tick j) a refl) where
      local_first : (j r : ℕ) → is_active (under m rows) m.tick j ≡ true → phase_of (under m rows) m.tick j ≡ Local
          → running_on (rows m.tick) (column_now m j) ≡ Some r
          → (p : Phase) → phase_of (under m rows) m.tick r ≡ p → (not (is_local_now m r) || is_no_later (task_in m.list.jobs) r j) ≡ true
      local_first j r a f e Finished g = absurd (unfinished (under m rows) m.tick r (run.active (column_now m j) r e) g)
      local_first j r a f e (Asking n q) g =
          or_left (not (is_local_now m r)) (is_no_later (task_in m.list.jobs) r j)
          (ap not (local_now m rows r (Asking n q) shows (run.active (column_now m j) r e) g))
      local_first j r a f e Local g =
          or_right (not (is_local_now m r)) (is_no_later (task_in m.list.jobs) r j) (le-leb (task_in m.list.jobs r) (task_in m.list.jobs j)
          (priority.locals (column_now m j) r e none j (active_listed (under m rows) m.tick j a)
          (sym (column_is m rows j Local shows a f)) (active_local_from (under m rows) m.tick j a f))) where
            alone : RunsFirstHolder rank (under m rows) m.tick (column_now m j) → ⊥
            alone s =
                let one : Some s.runner ≡ Some r = sym s.runs ∙ e in
                let same : s.runner ≡ r = cc in
                let holder : HolderAt (under m rows) m.tick (column_now m j) s.runner =
                holds_at_is (under m rows) m.tick (column_now m j) s.runner s.holds in
                let x : Asking holder.request.number holder.request.resource ≡ Local =
                sym holder.request.phase ∙ ap (phase_of (under m rows) m.tick) same ∙ g in
                cc

            none : has_requests (under m rows) m.tick (column_now m j) ≡ false
            none = false_from_ne_true (has_requests (under m rows) m.tick (column_now m j))
                (λ some. alone (priority.requests (column_now m j) some))

      local_case : (j : ℕ) → is_active (under m rows) m.tick j ≡ true → phase_of (under m rows) m.tick j ≡ Local
          → (o : Option ℕ) → running_on (rows m.tick) (column_now m j) ≡ o
          → goes_first m (number m) (rows m.tick) j o ≡ true
      local_case j a f None e = local_now m rows j Local shows a f
      local_case j a f (Some r) e = rw (local_now m rows j Local shows a f) (local_first j r a f e (phase_of (under m rows) m.tick r) refl)

      request_first : (j r n q : ℕ) → is_active (under m rows) m.tick j ≡ true
          → phase_of (under m rows) m.tick j ≡ Asking n q → running_on (rows m.tick) (column_now m j) ≡ Some r
          → RunsFirstHolder rank (under m rows) m.tick (column_now m j) → (holds_now m (holder_in (rows m.tick)) r
          && (not (holds_now m (holder_in (rows m.tick)) j) || is_no_later (number m) r j)) ≡ true
      request_first j r n q a f e s =
          and_from (holds_now m (holder_in (rows m.tick)) r) (not (holds_now m (holder_in (rows m.tick)) j) || is_no_later (number m) r j)
          (sym (ap (holds_now m (holder_in (rows m.tick))) same) ∙ holds_of m rows (column_now m j) s.runner shows holder)
          (elim (cases_Bool (holds_now m (holder_in (rows m.tick)) j)) [
            | inr fails ↦ or_left (not (holds_now m (holder_in (rows m.tick)) j)) (is_no_later (number m) r j)
                (not_from_false (holds_now m (holder_in (rows m.tick)) j) fails)
            | inl truly ↦ or_right (not (holds_now m (holder_in (rows m.tick)) j)) (is_no_later (number m) r j)
                (le-leb (number m r) (number m j) (leads truly))
          ]) where
            same : s.runner ≡ r
            same = let one : Some s.runner ≡ Some r = sym s.runs ∙ e in cc

            holder : HolderAt (under m rows) m.tick (column_now m j) s.runner
            holder = holds_at_is (under m rows) m.tick (column_now m j) s.runner s.holds

            mine : RequestAt (under m rows) m.tick (column_now m j) j
            mine = record { active = a; number = n; resource = q; phase = f; home = sym (column_is m rows j (Asking n q) shows a f) }

            leads : holds_now m (holder_in (rows m.tick)) j ≡ true → number m r ≤ number m j
            leads truly =
                let le : rank (under m rows) m.tick s.runner ≤ rank (under m rows) m.tick j =
                s.first j (active_listed (under m rows) m.tick j a)
                (holds_at_from (under m rows) m.tick (column_now m j) j n q a f mine.home
                (job_named j (holder_in (rows m.tick) q) (sym
                (ap (holds_by (holder_in (rows m.tick)) j) (phase_is m rows j (Asking n q) shows a f)) ∙ truly))) in
                omega (
                  arith,
                  le,
                  ap (number m) same,
                  number_shown rank number m rows gives (column_now m j) s.runner shows holder.request,
                  number_shown rank number m rows gives (column_now m j) j shows mine,
                )

      request_case : (j n q : ℕ) → is_active (under m rows) m.tick j ≡ true
          → phase_of (under m rows) m.tick j ≡ Asking n q → RunsFirstHolder rank (under m rows) m.tick (column_now m j)
          → (o : Option ℕ) → running_on (rows m.tick) (column_now m j) ≡ o → goes_first m (number m) (rows m.tick) j o ≡ true
      request_case j n q a f s None e = let x : Some s.runner ≡ None = sym s.runs ∙ e in absurd (cc)
      request_case j n q a f s (Some r) e = rw (local_now m rows j (Asking n q) shows a f) (request_first j r n q a f e s)

      at_job : (j : ℕ) (p : Phase) → is_active (under m rows) m.tick j ≡ true → phase_of (under m rows) m.tick j ≡ p
          → priority_passes m (number m) (rows m.tick) j ≡ true
      at_job j Finished a f = absurd (unfinished (under m rows) m.tick j a f)
      at_job j Local a f = local_case j a f (running_on (rows m.tick) (column_now m j)) refl
      at_job j (Asking n q) a f =
          let here : has_request_at (under m rows) m.tick (column_now m j) j ≡ true = request_at_from (under m rows)
          m.tick (column_now m j) j n q a f (sym (column_is m rows j (Asking n q) shows a f)) in
          let some : has_requests (under m rows) m.tick (column_now m j) ≡ true =
          request_among (under m rows) m.tick (column_now m j) j (active_listed (under m rows) m.tick j a) here in
          request_case j n q a f (priority.requests (column_now m j) some) (running_on (rows m.tick) (column_now m j)) refl
