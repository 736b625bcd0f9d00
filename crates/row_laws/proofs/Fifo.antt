-- Turns. If requests are served in the order of issue, what holds or runs while a job waits was issued no later than the job's own request.
-- So it was open when that request was issued, and each request of the job pays for one request. Then come the rows of FMLP+.
use Rattle.std.proofs.Common.{◌≡◌, ℕ, zero, suc, ◌<◌, ◌≤◌, ◌*◌, ◌==◌, ◌&&◌, not, Bool, true, false, length, refl, sym, ap, subst, ◌∙◌}
use Rattle.std.proofs.Common.{arith, inl, inr, Some}
use Rattle.std.proofs.Math.Nat.{mul-le-mul_left}
use Rattle.std.proofs.lemmas.Bool.{cases_Bool, both_ways, and_parts, eqb-true, eq-eqb, not-true}
use Rattle.number_laws.specs.Sums.{sum_below, flag, only_if}
use Rattle.sporadic_model.specs.Users.{count_of, length_of}
use Rattle.schedule_model.specs.declared.rule.Rule.TheVariants as rule
use Rattle.schedule_model.specs.JobDef.{job_of}
use Rattle.schedule_model.specs.LawfulJobs.{is_script, IsLawfulJob, AreLawfulJobs}
use Rattle.schedule_model.specs.RowDef.{Trace, jobs_of, is_job, holder_in, held_before}
use Rattle.schedule_model.specs.Phase.{is_same_request, phase_of}
use Rattle.schedule_model.specs.Phase.Phase.{Local, Asking}
use Rattle.schedule_model.specs.Activity.{task_of, is_active, is_requester, issue_tick_of}
use Rattle.schedule_model.specs.SharedRules.{KeepsGrant}
use Rattle.schedule_model.specs.Ranks.{fmlp_plus}
use Rattle.schedule_model.specs.Protocols.{shared_rule}
use Rattle.schedule_model.specs.Keeping.{KeepsBefore}
use Rattle.schedule_laws.specs.Agreement.{RunsActiveBefore}
use Rattle.blocking_columns.specs.declared.columns.Class.{Class}
use Rattle.blocking_columns.specs.declared.columns.Class.TheVariants.{Direct, Indirect, Preemption}
use Rattle.blocking_columns.specs.ColumnDef.{ColumnDef, is_direct, is_preemption}
use Rattle.direct_constraints.specs.Rows.{turn_row}
use Rattle.indirect_constraints.specs.Rows.{queue_row}
use Rattle.charge_laws.specs.Charges.{shared_charge}
use Rattle.charge_laws.specs.Windows.{window_end}
use Rattle.charge_laws.proofs.SharedCharging.{WaitsFor, DirectBy, IndirectBy, SharedReason, shared_reason}
use Rattle.row_laws.specs.Meeting.{Charges, brings, TicksMeet}
use Rattle.row_laws.proofs.Brings.{Window, column_with, Hit, Counted, flag_times-at_most, flag_times-passes}
use Rattle.row_laws.proofs.JobRows.{HitJob, hit_job}
use Rattle.row_laws.proofs.SlotRow.{OneRequest}
use Rattle.row_laws.proofs.Requests.{direct_is, AsksAlone, tasks_ask_alone, one_open, direct_by, held_resource}
use Rattle.row_laws.proofs.Numbers.{sum_below-only, OwnRequest, by_number}
use Rattle.schedule_laws.proofs.Ticks.{same_true, one_resource}
use Rattle.schedule_laws.proofs.ActiveJobs.{Requester, requester_is, requester_from, requester_listed}
use Rattle.schedule_laws.proofs.Rows.{job_named, named_job}
use Rattle.schedule_laws.proofs.Holders.{open_at, open_active}
use Rattle.schedule_laws.proofs.SharedLaws.{shared_runs_active}
use Rattle.schedule_laws.proofs.Issues.{issue_at_most, issue_no_later, issue_stays, issue_new, open_since}

-- A request of one tick is the one of the next tick that the job is in, since it runs no Local tick there.
pub open_before : (w : Trace) (u y m q : ℕ) → is_script (job_of w.jobs y).script ≡ true → phase_of w u y ≡ Asking m q → (k r : ℕ)
    → phase_of w (suc u) y ≡ Asking k r → phase_of w u y ≡ Asking k r
open_before w u y m q script early k r late =
    open_at w u (suc u) y k r script (omega arith) late
    (λ t a b local runs. let e : t ≡ u = omega arith in let x : Local ≡ Asking m q = sym local ∙ ap (λ z. phase_of w z y) e ∙ early in
    cc)

-- If a new holder takes a resource, it was issued no later than any other request of it.
pub fifo_new : (w : Trace) (t q y j : ℕ) → KeepsGrant fmlp_plus w t → holder_in (w.row t) q ≡ Some y → is_job y (held_before w t q) ≡ false
    → is_requester w t q j ≡ true → issue_tick_of w t y ≤ issue_tick_of w t j
unfolding fmlp_plus
fifo_new w t q y j grant holds new asks =
    grant.first q y holds (λ e. both_ways (is_job y (held_before w t q)) new (named_job y (held_before w t q) e)) j
    (requester_listed w t q j asks) asks

-- Is each resource granted in the order of issue, in each row before the n-th?
abbrev pub GrantsByIssue : Trace → ℕ → Type 0
GrantsByIssue w n = (t : ℕ) → t < n → KeepsGrant fmlp_plus w t

-- The holder of a resource was issued no later than any request of it.
pub fifo_holder : (w : Trace) (n t q y j : ℕ) → AreLawfulJobs (jobs_of w) → RunsActiveBefore w n → GrantsByIssue w n → t < n
    → holder_in (w.row t) q ≡ Some y → is_requester w t q j ≡ true
    → issue_tick_of w t y ≤ issue_tick_of w t j
fifo_holder w n zero q y j lawful runs grants l holds asks = fifo_new w zero q y j (grants zero l) holds refl asks
fifo_holder w n (suc u) q y j lawful runs grants l holds asks = elim (cases_Bool (is_job y (holder_in (w.row u) q))) [
  | inr new ↦ fifo_new w (suc u) q y j (grants (suc u) l) holds new asks
  | inl old ↦ let held : holder_in (w.row u) q ≡ Some y = job_named y (holder_in (w.row u) q) old in
      kept held (λ there. fifo_holder w n u q y j lawful runs grants (omega arith) held there)
] where
  mine : Requester w (suc u) q j
  mine = requester_is w (suc u) q j asks

  holder : Requester w (suc u) q y
  holder = let grant : KeepsGrant fmlp_plus w (suc u) = grants (suc u) l in
      requester_is w (suc u) q y (grant.requests q y holds)

  script : (i : ℕ) → is_requester w (suc u) q i ≡ true → is_script (job_of w.jobs i).script ≡ true
  script i h = (lawful.each i (requester_listed w (suc u) q i h)).script

  kept : holder_in (w.row u) q ≡ Some y → (is_requester w u q j ≡ true → issue_tick_of w u y ≤ issue_tick_of w u j)
      → issue_tick_of w (suc u) y ≤ issue_tick_of w (suc u) j
  kept held back = elim (cases_Bool (is_same_request (phase_of w u j) (phase_of w (suc u) j))) [
    | inr new ↦ omega (arith, issue_new w u j new, issue_at_most w (suc u) y)
    | inl same ↦
        let there : is_same_request (phase_of w u j) (Asking mine.number q) ≡ true = rw mine.phase at same in
        let some : (r : ℕ) × (phase_of w u j ≡ Asking mine.number r) = same_true (phase_of w u j) mine.number q there in
        let active : is_active w u j ≡ true =
        open_active w n u j mine.number some.0 runs (omega arith) (script j asks) some.1 in
        let resource : some.0 ≡ q = one_resource w u (suc u) j mine.number some.0 q some.1 mine.phase in
        let early : phase_of w u j ≡ Asking mine.number q = some.1 ∙ ap (Asking mine.number) resource in
        let grant : KeepsGrant fmlp_plus w u = grants u (omega arith) in
        let was : Requester w u q y = requester_is w u q y (grant.requests q y held) in
        let open_y : phase_of w u y ≡ Asking holder.number q =
        open_before w u y was.number q
        (script y ((λ (g : KeepsGrant fmlp_plus w (suc u)). g.requests q y holds) (grants (suc u) l))) was.phase holder.number q holder.phase in
        let stays_y : issue_tick_of w u y ≡ issue_tick_of w (suc u) y =
        issue_stays w u (suc u) y holder.number q q open_y holder.phase (omega arith) in
        let stays_j : issue_tick_of w u j ≡ issue_tick_of w (suc u) j =
        issue_stays w u (suc u) j mine.number q q early mine.phase (omega arith) in
        omega (arith, back (requester_from w u q j mine.number active early), stays_y, stays_j)
  ]

-- Rows of turns. Job j is in a request of a resource that passes, and job y's request was issued no later than that.
pub record InTurn (w : Trace) (t j y : ℕ) (ok : ℕ → Bool) : Type 0 where
  pub own : OwnRequest w t j ok
  pub earlier : issue_tick_of w t y ≤ issue_tick_of w t j

-- Is each tick that a row counts charged to a job with this number that is in turn?
abbrev pub AreTurns : Charges → Trace → ℕ → ℕ → (ColumnDef → Bool) → (ℕ → ℕ) → ℕ → (ℕ → Bool) → Type 0
AreTurns charges w n j counts kind x ok =
    (t : ℕ) → t < n → (c : Counted charges w counts j t) → (kind c.charge.job ≡ x) × InTurn w t j c.charge.job ok

-- While job j is in one request, take the jobs of one number that ask alone and were issued no later. They are one job, in one request,
-- which was open when j's was issued.
pub one_turn : (w : Trace) (n u v j y z k q r p m o : ℕ) (kind : ℕ → ℕ) → RunsActiveBefore w n → AsksAlone w n kind → u ≤ v → v < n
    → is_script (job_of w.jobs z).script ≡ true → phase_of w u j ≡ Asking k q → phase_of w v j ≡ Asking k r
    → is_requester w u p y ≡ true → phase_of w v z ≡ Asking m o → kind y ≡ kind z
    → issue_tick_of w v z ≤ issue_tick_of w v j → OneRequest w u v y z
one_turn w n u v j y z k q r p m o kind runs alone order l script early late asks there same earlier =
    one_open w n u v y z p m o kind runs alone (omega arith) script asks same
    (open_since w u v z m o there (omega (arith, earlier, issue_no_later w u v j k q r early late)) order) there

-- So j's own requests that pass pay for what such a row counts, whatever the protocol.
pub turns_met : (charges : Charges) (w : Trace) (bound : ℕ → ℕ) (n j x s : ℕ) (share : ℕ → ℕ → ℕ) (counts : ColumnDef → Bool)
    (kind : ℕ → ℕ) (ok : ℕ → Bool) → Window charges w bound n j → AsksAlone w n kind → AreTurns charges w n j counts kind x ok
    → ((y q : ℕ) → share y q * length_of w.set y q ≤ s)
    → sum_below (window_end w bound n j) (λ t. brings charges w (λ c. flag (counts c) * share c.task c.resource) j t)
    ≤ s * sum_below (length w.set.resources) (λ q. only_if (ok q) (count_of w.set (task_of w j) q))
turns_met charges w bound n j x s share counts kind ok window alone turns fair =
    by_number charges w bound n j s share f ok window
    (record { fair = fair; small = λ c. flag_times-at_most (counts c) (share c.task c.resource) })
    (λ t l h. (turn t (omega arith) h).1.own) one where
      f : ColumnDef → ℕ
      f = λ c. flag (counts c) * share c.task c.resource

      turn : (t : ℕ) → t < n → (h : Hit charges w f j t) → (kind h.charge.job ≡ x) × InTurn w t j h.charge.job ok
      turn t l h = turns t l (record {
        charge = h.charge;
        is_it = h.is_it;
        number = h.number;
        resource = h.resource;
        request = h.request;
        passes = flag_times-passes (counts (column_with w h.charge h.resource)) (share (task_of w h.charge.job) h.resource) h.some;
      })

      one : (u v k q r : ℕ) → u ≤ v → v < window_end w bound n j → (a : Hit charges w f j u) → (b : Hit charges w f j v)
          → phase_of w u j ≡ Asking k q → phase_of w v j ≡ Asking k r → OneRequest w u v a.charge.job b.charge.job
      one u v k q r order l a b early late =
          let there : HitJob charges w bound j u a.charge.job = hit_job charges w bound n j u f window (omega arith) a in
          let later : HitJob charges w bound j v b.charge.job = hit_job charges w bound n j v f window l b in
          let lawful : IsLawfulJob w.set (job_of w.jobs b.charge.job) = window.lawful.each b.charge.job later.listed in
          let first : (kind a.charge.job ≡ x) × InTurn w u j a.charge.job ok = turn u (omega arith) a in
          let last : (kind b.charge.job ≡ x) × InTurn w v j b.charge.job ok = turn v (omega arith) b in
          one_turn w n u v j a.charge.job b.charge.job k q r a.resource b.number b.resource kind window.active alone order (omega arith)
          lawful.script early late (requester_from w u a.resource a.charge.job a.number there.active a.request) b.request
          (first.0 ∙ sym last.0) last.1.earlier

-- The same for the job's requests of one resource.
pub turns_of_met : (charges : Charges) (w : Trace) (bound : ℕ → ℕ) (n j x q s : ℕ) (share : ℕ → ℕ → ℕ) (counts : ColumnDef → Bool)
    (kind : ℕ → ℕ) → Window charges w bound n j → AsksAlone w n kind → AreTurns charges w n j counts kind x (λ r. r == q)
    → ((y r : ℕ) → share y r * length_of w.set y r ≤ s)
    → sum_below (window_end w bound n j) (λ t. brings charges w (λ c. flag (counts c) * share c.task c.resource) j t)
    ≤ s * count_of w.set (task_of w j) q
turns_of_met charges w bound n j x q s share counts kind window alone turns fair =
    omega (
      arith,
      turns_met charges w bound n j x s share counts kind (λ r. r == q) window alone turns fair,
      mul-le-mul_left s (sum_below-only (length w.set.resources) q (count_of w.set (task_of w j))),
    )

-- The row of turns, however ticks are charged, if what is charged directly is in turn, in a request of the resource that j itself requests.
pub turn_row_by : (charges : Charges) (w : Trace) (bound : ℕ → ℕ) (n j x q : ℕ) → Window charges w bound n j
    → ((t : ℕ) → t < n → (c : Counted charges w (λ d. is_direct d.class) j t) → InTurn w t j c.charge.job (λ r. r == c.resource))
    → TicksMeet charges w bound n j (turn_row w.set (task_of w j) x q)
turn_row_by charges w bound n j x q window direct s share fair =
    turns_of_met charges w bound n j x q s share counts (task_of w) window (tasks_ask_alone w n) turns fair where
      counts : ColumnDef → Bool
      counts = λ c. ((c.task == x) && (c.resource == q)) && is_direct c.class

      turns : (t : ℕ) → t < n → (c : Counted charges w counts j t)
          → (task_of w c.charge.job ≡ x) × InTurn w t j c.charge.job (λ r. r == q)
      turns t l c =
          let parts : (((task_of w c.charge.job == x) && (c.resource == q)) ≡ true) × (is_direct c.charge.class ≡ true) =
          and_parts _ _ c.passes in
          let both : ((task_of w c.charge.job == x) ≡ true) × ((c.resource == q) ≡ true) = and_parts _ _ parts.0 in
          let turn : InTurn w t j c.charge.job (λ r. r == c.resource) =
          direct t l (record {
            charge = c.charge;
            is_it = c.is_it;
            number = c.number;
            resource = c.resource;
            request = c.request;
            passes = parts.1;
          }) in
          (eqb-true _ _ both.0, subst (λ (z : ℕ). InTurn w t j c.charge.job (λ r. r == z)) (eqb-true _ _ both.1) turn)

-- Under FMLP+ the holder of the resource that a job waits for is in turn,
pub holder_in_turn : (w : Trace) (n t j y : ℕ) (ok : ℕ → Bool) → AreLawfulJobs (jobs_of w) → KeepsBefore (shared_rule fmlp_plus) w n → t < n
    → (a : WaitsFor w t j y) → ok a.resource ≡ true → InTurn w t j y ok
holder_in_turn w n t j y ok lawful keeps l a passes = record {
  own = record { number = a.number; resource = a.resource; request = a.request; passes = passes };
  earlier = fifo_holder w n t a.resource y j lawful (shared_runs_active fmlp_plus w n keeps) (λ u b. keeps u b rule.Grant) l a.holder
      (requester_from w t a.resource j a.number a.active a.request);
}

-- and so is the job that runs before that holder.
pub runs_first : (w : Trace) (t j r : ℕ) → (by : IndirectBy fmlp_plus w t j r) → issue_tick_of w t r ≤ issue_tick_of w t by.first
unfolding fmlp_plus
runs_first w t j r by = by.order

charged_in_turn : (w : Trace) (n t j y : ℕ) (c : Class) → AreLawfulJobs (jobs_of w) → KeepsBefore (shared_rule fmlp_plus) w n → t < n
    → is_preemption c ≡ false → SharedReason fmlp_plus w t j c y → InTurn w t j y (λ q. true)
charged_in_turn w n t j y Direct lawful keeps l other why = holder_in_turn w n t j y (λ q. true) lawful keeps l why.waits refl
charged_in_turn w n t j y Indirect lawful keeps l other why =
    let first : InTurn w t j why.first (λ q. true) = holder_in_turn w n t j why.first (λ q. true) lawful keeps l why.waits refl in
    record { own = first.own; earlier = omega (arith, first.earlier, runs_first w t j y why) }
charged_in_turn w n t j y Preemption lawful keeps l other why = absurd (cc)

-- The row of turns.
pub turn_row_met : (w : Trace) (bound : ℕ → ℕ) (n j x q : ℕ) → Window shared_charge w bound n j → KeepsBefore (shared_rule fmlp_plus) w n
    → TicksMeet shared_charge w bound n j (turn_row w.set (task_of w j) x q)
turn_row_met w bound n j x q window keeps = turn_row_by shared_charge w bound n j x q window (λ t l c. direct t l c) where
  direct : (t : ℕ) → t < n → (c : Counted shared_charge w (λ d. is_direct d.class) j t)
      → InTurn w t j c.charge.job (λ r. r == c.resource)
  direct t l c =
      let why : DirectBy w t j c.charge.job =
      direct_by fmlp_plus w t j c.charge.job c.charge.class (direct_is c.charge.class c.passes)
      (shared_reason fmlp_plus w t j c.charge (keeps t l) c.is_it) in
      holder_in_turn w n t j c.charge.job (λ r. r == c.resource) window.lawful keeps l why.waits
      (eq-eqb why.waits.resource c.resource (held_resource w t j c.charge.job c.number c.resource why.waits c.request))

-- The row of queues.
pub queue_row_met : (w : Trace) (bound : ℕ → ℕ) (n j x : ℕ) → Window shared_charge w bound n j → KeepsBefore (shared_rule fmlp_plus) w n
    → TicksMeet shared_charge w bound n j (queue_row w.set (task_of w j) x)
queue_row_met w bound n j x window keeps s share fair =
    turns_met shared_charge w bound n j x s share counts (task_of w) (λ q. true) window (tasks_ask_alone w n) turns fair where
      counts : ColumnDef → Bool
      counts = λ c. (c.task == x) && not (is_preemption c.class)

      turns : (t : ℕ) → t < n → (c : Counted shared_charge w counts j t)
          → (task_of w c.charge.job ≡ x) × InTurn w t j c.charge.job (λ q. true)
      turns t l c =
          let both : ((task_of w c.charge.job == x) ≡ true) × (not (is_preemption c.charge.class) ≡ true) = and_parts _ _ c.passes in (
            eqb-true _ _ both.0,
            charged_in_turn w n t j c.charge.job c.charge.class window.lawful keeps l (not-true _ both.1)
                (shared_reason fmlp_plus w t j c.charge (keeps t l) c.is_it),
          )
