-- How long may a job hold a resource for which another one waits, under MPCP? At each of these ticks its own request runs on its processor,
-- or one of another task that goes first. While the resource is held no job there runs a Local tick, so it is one request of each task.
use Rattle.std.proofs.Common.{◌≡◌, ℕ, suc, ◌+◌, ◌<◌, ◌≤◌, ◌==◌, ◌&&◌, not, Bool, true, false, length, refl, sym, ap, ◌∙◌}
use Rattle.std.proofs.Common.{arith, inl, inr, Some}
use Rattle.std.proofs.lemmas.Bool.{cases_lt, cases_Bool, both_ways, and_parts, and_from, eq-eqb, eqb-true, ne_eqb, not-true, not_from_false}
use Rattle.number_laws.specs.Sums.{sum_below, flag, only_if}
use Rattle.number_laws.specs.Tests.{count_below}
use Rattle.number_laws.proofs.SumLaws.{sum_below-monotone, sum_below-plus, sum_below-swap, sum_below-term, sum_below-only_if}
use Rattle.number_laws.proofs.SumLaws.{sum_below-none_or_some}
use Rattle.number_laws.proofs.CountLaws.{count_below-monotone, count_below-split, flag-passes, flag-at_most}
use Rattle.number_laws.proofs.OnlyIfLaws.{only_if-rises}
use Rattle.sporadic_model.specs.SetDef.{task_at}
use Rattle.sporadic_model.specs.Users.{length_of}
use Rattle.sporadic_model.specs.declared.ids.Protocol.TheVariants as protocol
use Rattle.schedule_model.specs.declared.rule.Rule.TheVariants as rule
use Rattle.schedule_model.specs.JobDef.{job_of}
use Rattle.schedule_model.specs.LawfulJobs.{IsLawfulJob}
use Rattle.schedule_model.specs.RowDef.{Trace, is_job, running_on, holder_in, runs_in}
use Rattle.schedule_model.specs.Phase.{phase_of}
use Rattle.schedule_model.specs.Phase.Phase.{Asking}
use Rattle.schedule_model.specs.Activity.{task_of, processor_of, is_active, is_ready_holder, is_ready}
use Rattle.schedule_model.specs.SharedRules.{KeepsRun, KeepsPriority}
use Rattle.schedule_model.specs.Ranks.{mpcp}
use Rattle.schedule_laws.specs.Counting.{executed_in, is_request}
use Rattle.schedule_laws.proofs.ActiveJobs.{active_listed, one_active, Requester}
use Rattle.schedule_laws.proofs.Counts.{request_at_most}
use Rattle.schedule_laws.proofs.Holders.{shared_holder_stays}
use Rattle.schedule_laws.proofs.RuleUses.{ready_busy}
use Rattle.schedule_laws.proofs.Rows.{job_named, runs_from, ReadyHolder, ready_holder_is, ready_holder_from, ready_holding}
use Rattle.schedule_laws.proofs.Segments.{open_resource}
use Rattle.schedule_laws.proofs.SharedLaws.{shared_runs_active}
use Rattle.schedule_laws.proofs.Ticks.{open_between}
use Rattle.blocking_columns.specs.Columns.{may_run_before}
use Rattle.indirect_constraints.specs.Rows.{is_beside}
use Rattle.closer_mpcp_laws.specs.CloserMpcpRows.{goes_first}
use Rattle.row_laws.proofs.Holdings.{no_local_beside}
use Rattle.row_laws.proofs.LowerHolders.{holder_asks}
use Rattle.row_laws.proofs.Requests.{one_request}
use Rattle.row_laws.proofs.SharedPlacement.{mpcp_runs}
use Rattle.row_laws.proofs.SlotRow.{OneRequest}
use Rattle.window_laws.proofs.Least.{greatest_below-term}
use Rattle.window_laws.proofs.OpenRequests.{is_by, by_is, RunBy}
use Rattle.mpcp_window_laws.specs.MpcpWindows.{longest_first, may_run_instead, holding_ticks}
use Rattle.mpcp_window_laws.proofs.Waiting.{Waiting, waiting_active, waiting_unready}

-- Does job z hold q, in its request number k?
abbrev pub is_holding : Trace → ℕ → ℕ → ℕ → ℕ → Bool
is_holding w q z k t = is_job z (holder_in (w.row t) q) && is_request k q (phase_of w t z)

pub record Holds (w : Trace) (q z k t : ℕ) : Type 0 where
  pub holder : holder_in (w.row t) q ≡ Some z
  pub asks : phase_of w t z ≡ Asking k q
  pub active : is_active w t z ≡ true
  pub ready : is_ready_holder w t z ≡ true

request_true : (w : Trace) (t z a k q : ℕ) → phase_of w t z ≡ Asking a q → is_request k q (phase_of w t z) ≡ true → phase_of w t z ≡ Asking k q
request_true w t z a k q e h =
    let both : ((a == k) ≡ true) × ((q == q) ≡ true) = and_parts _ _ (rw e at h) in e ∙ ap (λ b. Asking b q) (eqb-true a k both.0)

pub holding_is : (w : Trace) (bound : ℕ → ℕ) (n u v j m q z k t : ℕ) → Waiting w bound n u v j m q → t ≤ v
    → is_holding w q z k t ≡ true → Holds w q z k t
holding_is w bound n u v j m q z k t a to h =
    let both : (is_job z (holder_in (w.row t) q) ≡ true) × (is_request k q (phase_of w t z) ≡ true) = and_parts _ _ h in
    let holder : holder_in (w.row t) q ≡ Some z = job_named z (holder_in (w.row t) q) both.0 in
    let asks : Requester w t q z = holder_asks mpcp w n t q z a.keeps (omega (arith, a.within, to)) holder in record {
      holder = holder;
      asks = request_true w t z asks.number k q asks.phase both.1;
      active = asks.active;
      ready = ready_holder_from w t z asks.number q asks.active asks.phase holder;
    }

-- Job z holds q, and a request of x that goes first runs on its processor.
pub record Instead (w : Trace) (q z k x t : ℕ) : Type 0 where
  pub job : ℕ
  pub runs : running_on (w.row t) (processor_of w z) ≡ Some job
  pub task : task_of w job ≡ x
  pub place : processor_of w job ≡ processor_of w z
  pub active : is_active w t job ≡ true
  pub number : ℕ
  pub resource : ℕ
  pub asks : phase_of w t job ≡ Asking number resource
  pub first : goes_first w.set x resource q ≡ true
  pub holds : Holds w q z k t

abbrev pub is_instead : Trace → ℕ → ℕ → ℕ → ℕ → ℕ → Bool
is_instead w q z k x t = is_holding w q z k t && is_by w (processor_of w z) x t

pub instead_is : (w : Trace) (bound : ℕ → ℕ) (n u v j m q z k x t : ℕ) → Waiting w bound n u v j m q → t ≤ v
    → may_run_instead w.set (task_of w j) (task_of w z) x ≡ true → is_instead w q z k x t ≡ true → Instead w q z k x t
instead_is w bound n u v j m q z k x t a to may h = record {
  job = r;
  runs = at.0.runs;
  task = at.1;
  place = place;
  active = runner.active;
  number = runner.number;
  resource = runner.resource;
  asks = runner.phase;
  first = and_from _ _ (not_from_false (runner.resource == q) (ne_eqb runner.resource q other_resource)) before;
  holds = holds;
} where
  l : t < n
  l = omega (arith, a.within, to)

  both : (is_holding w q z k t ≡ true) × (is_by w (processor_of w z) x t ≡ true)
  both = and_parts _ _ h

  holds : Holds w q z k t
  holds = holding_is w bound n u v j m q z k t a to both.0

  at : (r : RunBy w (processor_of w z) t) × (task_of w r.job ≡ x)
  at = by_is w (processor_of w z) x t both.1

  r : ℕ
  r = at.0.job

  place : processor_of w r ≡ processor_of w z
  place = let run : KeepsRun w t = a.keeps t l rule.Run in sym (run.column (processor_of w z) r at.0.runs)

  goes : (is_ready_holder w t r ≡ true) × (mpcp.run w t r ≤ mpcp.run w t z)
  goes =
      let priority : KeepsPriority mpcp w t = a.keeps t l rule.Priority in
      priority.holders (processor_of w z) r at.0.runs z (active_listed w t z holds.active) refl holds.ready

  runner : ReadyHolder w t r
  runner = ready_holder_is w t r goes.0

  not_holder : (r ≡ z) → ⊥
  not_holder e =
      let parts : (is_beside w.set (task_of w z) x ≡ true) × (not (x == task_of w j) ≡ true) = and_parts _ _ may in
      let other : (not (x == task_of w z) ≡ true) × _ = and_parts _ _ parts.0 in
      both_ways (x == task_of w z) (not-true _ other.0) (eq-eqb x (task_of w z) (sym at.1 ∙ ap (task_of w) e))

  other_resource : (runner.resource ≡ q) → ⊥
  other_resource e =
      let one : Some r ≡ Some z = sym runner.holds ∙ ap (holder_in (w.row t)) e ∙ holds.holder in not_holder (cc)

  before : may_run_before protocol.Mpcp w.set (task_at w.set x).processor runner.resource q ≡ true
  before =
      ap (λ y. may_run_before protocol.Mpcp w.set (task_at w.set y).processor runner.resource q) (sym at.1)
      ∙ mpcp_runs w t z r q runner.resource k runner.number holds.asks runner.phase (sym place) goes.1

-- Take two ticks of the holding at which such requests of x run. They are of one request.
one_instead : (w : Trace) (bound : ℕ → ℕ) (n u v j m q z k x s t : ℕ) → Waiting w bound n u v j m q → s ≤ t → t ≤ v
    → (a : Instead w q z k x s) → (b : Instead w q z k x t) → OneRequest w s t a.job b.job
one_instead w bound n u v j m q z k x s t c order to a b =
    one_request w n s t a.job b.job b.number b.resource (shared_runs_active mpcp w n c.keeps) (omega (arith, c.within, order, to)) order
    (c.lawful.each b.job (active_listed w t b.job b.active)).script a.active (a.task ∙ sym b.task) b.asks
    (λ e from before local runs. no_local_beside mpcp w n e q z b.job c.keeps (omega (arith, c.within, before, to))
    (shared_holder_stays mpcp w n s e q z k q c.keeps from (omega (arith, c.within, before, to)) a.holds.asks
    (open_between w s e t z k q q a.holds.asks b.holds.asks from (omega (arith, before))) a.holds.holder) b.place local runs)

-- So x runs no longer than one request that goes first may last.
pub instead_ticks : (w : Trace) (bound : ℕ → ℕ) (n u v j m q z k x span : ℕ) → Waiting w bound n u v j m q → u + span ≤ suc v
    → may_run_instead w.set (task_of w j) (task_of w z) x ≡ true
    → count_below span (λ d. is_instead w q z k x (u + d)) ≤ longest_first w.set x q
unfolding executed_in
instead_ticks w bound n u v j m q z k x span c long may =
    sum_below-none_or_some span (longest_first w.set x q) (λ d. flag (test d)) (λ d l some. from d l (flag-passes (test d) some)) where
      test : ℕ → Bool
      test = λ d. is_instead w q z k x (u + d)

      is_there : (d : ℕ) → d < span → test d ≡ true → Instead w q z k x (u + d)
      is_there d l h = instead_is w bound n u v j m q z k x (u + d) c (omega (arith, l, long)) may h

      from : (d : ℕ) → d < span → test d ≡ true → count_below span test ≤ longest_first w.set x q
      from d l h =
          let most : count_below span test ≤ count_below span (λ e. runs (u + e)) =
          count_below-monotone span test (λ e. runs (u + e)) (λ e b g. same e b g) in
          let whole : executed_in (is_request first.number first.resource) w (u + span) first.job
          ≤ length_of w.set (task_of w first.job) first.resource =
          request_at_most w.set w (u + span) first.number first.resource first.job job in
          let own : length_of w.set (task_of w first.job) first.resource ≡ length_of w.set x first.resource =
          ap (λ y. length_of w.set y first.resource) first.task in
          let term : only_if (goes_first w.set x first.resource q) (length_of w.set x first.resource) ≤ longest_first w.set x q =
          greatest_below-term (length w.set.resources) (λ r. only_if (goes_first w.set x r q) (length_of w.set x r)) first.resource
          (open_resource w.set w (u + d) first.job first.number first.resource job first.asks) in
          let counted : length_of w.set x first.resource ≤ longest_first w.set x q = rw first.first at term in
          omega (arith, most, whole, own, counted, count_below-split u span runs) where
            first : Instead w q z k x (u + d)
            first = is_there d l h

            job : IsLawfulJob w.set (job_of w.jobs first.job)
            job = c.lawful.each first.job (active_listed w (u + d) first.job first.active)

            runs : ℕ → Bool
            runs = λ t. runs_in (w.row t) first.job && is_request first.number first.resource (phase_of w t first.job)

            one : (e : ℕ) → e < span → (other : Instead w q z k x (u + e)) → OneRequest w (u + d) (u + e) first.job other.job
            one e b other = elim (cases_lt e d) [
              | inr order ↦ one_instead w bound n u v j m q z k x (u + d) (u + e) c (omega (arith, order)) (omega (arith, b, long))
                  first other
              | inl order ↦
                  let o : OneRequest w (u + e) (u + d) other.job first.job =
                  one_instead w bound n u v j m q z k x (u + e) (u + d) c (omega (arith, order)) (omega (arith, l, long)) other first in
                  record { job = sym o.job; phase = sym o.phase }
            ]

            same : (e : ℕ) → e < span → test e ≡ true → runs (u + e) ≡ true
            same e b g =
                let other : Instead w q z k x (u + e) = is_there e b g in
                let o : OneRequest w (u + d) (u + e) first.job other.job = one e b other in
                let phase : phase_of w (u + e) first.job ≡ Asking first.number first.resource =
                ap (phase_of w (u + e)) o.job ∙ sym o.phase ∙ first.asks in
                and_from _ _ (ap (runs_in (w.row (u + e))) o.job
                ∙ runs_from (w.row (u + e)) (processor_of w z) other.job other.runs)
                (ap (is_request first.number first.resource) phase
                ∙ and_from _ _ (eq-eqb first.number first.number refl) (eq-eqb first.resource first.resource refl))

-- At each tick of the holding its own request runs, or one of such a task.
pub record RunsInstead (w : Trace) (t j z : ℕ) : Type 0 where
  pub job : ℕ
  pub runs : running_on (w.row t) (processor_of w z) ≡ Some job
  pub known : task_of w job < length w.set.tasks
  pub may : may_run_instead w.set (task_of w j) (task_of w z) (task_of w job) ≡ true

pub runs_instead : (w : Trace) (bound : ℕ → ℕ) (n u v j m q z k t : ℕ) → Waiting w bound n u v j m q → u ≤ t → t ≤ v → Holds w q z k t
    → runs_in (w.row t) z ≡ false → RunsInstead w t j z
runs_instead w bound n u v j m q z k t a from to holds stands = record {
  job = r;
  runs = busy.1;
  known = (a.lawful.each r (active_listed w t r runner.active)).task;
  may = and_from _ _ (and_from _ _ (not_from_false _ (ne_eqb (task_of w r) (task_of w z) not_holder))
      (eq-eqb (processor_of w r) (processor_of w z) place))
      (not_from_false _ (ne_eqb (task_of w r) (task_of w j) not_waiting));
} where
  l : t < n
  l = omega (arith, a.within, to)

  busy : (r : ℕ) × (running_on (w.row t) (processor_of w z) ≡ Some r)
  busy = ready_busy w t z (a.keeps t l rule.Idle) (ready_holding w t z holds.ready)

  r : ℕ
  r = busy.0

  holder : is_ready_holder w t r ≡ true
  holder =
      let priority : KeepsPriority mpcp w t = a.keeps t l rule.Priority in
      (priority.holders (processor_of w z) r busy.1 z (active_listed w t z holds.active) refl holds.ready).0

  runner : ReadyHolder w t r
  runner = ready_holder_is w t r holder

  place : processor_of w r ≡ processor_of w z
  place = let run : KeepsRun w t = a.keeps t l rule.Run in sym (run.column (processor_of w z) r busy.1)

  not_holder : (task_of w r ≡ task_of w z) → ⊥
  not_holder e =
      let same : r ≡ z = one_active w t r z runner.active holds.active e in
      both_ways (runs_in (w.row t) z) stands
      (ap (runs_in (w.row t)) (sym same) ∙ runs_from (w.row t) (processor_of w z) r busy.1)

  not_waiting : (task_of w r ≡ task_of w j) → ⊥
  not_waiting e =
      let same : r ≡ j =
      one_active w t r j runner.active (waiting_active w bound n u v j m q t a from to) e in
      both_ways (is_ready w t j) (waiting_unready w bound n u v j m q t a from to)
      (ap (is_ready w t) (sym same) ∙ ready_holding w t r holder)

abbrev is_own : Trace → ℕ → ℕ → ℕ → ℕ → Bool
is_own w q z k t = runs_in (w.row t) z && is_request k q (phase_of w t z)

abbrev instead_at : Trace → ℕ → ℕ → ℕ → ℕ → ℕ → ℕ → ℕ
instead_at w j q z k t x = only_if (may_run_instead w.set (task_of w j) (task_of w z) x) (flag (is_instead w q z k x t))

own_or_instead : (w : Trace) (bound : ℕ → ℕ) (n u v j m q z k t : ℕ) → Waiting w bound n u v j m q → u ≤ t → t ≤ v
    → flag (is_holding w q z k t) ≤ flag (is_own w q z k t) + sum_below (length w.set.tasks) (instead_at w j q z k t)
own_or_instead w bound n u v j m q z k t a from to = elim (cases_Bool (is_holding w q z k t)) [
  | inr off ↦ rw off (omega arith)
  | inl on ↦ elim (cases_Bool (runs_in (w.row t) z)) [
    | inl runs ↦
        let asks : is_request k q (phase_of w t z) ≡ true =
        (and_parts (is_job z (holder_in (w.row t) q)) (is_request k q (phase_of w t z)) on).1 in
        let own : flag (is_own w q z k t) ≡ 1 = rw (runs, asks) refl in
        omega (arith, own, flag-at_most (is_holding w q z k t))
    | inr stands ↦ other on (runs_instead w bound n u v j m q z k t a from to (holding_is w bound n u v j m q z k t a to on) stands)
  ]
] where
  other : is_holding w q z k t ≡ true → RunsInstead w t j z
      → flag (is_holding w q z k t) ≤ flag (is_own w q z k t) + sum_below (length w.set.tasks) (instead_at w j q z k t)
  other on r =
      let by : is_by w (processor_of w z) (task_of w r.job) t ≡ true =
      rw (r.runs, eq-eqb (task_of w r.job) (task_of w r.job) refl) refl in
      let one : instead_at w j q z k t (task_of w r.job) ≡ 1 = rw (r.may, on, by) refl in
      omega (
        arith,
        one,
        sum_below-term (length w.set.tasks) (instead_at w j q z k t) (task_of w r.job) r.known,
        flag-at_most (is_holding w q z k t),
      )

-- So one holding lasts no longer than the set allows.
pub one_holding : (w : Trace) (bound : ℕ → ℕ) (n u v j m q z k span : ℕ) → Waiting w bound n u v j m q → u + span ≤ suc v
    → z < length w.jobs
    → count_below span (λ d. is_holding w q z k (u + d)) ≤ holding_ticks w.set (task_of w j) q (task_of w z)
unfolding executed_in
one_holding w bound n u v j m q z k span a long listed =
    let each : count_below span (λ d. is_holding w q z k (u + d))
    ≤ sum_below span (λ d. flag (is_own w q z k (u + d)) + sum_below (length w.set.tasks) (others d)) =
    sum_below-monotone span (λ d. flag (is_holding w q z k (u + d)))
    (λ d. flag (is_own w q z k (u + d)) + sum_below (length w.set.tasks) (others d))
    (λ d l. own_or_instead w bound n u v j m q z k (u + d) a (omega arith) (omega (arith, l, long))) in
    let own : executed_in (is_request k q) w (u + span) z ≤ length_of w.set (task_of w z) q =
    request_at_most w.set w (u + span) k q z (a.lawful.each z listed) in
    let rest : sum_below (length w.set.tasks) (λ x. sum_below span (λ d. others d x))
    ≤ sum_below (length w.set.tasks) (λ x. only_if (may x) (longest_first w.set x q)) =
    sum_below-monotone (length w.set.tasks) (λ x. sum_below span (λ d. others d x))
    (λ x. only_if (may x) (longest_first w.set x q)) (λ x l. by_task x) in
    omega (
      arith,
      each,
      own,
      rest,
      count_below-split u span (is_own w q z k),
      sum_below-plus span (λ d. flag (is_own w q z k (u + d))) (λ d. sum_below (length w.set.tasks) (others d)),
      sum_below-swap span (length w.set.tasks) others,
    ) where
      others : ℕ → ℕ → ℕ
      others = λ d x. instead_at w j q z k (u + d) x

      may : ℕ → Bool
      may = λ x. may_run_instead w.set (task_of w j) (task_of w z) x

      by_task : (x : ℕ) → sum_below span (λ d. others d x) ≤ only_if (may x) (longest_first w.set x q)
      by_task x =
          let sum : sum_below span (λ d. others d x) ≡ only_if (may x) (count_below span (λ d. is_instead w q z k x (u + d))) =
          sum_below-only_if span (may x) (λ d. flag (is_instead w q z k x (u + d))) in
          let rises : only_if (may x) (count_below span (λ d. is_instead w q z k x (u + d)))
          ≤ only_if (may x) (longest_first w.set x q) =
          only_if-rises (may x) (count_below span (λ d. is_instead w q z k x (u + d))) (longest_first w.set x q)
          (λ h. instead_ticks w bound n u v j m q z k x span a long h) in
          omega (arith, sum, rises)
