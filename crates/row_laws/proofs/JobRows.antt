-- Rows per task: the jobs of a task that run in a window are few, and each makes few requests and takes little time.
use Rattle.std.proofs.Common.{◌≡◌, ℕ, ◌+◌, ◌*◌, ◌<◌, ◌≤◌, ◌==◌, ◌&&◌, Bool, true, length, refl, sym, ap, ◌∙◌, arith, inl, inr, nat_lt}
use Rattle.std.proofs.Math.Nat.{mul_assoc, mul_comm, mul-le-mul_right, mul-le-mul}
use Rattle.std.proofs.lemmas.Bool.{cases_lt, cases_Bool, and_parts, and_from, eq-eqb, eqb-true, lt-ltb, ltb-true}
use Rattle.number_laws.specs.Sums.{sum_below, flag, only_if}
use Rattle.number_laws.specs.Tests.{count_below}
use Rattle.number_laws.proofs.CountLaws.{sum_below-counted}
use Rattle.sporadic_model.specs.SetDef.{task_at, jobs_within}
use Rattle.sporadic_model.specs.Users.{count_of, length_of}
use Rattle.schedule_model.specs.JobDef.{job_of, total_ticks, number_of_requests}
use Rattle.schedule_model.specs.LawfulJobs.{IsLawfulJob, AreLawfulJobs}
use Rattle.schedule_model.specs.RowDef.{Trace, jobs_of, runs_in}
use Rattle.schedule_model.specs.Phase.{is_asking, executed, phase_of}
use Rattle.schedule_model.specs.Phase.Phase.{Asking}
use Rattle.schedule_model.specs.Activity.{task_of, is_active}
use Rattle.schedule_laws.specs.Counting.{executed_in}
use Rattle.schedule_laws.proofs.ActiveJobs.{Active, active_is, active_listed}
use Rattle.schedule_laws.proofs.Ticks.{asking_is}
use Rattle.schedule_laws.proofs.Rows.{runs_where}
use Rattle.schedule_laws.proofs.Counts.{asking_at_most, executed_within}
use Rattle.schedule_laws.proofs.Spacing.{arrived_within}
use Rattle.blocking_columns.specs.ColumnDef.{ColumnDef}
use Rattle.blocking_columns.specs.Windows.{jobs_in}
use Rattle.direct_constraints.specs.Rows.{request_row, time_row}
use Rattle.charge_laws.specs.Charges.{Executes}
use Rattle.charge_laws.specs.Windows.{bound_end, window_end, EndedBy}
use Rattle.charge_laws.proofs.Windows.{active_after}
use Rattle.row_laws.specs.Meeting.{Charges, brings, TicksMeet}
use Rattle.row_laws.proofs.Brings.{Window, Hit, hit, column_with, blocker, blocker_is}
use Rattle.row_laws.proofs.Brings.{flag_times-at_most, flag_times-passes, only_if-parts, sum_below-passing}

-- Is y a listed job of x that is released less than its bound before tick u, or later, and before tick e?
abbrev is_there : Trace → (ℕ → ℕ) → ℕ → ℕ → ℕ → ℕ → Bool
is_there w bound u e x y =
    (nat_lt y (length w.jobs) && (task_of w y == x)) && (nat_lt u (bound_end w bound y) && nat_lt (job_of w.jobs y).release e)

record There (w : Trace) (bound : ℕ → ℕ) (u e x y : ℕ) : Type 0 where
  listed : y < length w.jobs
  task : task_of w y ≡ x
  after : u < bound_end w bound y
  before : (job_of w.jobs y).release < e

there_is : (w : Trace) (bound : ℕ → ℕ) (u e x y : ℕ) → is_there w bound u e x y ≡ true → There w bound u e x y
there_is w bound u e x y h =
    let parts : ((nat_lt y (length w.jobs) && (task_of w y == x)) ≡ true) × _ = and_parts _ _ h in
    let own : (nat_lt y (length w.jobs) ≡ true) × ((task_of w y == x) ≡ true) = and_parts _ _ parts.0 in
    let rest : (nat_lt u (bound_end w bound y) ≡ true) × (nat_lt (job_of w.jobs y).release e ≡ true) = and_parts _ _ parts.1 in
    record {
      listed = ltb-true _ _ own.0;
      task = eqb-true _ _ own.1;
      after = ltb-true _ _ rest.0;
      before = ltb-true _ _ rest.1;
    }

-- Job y, of task x, is active at a tick from u on, before e.
pub record ActiveIn (w : Trace) (u e x y : ℕ) : Type 0 where
  pub tick : ℕ
  pub active : is_active w tick y ≡ true
  pub task : task_of w y ≡ x
  pub from : u ≤ tick
  pub before : tick < e

-- Then it is such a job, if each job whose bound had passed by u had ended.
active_there : (w : Trace) (bound : ℕ → ℕ) (u e x y : ℕ) → EndedBy w bound u → (a : ActiveIn w u e x y) → is_there w bound u e x y ≡ true
active_there w bound u e x y ended a =
    let run : Active w a.tick y = active_is w a.tick y a.active in
    and_from _ _ (and_from _ _ (lt-ltb _ _ (active_listed w a.tick y a.active)) (eq-eqb _ _ a.task))
    (and_from _ _ (lt-ltb _ _ (active_after w bound u a.tick y ended a.active a.from)) (lt-ltb _ _ (omega (arith, run.released, a.before))))

-- At most this many jobs of x are such jobs.
there_jobs : (w : Trace) (bound : ℕ → ℕ) (u span x : ℕ) → AreLawfulJobs (jobs_of w) → 0 < (task_at w.set x).period
    → count_below (length w.jobs) (is_there w bound u (u + span) x)
    ≤ jobs_within span (bound x + (task_at w.set x).jitter) (task_at w.set x).period
there_jobs w bound u span x lawful period =
    arrived_within (jobs_of w) x (length w.jobs) u span (bound x + (task_at w.set x).jitter) (is_there w bound u (u + span) x)
    lawful period (omega arith)
    (λ y h. let a : There w bound u (u + span) x y = there_is w bound u (u + span) x y h in a.task)
    (λ y h.
    let a : There w bound u (u + span) x y = there_is w bound u (u + span) x y h in
    let job : IsLawfulJob w.set (job_of w.jobs y) = lawful.each y a.listed in
    let late : (job_of w.jobs y).release ≤ (job_of w.jobs y).arrival + (task_at w.set x).jitter = rw a.task at job.in_time in
    let same : bound (task_of w y) ≡ bound x = ap bound a.task in
    omega (arith, a.after, late))
    (λ y h.
    let a : There w bound u (u + span) x y = there_is w bound u (u + span) x y h in
    let job : IsLawfulJob w.set (job_of w.jobs y) = lawful.each y a.listed in
    omega (arith, a.before, job.arrived))

-- Let all that counts be of x's jobs that are active in a span, and let each of them count at most c. Then all count at most c for each job
-- that can be active in it.
pub paid_in_span : (w : Trace) (bound : ℕ → ℕ) (u span x m c : ℕ) (by g : ℕ → ℕ) → AreLawfulJobs (jobs_of w)
    → 0 < (task_at w.set x).period → EndedBy w bound u → ((t : ℕ) → t < m → 0 < g t → ActiveIn w u (u + span) x (by t))
    → ((y : ℕ) → y < length w.jobs → task_of w y ≡ x → sum_below m (λ t. only_if (by t == y) (g t)) ≤ c)
    → sum_below m g ≤ jobs_within span (bound x + (task_at w.set x).jitter) (task_at w.set x).period * c
paid_in_span w bound u span x m c by g lawful period ended active most =
    let all : sum_below m g ≤ count_below (length w.jobs) (is_there w bound u (u + span) x) * c =
    sum_below-passing m (length w.jobs) c by g (is_there w bound u (u + span) x)
    (λ t l some. let a : ActiveIn w u (u + span) x (by t) = active t l some in
    (active_listed w a.tick (by t) a.active, active_there w bound u (u + span) x (by t) ended a))
    (λ y l there. let a : There w bound u (u + span) x y = there_is w bound u (u + span) x y there in most y l a.task) in
    omega (arith, all, mul-le-mul_right c (there_jobs w bound u span x lawful period))

-- The same in job j's window, where j is active too.
pub paid_in_window : (charges : Charges) (w : Trace) (bound : ℕ → ℕ) (n j x c : ℕ) (by g : ℕ → ℕ) → Window charges w bound n j
    → x < length w.set.tasks
    → ((t : ℕ) → t < window_end w bound n j → 0 < g t
    → (is_active w t j ≡ true) × (is_active w t (by t) ≡ true) × (task_of w (by t) ≡ x))
    → ((y : ℕ) → y < length w.jobs → task_of w y ≡ x → sum_below (window_end w bound n j) (λ t. only_if (by t == y) (g t)) ≤ c)
    → sum_below (window_end w bound n j) g ≤ jobs_in w.set bound (task_of w j) x * c
paid_in_window charges w bound n j x c by g window l active most =
    paid_in_span w bound (job_of w.jobs j).release (bound (task_of w j)) x (window_end w bound n j) c by g window.lawful
    (window.periods x l) window.ended
    (λ t b some.
    let a : (is_active w t j ≡ true) × (is_active w t (by t) ≡ true) × (task_of w (by t) ≡ x) = active t b some in
    let own : Active w t j = active_is w t j a.0 in
    record { tick = t; active = a.1; task = a.2; from = own.released; before = omega arith })
    most

-- The job of a tick that contributes something to a row runs, is active, and is listed.
pub record HitJob (charges : Charges) (w : Trace) (bound : ℕ → ℕ) (j t y : ℕ) : Type 0 where
  pub runs : runs_in (w.row t) y ≡ true
  pub active : is_active w t y ≡ true
  pub listed : y < length w.jobs

pub hit_job : (charges : Charges) (w : Trace) (bound : ℕ → ℕ) (n j t : ℕ) (f : ColumnDef → ℕ) → Window charges w bound n j
    → t < window_end w bound n j → (h : Hit charges w f j t)
    → HitJob charges w bound j t h.charge.job
hit_job charges w bound n j t f window l h =
    let e : Executes w t h.charge = window.executes t h.charge (omega arith) h.is_it in
    let at : (k : ℕ) × _ = runs_where (w.row t) h.charge.job e.runs in
    let active : is_active w t h.charge.job ≡ true = window.active t at.0 h.charge.job (omega arith) at.1 in
    record { runs = e.runs; active = active; listed = active_listed w t h.charge.job active }

-- Let all that counts be of x's jobs, and let each of them contribute at most c. Then all contribute at most c for each job in the window.
pub by_job : (charges : Charges) (w : Trace) (bound : ℕ → ℕ) (n j x c : ℕ) (f : ColumnDef → ℕ) → Window charges w bound n j
    → x < length w.set.tasks
    → ((t : ℕ) → t < window_end w bound n j → (h : Hit charges w f j t) → task_of w h.charge.job ≡ x)
    → ((y : ℕ) → y < length w.jobs → task_of w y ≡ x
    → sum_below (window_end w bound n j) (λ t. only_if (blocker charges w j t == y) (brings charges w f j t)) ≤ c)
    → sum_below (window_end w bound n j) (λ t. brings charges w f j t) ≤ jobs_in w.set bound (task_of w j) x * c
by_job charges w bound n j x c f window l of most =
    paid_in_window charges w bound n j x c (blocker charges w j) (λ t. brings charges w f j t) window l
    (λ t b some. active t b (hit charges w f j t some)) most where
      active : (t : ℕ) → t < window_end w bound n j → Hit charges w f j t
          → (is_active w t j ≡ true) × (is_active w t (blocker charges w j t) ≡ true) × (task_of w (blocker charges w j t) ≡ x)
      active t b h =
          let a : HitJob charges w bound j t h.charge.job = hit_job charges w bound n j t f window b h in
          rw (blocker_is charges w f j t h) (window.own t h.charge (omega arith) h.is_it, a.active, of t b h)

-- The ticks of a slot are those of one job that runs in requests of q, and each contributes at most c.
pub asking_term : (charges : Charges) (w : Trace) (bound : ℕ → ℕ) (n j q y c t : ℕ) (f : ColumnDef → ℕ) → Window charges w bound n j
    → t < window_end w bound n j
    → ((h : Hit charges w f j t) → (h.resource ≡ q) × (f (column_with w h.charge h.resource) ≤ c))
    → only_if (blocker charges w j t == y) (brings charges w f j t) ≤ flag (runs_in (w.row t) y && is_asking q (phase_of w t y)) * c
asking_term charges w bound n j q y c t f window l fits =
    elim (cases_lt 0 (only_if (blocker charges w j t == y) (brings charges w f j t))) [
      | inr none ↦ omega arith
      | inl some ↦
          let parts : ((blocker charges w j t == y) ≡ true) × (0 < brings charges w f j t) =
          only_if-parts (blocker charges w j t == y) (brings charges w f j t) some in
          let h : Hit charges w f j t = hit charges w f j t parts.1 in
          let fit : (h.resource ≡ q) × (f (column_with w h.charge h.resource) ≤ c) = fits h in
          let a : HitJob charges w bound j t h.charge.job = hit_job charges w bound n j t f window l h in
          let same : h.charge.job ≡ y = sym (blocker_is charges w f j t h) ∙ eqb-true (blocker charges w j t) y parts.0 in
          let runs : runs_in (w.row t) y ≡ true = ap (runs_in (w.row t)) (sym same) ∙ a.runs in
          let asks : is_asking q (phase_of w t y) ≡ true =
          asking_is h.number q (phase_of w t y) (ap (phase_of w t) (sym same) ∙ h.request ∙ ap (Asking h.number) fit.0) in
          rw (parts.0, runs, asks) (omega (arith, h.amount, fit.1))
    ]

-- The ticks of a slot are those of one job that runs, and each contributes at most c.
pub running_term : (charges : Charges) (w : Trace) (bound : ℕ → ℕ) (n j y c t : ℕ) (f : ColumnDef → ℕ) → Window charges w bound n j
    → t < window_end w bound n j
    → ((h : Hit charges w f j t) → f (column_with w h.charge h.resource) ≤ c)
    → only_if (blocker charges w j t == y) (brings charges w f j t) ≤ flag (runs_in (w.row t) y) * c
running_term charges w bound n j y c t f window l fits =
    elim (cases_lt 0 (only_if (blocker charges w j t == y) (brings charges w f j t))) [
      | inr none ↦ omega arith
      | inl some ↦
          let parts : ((blocker charges w j t == y) ≡ true) × (0 < brings charges w f j t) =
          only_if-parts (blocker charges w j t == y) (brings charges w f j t) some in
          let h : Hit charges w f j t = hit charges w f j t parts.1 in
          let a : HitJob charges w bound j t h.charge.job = hit_job charges w bound n j t f window l h in
          let same : h.charge.job ≡ y = sym (blocker_is charges w f j t h) ∙ eqb-true (blocker charges w j t) y parts.0 in
          let runs : runs_in (w.row t) y ≡ true = ap (runs_in (w.row t)) (sym same) ∙ a.runs in
          rw (parts.0, runs) (omega (arith, h.amount, fits h))
    ]

-- e ticks of m requests, each at most l long and each tick worth c, where l times c is at most s.
pub requests_share : (e m k l c s b : ℕ) → b ≤ e * c → e ≤ m * l → m ≤ k → c * l ≤ s → b ≤ k * s
requests_share e m k l c s b ticks most count fair =
    let turned : m * l * c ≡ m * (c * l) = mul_assoc m l c ∙ ap (λ z. m * z) (mul_comm l c) in
    omega (arith, ticks, mul-le-mul_right c most, turned, mul-le-mul count fair)

-- Requests of q by one job contribute at most s for each request that its task may make.
pub job_requests : (charges : Charges) (w : Trace) (bound : ℕ → ℕ) (n j x q y s c : ℕ) (f : ColumnDef → ℕ) → Window charges w bound n j
    → y < length w.jobs → task_of w y ≡ x → c * length_of w.set x q ≤ s
    → ((t : ℕ) → t < window_end w bound n j → (h : Hit charges w f j t) → (h.resource ≡ q) × (f (column_with w h.charge h.resource) ≤ c))
    → sum_below (window_end w bound n j) (λ t. only_if (blocker charges w j t == y) (brings charges w f j t)) ≤ count_of w.set x q * s
unfolding executed_in
job_requests charges w bound n j x q y s c f window listed task fair fits =
    let lawful : IsLawfulJob w.set (job_of w.jobs y) = window.lawful.each y listed in
    let ticks : sum_below (window_end w bound n j) (λ t. only_if (blocker charges w j t == y) (brings charges w f j t))
    ≤ executed_in (is_asking q) w (window_end w bound n j) y * c =
    sum_below-counted (window_end w bound n j) c (λ t. runs_in (w.row t) y && is_asking q (phase_of w t y))
    (λ t. only_if (blocker charges w j t == y) (brings charges w f j t))
    (λ t l. asking_term charges w bound n j q y c t f window l (fits t l)) in
    let asked : executed_in (is_asking q) w (window_end w bound n j) y
    ≤ number_of_requests (job_of w.jobs y).script q * length_of w.set (task_of w y) q =
    asking_at_most w.set w (window_end w bound n j) q y lawful in
    let here : executed_in (is_asking q) w (window_end w bound n j) y
    ≤ number_of_requests (job_of w.jobs y).script q * length_of w.set x q = rw task at asked in
    let count : number_of_requests (job_of w.jobs y).script q ≤ count_of w.set x q = rw task at (lawful.count q) in
    requests_share (executed_in (is_asking q) w (window_end w bound n j) y) (number_of_requests (job_of w.jobs y).script q)
    (count_of w.set x q) (length_of w.set x q) c s _ ticks here count fair

-- All its ticks contribute at most s for each tick of its task's cost.
pub job_time : (charges : Charges) (w : Trace) (bound : ℕ → ℕ) (n j x y s : ℕ) (f : ColumnDef → ℕ) → Window charges w bound n j
    → y < length w.jobs → task_of w y ≡ x
    → ((t : ℕ) → t < window_end w bound n j → (h : Hit charges w f j t) → f (column_with w h.charge h.resource) ≤ s)
    → sum_below (window_end w bound n j) (λ t. only_if (blocker charges w j t == y) (brings charges w f j t)) ≤ (task_at w.set x).cost * s
unfolding executed
job_time charges w bound n j x y s f window listed task fits =
    let lawful : IsLawfulJob w.set (job_of w.jobs y) = window.lawful.each y listed in
    let ticks : sum_below (window_end w bound n j) (λ t. only_if (blocker charges w j t == y) (brings charges w f j t))
    ≤ executed w (window_end w bound n j) y * s =
    sum_below-counted (window_end w bound n j) s (λ t. runs_in (w.row t) y)
    (λ t. only_if (blocker charges w j t == y) (brings charges w f j t))
    (λ t l. running_term charges w bound n j y s t f window l (fits t l)) in
    let most : executed w (window_end w bound n j) y ≤ total_ticks (job_of w.jobs y).script =
    executed_within w n (window_end w bound n j) y window.active (omega arith) in
    let cost : total_ticks (job_of w.jobs y).script ≤ (task_at w.set x).cost = rw task at lawful.cost in
    let within : executed w (window_end w bound n j) y ≤ (task_at w.set x).cost = omega arith in
    omega (arith, ticks, mul-le-mul_right s within)

-- Three factors in another order.
pub product_turned : (a b s : ℕ) → a * (b * s) ≡ s * (b * a)
product_turned a b s = mul_comm a (b * s) ∙ ap (λ z. z * a) (mul_comm b s) ∙ mul_assoc s b a

-- The row of requests: those of q by x, of all classes, are at most as many as x makes in the window.
pub request_row_met : (charges : Charges) (w : Trace) (bound : ℕ → ℕ) (n j x q : ℕ) → Window charges w bound n j → x < length w.set.tasks
    → TicksMeet charges w bound n j (request_row w.set (task_of w j) x q)
request_row_met charges w bound n j x q window l s share fair =
    omega (
      arith,
      by_job charges w bound n j x (count_of w.set x q * s) f window l (λ t b h. (column t b h).0)
          (λ y b task. job_requests charges w bound n j x q y s (share x q) f window b task (fair x q) (λ t b h. (column t b h).1)),
      product_turned (jobs_in w.set bound (task_of w j) x) (count_of w.set x q) s,
    ) where
      f : ColumnDef → ℕ
      f = λ c. flag ((c.task == x) && (c.resource == q)) * share c.task c.resource

      column : (t : ℕ) → t < window_end w bound n j → (h : Hit charges w f j t)
          → (task_of w h.charge.job ≡ x) × ((h.resource ≡ q) × (f (column_with w h.charge h.resource) ≤ share x q))
      column t b h =
          let both : ((task_of w h.charge.job == x) ≡ true) × ((h.resource == q) ≡ true) =
          and_parts _ _ (flag_times-passes _ (share (task_of w h.charge.job) h.resource) h.some) in
          let task : task_of w h.charge.job ≡ x = eqb-true _ _ both.0 in
          let resource : h.resource ≡ q = eqb-true _ _ both.1 in
          let same : share (task_of w h.charge.job) h.resource ≡ share x q = rw (task, resource) refl in (
            task,
            (
              resource,
              omega (
                arith,
                same,
                flag_times-at_most ((task_of w h.charge.job == x) && (h.resource == q))
                    (share (task_of w h.charge.job) h.resource),
              ),
            ),
          )

-- The row of time: x's requests together take no longer than its jobs may execute.
pub time_row_met : (charges : Charges) (w : Trace) (bound : ℕ → ℕ) (n j x : ℕ) → Window charges w bound n j → x < length w.set.tasks
    → TicksMeet charges w bound n j (time_row w.set (task_of w j) x)
time_row_met charges w bound n j x window l s share fair =
    omega (
      arith,
      by_job charges w bound n j x ((task_at w.set x).cost * s) f window l (λ t b h. (column t b h).0)
          (λ y b task. job_time charges w bound n j x y s f window b task (λ t b h. (column t b h).1)),
      product_turned (jobs_in w.set bound (task_of w j) x) (task_at w.set x).cost s,
    ) where
      f : ColumnDef → ℕ
      f = λ c. only_if (c.task == x) (length_of w.set x c.resource) * share c.task c.resource

      column : (t : ℕ) → t < window_end w bound n j → (h : Hit charges w f j t)
          → (task_of w h.charge.job ≡ x) × (f (column_with w h.charge h.resource) ≤ s)
      column t b h = elim (cases_Bool (task_of w h.charge.job == x)) [
        | inr other ↦ let none : 0 < 0 * share (task_of w h.charge.job) h.resource = rw other at h.some in absurd (omega arith)
        | inl is ↦
            let task : task_of w h.charge.job ≡ x = eqb-true _ _ is in
            let whole : share x h.resource * length_of w.set x h.resource ≤ s = fair x h.resource in
            let turned : length_of w.set x h.resource * share (task_of w h.charge.job) h.resource ≤ s =
            rw task (omega (arith, mul_comm (length_of w.set x h.resource) (share x h.resource))) in
            (task, rw is turned)
      ]
