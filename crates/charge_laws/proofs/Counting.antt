-- How many ticks of a job's window are interference by jobs of one task. A job that was released before the window, and runs z ticks in it,
-- arrived no earlier than its bound and its jitter, less z, before it. So if one job too many runs, the first and the last together run no
-- longer than one.
use Rattle.std.proofs.Common.{◌≡◌, ◌⊎◌, ℕ, zero, suc, ◌+◌, ◌-◌, ◌*◌, ◌<◌, ◌≤◌, ◌==◌, Bool, true, false, length, refl}
use Rattle.std.proofs.Common.{sym, ap, ◌∙◌, arith, inl, inr, suc-mul, Option, Some, None}
use Rattle.std.specs.Int.{div_ceil}
use Rattle.std.specs.Option.{option_map_or}
use Rattle.std.proofs.Math.Nat.{add-mul}
use Rattle.std.proofs.lemmas.Grind.{div_ceil_times}
use Rattle.std.proofs.lemmas.Bool.{cases_lt, cases_Bool, and_parts, eqb-true}
use Rattle.number_laws.specs.Sums.{sum_below, flag, only_if}
use Rattle.number_laws.specs.Tests.{count_below}
use Rattle.number_laws.proofs.SumLaws.{sum_below-agree, sum_below-monotone, sum_below-swap, sum_below-term, sum_below-only_if}
use Rattle.number_laws.proofs.CountLaws.{flag-of_true, flag-of_false}
use Rattle.sporadic_model.specs.SetDef.{task_at, jobs_within}
use Rattle.schedule_model.specs.JobDef.{JobsDef, job_of}
use Rattle.schedule_model.specs.LawfulJobs.{IsLawfulJob, AreLawfulJobs}
use Rattle.schedule_model.specs.RowDef.{Trace, jobs_of, running_on}
use Rattle.schedule_model.specs.Activity.{task_of, processor_of, is_active}
use Rattle.schedule_model.specs.BlockedTicks.{is_interferer}
use Rattle.schedule_model.specs.ProtocolLaws.{IsOneOfThree, IsSoundRow}
use Rattle.schedule_laws.proofs.ActiveJobs.{Active, active_is}
use Rattle.charge_laws.specs.Windows.{bound_end, window_end, EndedBefore}
use Rattle.charge_laws.specs.Interferers.{is_interference_of}
use Rattle.charge_laws.proofs.Windows.{count_below-between, active_within}
use Rattle.schedule_laws.proofs.Interferers.{Interferer, interferer_is, interferer_from}
use Rattle.charge_laws.proofs.Interference.{interference_active}

-- What is known of the ticks f y that job y of task h runs in a window of bi ticks from r on. A job of h may run for g ticks, and ends
-- within bh ticks after it arrived.
pub record InWindow (jobs : JobsDef) (h r bi bh g : ℕ) (f : ℕ → ℕ) (y : ℕ) : Type 0 where
  pub task : (job_of jobs.jobs y).task ≡ h
  pub cost : f y ≤ g
  pub after : f y + r ≤ (job_of jobs.jobs y).arrival + bh
  pub before : f y + (job_of jobs.jobs y).arrival ≤ r + bi
  pub within : f y ≤ bi

-- Before job n there are c and one more jobs that run in the window, from the first to the last.
record Carried (jobs : JobsDef) (h r bi bh g : ℕ) (f : ℕ → ℕ) (n c : ℕ) : Type 0 where
  first : ℕ
  last : ℕ
  below : last < n
  task : (job_of jobs.jobs last).task ≡ h
  apart : (job_of jobs.jobs first).arrival + c * (task_at jobs.set h).period ≤ (job_of jobs.jobs last).arrival
  total : sum_below n f ≤ suc c * g
  early : sum_below n f + r ≤ (job_of jobs.jobs first).arrival + bh + c * g
  late : sum_below n f + (job_of jobs.jobs last).arrival + g ≤ (job_of jobs.jobs first).arrival + bh + bi + c * g

carried_first : (jobs : JobsDef) (h r bi bh g : ℕ) (f : ℕ → ℕ) (n : ℕ) → g ≤ bh → InWindow jobs h r bi bh g f n → sum_below n f ≡ 0
    → Carried jobs h r bi bh g f (suc n) 0
carried_first jobs h r bi bh g f n less here none = record {
  first = n;
  last = n;
  below = omega arith;
  task = here.task;
  apart = omega arith;
  total = omega (arith, here.cost, suc-mul 0 g);
  early = omega (arith, here.after);
  late = omega (arith, here.within);
}

carried_next : (jobs : JobsDef) (h r bi bh g : ℕ) (f : ℕ → ℕ) (n c : ℕ) → AreLawfulJobs jobs → n < length jobs.jobs
    → InWindow jobs h r bi bh g f n → Carried jobs h r bi bh g f n c
    → Carried jobs h r bi bh g f (suc n) (suc c)
carried_next jobs h r bi bh g f n c lawful l here s =
    let gap : (job_of jobs.jobs s.last).arrival + (task_at jobs.set (job_of jobs.jobs s.last).task).period
    ≤ (job_of jobs.jobs n).arrival = lawful.apart s.last n s.below l (s.task ∙ sym here.task) in
    let step : (job_of jobs.jobs s.last).arrival + (task_at jobs.set h).period ≤ (job_of jobs.jobs n).arrival = rw s.task at gap in
    let periods : suc c * (task_at jobs.set h).period ≡ c * (task_at jobs.set h).period + (task_at jobs.set h).period =
    suc-mul c (task_at jobs.set h).period in
    let costs : suc c * g ≡ c * g + g = suc-mul c g in
    let more : suc (suc c) * g ≡ suc c * g + g = suc-mul (suc c) g in
    record {
      first = s.first;
      last = n;
      below = omega arith;
      task = here.task;
      apart = omega (arith, s.apart, step, periods);
      total = omega (arith, s.total, here.cost, more);
      early = omega (arith, s.early, here.cost, costs);
      late = omega (arith, s.early, here.before, costs);
    }

carried_past : (jobs : JobsDef) (h r bi bh g : ℕ) (f : ℕ → ℕ) (n c : ℕ) → f n ≡ 0 → Carried jobs h r bi bh g f n c
    → Carried jobs h r bi bh g f (suc n) c
carried_past jobs h r bi bh g f n c none s = record {
  first = s.first;
  last = s.last;
  below = omega (arith, s.below);
  task = s.task;
  apart = s.apart;
  total = omega (arith, s.total);
  early = omega (arith, s.early);
  late = omega (arith, s.late);
}

-- Either no job before job n runs in the window, or some do.
carried : (jobs : JobsDef) (h r bi bh g : ℕ) (f : ℕ → ℕ) (n : ℕ) → AreLawfulJobs jobs → g ≤ bh → n ≤ length jobs.jobs
    → ((y : ℕ) → y < n → 0 < f y → InWindow jobs h r bi bh g f y)
    → (sum_below n f ≡ 0) ⊎ ((c : ℕ) × Carried jobs h r bi bh g f n c)
carried jobs h r bi bh g f zero lawful less l part = inl refl
carried jobs h r bi bh g f (suc n) lawful less l part =
    elim (carried jobs h r bi bh g f n lawful less (omega arith) (λ y b some. part y (omega arith) some)) [
      | inl none ↦ elim (cases_lt 0 (f n)) [
        | inl some ↦ inr (0, carried_first jobs h r bi bh g f n less (part n (omega arith) some) none)
        | inr zero_here ↦ inl (omega arith)
      ]
      | inr before ↦ elim (cases_lt 0 (f n)) [
        | inl some ↦ inr (
          suc before.0,
          carried_next jobs h r bi bh g f n before.0 lawful (omega arith) (part n (omega arith) some) before.1,
        )
        | inr zero_here ↦ inr (before.0, carried_past jobs h r bi bh g f n before.0 (omega arith) before.1)
      ]
    ]

product : (d g p : ℕ) → g ≤ p → d * g ≤ d * p
product zero g p l = omega arith
product (suc d) g p l = omega (arith, suc-mul d g, suc-mul d p, product d g p l)

factor : (a b g : ℕ) → a ≤ b → a * g ≤ b * g
factor zero b g l = omega arith
factor (suc a) zero g l = absurd (omega arith)
factor (suc a) (suc b) g l = omega (arith, suc-mul a g, suc-mul b g, factor a b g (omega arith))

-- If c and one more jobs are c periods apart, they run at most k times g ticks, where k periods cover the window.
enough : (s c k p g bi bh : ℕ) → g ≤ bh → g ≤ p → bi + bh ≤ k * p + g → s ≤ suc c * g → s + c * p + g ≤ bh + bi + c * g → s ≤ k * g
enough s c k p g bi bh less short holds total late = elim (cases_lt c k) [
  | inl few ↦ omega (arith, factor (suc c) k g (omega arith))
  | inr many ↦ more (c - k) (omega arith)
] where
  more : (d : ℕ) → c ≡ k + d → s ≤ k * g
  more d e =
      let periods : c * p ≡ k * p + d * p = ap (λ x. x * p) e ∙ add-mul k d p in
      let costs : c * g ≡ k * g + d * g = ap (λ x. x * g) e ∙ add-mul k d g in
      omega (arith, periods, costs, product d g p short)

-- So the jobs of h run at most that many times g ticks in the window.
pub counted : (jobs : JobsDef) (h r bi bh g : ℕ) (f : ℕ → ℕ) → AreLawfulJobs jobs → 0 < (task_at jobs.set h).period
    → g ≤ (task_at jobs.set h).period → g ≤ bh
    → ((y : ℕ) → y < length jobs.jobs → 0 < f y → InWindow jobs h r bi bh g f y)
    → sum_below (length jobs.jobs) f ≤ jobs_within bi (bh - g) (task_at jobs.set h).period * g
counted jobs h r bi bh g f lawful some short less part =
    elim (carried jobs h r bi bh g f (length jobs.jobs) lawful less (omega arith) part) [
      | inl none ↦ omega arith
      | inr all ↦
          let times : (bi + (bh - g) ≤ div_ceil (bi + (bh - g)) (task_at jobs.set h).period * (task_at jobs.set h).period) × _ =
          div_ceil_times (bi + (bh - g)) (task_at jobs.set h).period some in
          enough (sum_below (length jobs.jobs) f) all.0 (div_ceil (bi + (bh - g)) (task_at jobs.set h).period)
          (task_at jobs.set h).period g bi bh less short
          (omega (arith, times.0)) all.1.total (omega (arith, all.1.late, all.1.apart))
    ]

-- The ticks below e at which job y of task h interferes with job j.
abbrev pub ticks_by : (Trace → ℕ → ℕ → Bool) → Trace → ℕ → ℕ → ℕ → ℕ → ℕ
ticks_by interferes w e j h y = only_if (task_of w y == h) (count_below e (λ t. is_interferer interferes w t j y))

-- A job of h that interferes with j.
record InterfererOf (interferes : Trace → ℕ → ℕ → Bool) (w : Trace) (t j h : ℕ) : Type 0 where
  job : ℕ
  interferer : Interferer interferes w t j job
  task : (task_of w job == h) ≡ true

named_interferer : (interferes : Trace → ℕ → ℕ → Bool) (w : Trace) (t j h : ℕ) → interferes w t j ≡ true → (o : Option ℕ)
    → running_on (w.row t) (processor_of w j) ≡ o
    → option_map_or (λ y. task_of w y == h) o false ≡ true → InterfererOf interferes w t j h
named_interferer interferes w t j h a None e b = absurd (cc)
named_interferer interferes w t j h a (Some y) e b = record { job = y; interferer = record { tick = a; runs = e }; task = b }

interference_of_is : (interferes : Trace → ℕ → ℕ → Bool) (w : Trace) (t j h : ℕ) → is_interference_of interferes w t j h ≡ true
    → InterfererOf interferes w t j h
unfolding is_interference_of
interference_of_is interferes w t j h on =
    let parts : (interferes w t j ≡ true)
    × (option_map_or (λ y. task_of w y == h) (running_on (w.row t) (processor_of w j)) false ≡ true) = and_parts _ _ on in
    named_interferer interferes w t j h parts.0 (running_on (w.row t) (processor_of w j)) refl parts.1

-- A tick of interference by task h is one by a job of h.
interference_of_job : (interferes : Trace → ℕ → ℕ → Bool) (w : Trace) (t j h : ℕ) → IsSoundRow interferes w t
    → flag (is_interference_of interferes w t j h)
    ≤ sum_below (length w.jobs) (λ y. only_if (task_of w y == h) (flag (is_interferer interferes w t j y)))
interference_of_job interferes w t j h sound = elim (cases_Bool (is_interference_of interferes w t j h)) [
  | inr off ↦ omega (arith, flag-of_false (is_interference_of interferes w t j h) off)
  | inl on ↦
      let i : InterfererOf interferes w t j h = interference_of_is interferes w t j h on in
      let one : flag (is_interferer interferes w t j i.job) ≡ 1 =
      flag-of_true _ (interferer_from interferes w t j i.job i.interferer.tick i.interferer.runs) in
      let term : only_if (task_of w i.job == h) (flag (is_interferer interferes w t j i.job)) ≡ 1 = rw i.task one in
      omega (
        arith,
        flag-of_true (is_interference_of interferes w t j h) on,
        term,
        sum_below-term (length w.jobs) (λ y. only_if (task_of w y == h) (flag (is_interferer interferes w t j y))) i.job
            (sound.running_listed (processor_of w j) i.job i.interferer.runs),
      )
]

-- The ticks of interference by task h are those by its jobs, together.
by_jobs : (interferes : Trace → ℕ → ℕ → Bool) (w : Trace) (e j h : ℕ) → ((t : ℕ) → t < e → IsSoundRow interferes w t)
    → count_below e (λ t. is_interference_of interferes w t j h) ≤ sum_below (length w.jobs) (λ y. ticks_by interferes w e j h y)
by_jobs interferes w e j h sound =
    let each : count_below e (λ t. is_interference_of interferes w t j h)
    ≤ sum_below e (λ t. sum_below (length w.jobs) (λ y. only_if (task_of w y == h) (flag (is_interferer interferes w t j y)))) =
    sum_below-monotone e (λ t. flag (is_interference_of interferes w t j h))
    (λ t. sum_below (length w.jobs) (λ y. only_if (task_of w y == h) (flag (is_interferer interferes w t j y))))
    (λ t l. interference_of_job interferes w t j h (sound t l)) in
    let swap : sum_below e (λ t. sum_below (length w.jobs) (λ y. only_if (task_of w y == h) (flag (is_interferer interferes w t j y))))
    ≡ sum_below (length w.jobs) (λ y. sum_below e (λ t. only_if (task_of w y == h) (flag (is_interferer interferes w t j y)))) =
    sum_below-swap e (length w.jobs) (λ t y. only_if (task_of w y == h) (flag (is_interferer interferes w t j y))) in
    let inner : sum_below (length w.jobs) (λ y. sum_below e (λ t. only_if (task_of w y == h) (flag (is_interferer interferes w t j y))))
    ≡ sum_below (length w.jobs) (λ y. ticks_by interferes w e j h y) =
    sum_below-agree (length w.jobs) (λ y. sum_below e (λ t. only_if (task_of w y == h) (flag (is_interferer interferes w t j y))))
    (λ y. ticks_by interferes w e j h y)
    (λ y l. sum_below-only_if e (task_of w y == h) (λ t. flag (is_interferer interferes w t j y))) in
    omega (arith, each, swap, inner)

-- What the rules give at the ticks of a schedule of n rows, and what a job of h may interfere for.
pub record Interfering (interferes : Trace → ℕ → ℕ → Bool) (w : Trace) (n : ℕ) (g : ℕ → ℕ) (j : ℕ) : Type 0 where
  pub three : (t : ℕ) → t < n → IsOneOfThree interferes w t j
  pub sound : (t : ℕ) → t < n → IsSoundRow interferes w t
  pub cost : (m y : ℕ) → m ≤ n → y < length w.jobs → count_below m (λ t. is_interferer interferes w t j y) ≤ g (task_of w y)

-- If there is a tick of the window at which job y interferes with job j.
record TickPlace (w : Trace) (bound : ℕ → ℕ) (t j y : ℕ) : Type 0 where
  released : (job_of w.jobs j).release ≤ t
  from : (job_of w.jobs y).release ≤ t
  before : t < bound_end w bound j
  ends : t < bound_end w bound y

tick_place : (interferes : Trace → ℕ → ℕ → Bool) (w : Trace) (bound g : ℕ → ℕ) (n t j y : ℕ) → Interfering interferes w n g j
    → EndedBefore w bound (bound_end w bound j) → t < window_end w bound n j
    → is_interferer interferes w t j y ≡ true → TickPlace w bound t j y
tick_place interferes w bound g n t j y laws ended l h =
    let i : Interferer interferes w t j y = interferer_is interferes w t j y h in
    let own : Active w t j = active_is w t j (interference_active interferes w t j (laws.three t (omega arith)) i.tick) in
    let runs : is_active w t y ≡ true = (laws.sound t (omega arith)).active (processor_of w j) y i.runs in
    let other : Active w t y = active_is w t y runs in
    record {
      released = own.released;
      from = other.released;
      before = omega arith;
      ends = active_within w bound (bound_end w bound j) t y ended runs (omega arith);
    }

-- What is known of the ticks of one job of h.
in_window : (interferes : Trace → ℕ → ℕ → Bool) (w : Trace) (bound g : ℕ → ℕ) (n j h y : ℕ) → Interfering interferes w n g j
    → AreLawfulJobs (jobs_of w) → EndedBefore w bound (bound_end w bound j) → y < length w.jobs
    → 0 < ticks_by interferes w (window_end w bound n j) j h y
    → InWindow (jobs_of w) h (job_of w.jobs j).release (bound (task_of w j)) (bound h + (task_at w.set h).jitter) (g h)
    (λ z. ticks_by interferes w (window_end w bound n j) j h z) y
in_window interferes w bound g n j h y laws lawful ended l some = elim (cases_Bool (task_of w y == h)) [
  | inr other ↦ let none : ticks_by interferes w (window_end w bound n j) j h y ≡ 0 = rw other refl in absurd (omega arith)
  | inl same ↦ facts same (eqb-true (task_of w y) h same)
] where
  e : ℕ
  e = window_end w bound n j

  c : ℕ
  c = count_below e (λ t. is_interferer interferes w t j y)

  place : (t : ℕ) → t < e → is_interferer interferes w t j y ≡ true → TickPlace w bound t j y
  place t b x = tick_place interferes w bound g n t j y laws ended b x

  facts : (task_of w y == h) ≡ true → task_of w y ≡ h
      → InWindow (jobs_of w) h (job_of w.jobs j).release (bound (task_of w j)) (bound h + (task_at w.set h).jitter) (g h)
      (λ z. ticks_by interferes w (window_end w bound n j) j h z) y
  facts same task =
      let job : IsLawfulJob w.set (job_of w.jobs y) = lawful.each y l in
      let late : (job_of w.jobs y).release ≤ (job_of w.jobs y).arrival + (task_at w.set h).jitter = rw task at job.in_time in
      let is : ticks_by interferes w e j h y ≡ c = rw same refl in
      let cost : c ≤ g (task_of w y) = laws.cost e y (omega arith) l in
      let costs : g (task_of w y) ≡ g h = ap g task in
      let bounds : bound (task_of w y) ≡ bound h = ap bound task in
      let after : c + (job_of w.jobs j).release ≤ bound_end w bound y =
      count_below-between e (job_of w.jobs j).release (bound_end w bound y) (λ t. is_interferer interferes w t j y)
      (λ t b x. let p : TickPlace w bound t j y = place t b x in (p.released, p.ends)) (omega arith) in
      let before : c + (job_of w.jobs y).release ≤ bound_end w bound j =
      count_below-between e (job_of w.jobs y).release (bound_end w bound j) (λ t. is_interferer interferes w t j y)
      (λ t b x. let p : TickPlace w bound t j y = place t b x in (p.from, p.before)) (omega arith) in
      let within : c + (job_of w.jobs j).release ≤ bound_end w bound j =
      count_below-between e (job_of w.jobs j).release (bound_end w bound j) (λ t. is_interferer interferes w t j y)
      (λ t b x. let p : TickPlace w bound t j y = place t b x in (p.released, p.before)) (omega arith) in
      record {
        task = task;
        cost = omega arith;
        after = omega (arith, after, late, bounds);
        before = omega (arith, before, job.arrived);
        within = omega arith;
      }

-- No more ticks of a job's window are interference by jobs of h than the analysis counts.
pub interference_counted : (interferes : Trace → ℕ → ℕ → Bool) (w : Trace) (bound g : ℕ → ℕ) (n j h : ℕ) → Interfering interferes w n g j
    → AreLawfulJobs (jobs_of w)
    → EndedBefore w bound (bound_end w bound j) → 0 < (task_at w.set h).period → g h ≤ (task_at w.set h).period → g h ≤ bound h
    → count_below (window_end w bound n j) (λ t. is_interference_of interferes w t j h)
    ≤ jobs_within (bound (task_of w j)) (bound h + (task_at w.set h).jitter - g h) (task_at w.set h).period * g h
interference_counted interferes w bound g n j h laws lawful ended some short less =
    let jobs : count_below (window_end w bound n j) (λ t. is_interference_of interferes w t j h)
    ≤ sum_below (length w.jobs) (λ y. ticks_by interferes w (window_end w bound n j) j h y) =
    by_jobs interferes w (window_end w bound n j) j h (λ t l. laws.sound t (omega arith)) in
    let most : sum_below (length w.jobs) (λ y. ticks_by interferes w (window_end w bound n j) j h y)
    ≤ jobs_within (bound (task_of w j)) (bound h + (task_at w.set h).jitter - g h) (task_at w.set h).period * g h =
    counted (jobs_of w) h (job_of w.jobs j).release (bound (task_of w j)) (bound h + (task_at w.set h).jitter) (g h)
    (λ y. ticks_by interferes w (window_end w bound n j) j h y) lawful some short (omega arith)
    (λ y l pos. in_window interferes w bound g n j h y laws lawful ended l pos) in
    omega (arith, jobs, most)
