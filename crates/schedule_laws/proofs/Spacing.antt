-- Jobs of one task arrive at least a period apart. So only a limited number of them arrive within a window, and their releases rise.
use Rattle.std.proofs.Common.{◌≡◌, ℕ, zero, suc, ◌+◌, ◌*◌, ◌<◌, ◌≤◌, Bool, true, length, refl, sym, ◌∙◌, arith, inl, inr, suc-mul}
use Rattle.std.specs.Int.{div_ceil}
use Rattle.std.proofs.lemmas.Grind.{div_ceil_times}
use Rattle.std.proofs.lemmas.Bool.{cases_lt, cases_Bool}
use Rattle.number_laws.specs.Sums.{flag}
use Rattle.number_laws.specs.Tests.{count_below}
use Rattle.number_laws.proofs.CountLaws.{flag-of_true, flag-of_false}
use Rattle.sporadic_model.specs.SetDef.{task_at, jobs_within}
use Rattle.sporadic_model.specs.Accepted.{TaskNumbers}
use Rattle.schedule_model.specs.JobDef.{JobsDef, job_of}
use Rattle.schedule_model.specs.LawfulJobs.{IsLawfulJob, AreLawfulJobs}

-- The jobs before job n that pass: the first of them and the last, c further jobs on.
pub record Spaced (jobs : JobsDef) (x n c : ℕ) (p : ℕ → Bool) : Type 0 where
  pub first : ℕ
  pub last : ℕ
  pub below : last < n
  pub first_passes : p first ≡ true
  pub last_passes : p last ≡ true
  pub apart : (job_of jobs.jobs first).arrival + c * (task_at jobs.set x).period ≤ (job_of jobs.jobs last).arrival

spaced_step : (jobs : JobsDef) (x n c : ℕ) (p : ℕ → Bool) → AreLawfulJobs jobs
    → ((j : ℕ) → p j ≡ true → (job_of jobs.jobs j).task ≡ x) → n < length jobs.jobs → p n ≡ true
    → Spaced jobs x n c p → Spaced jobs x (suc n) (suc c) p
spaced_step jobs x n c p lawful of l h s =
    let same : (job_of jobs.jobs s.last).task ≡ x = of s.last s.last_passes in
    let gap : (job_of jobs.jobs s.last).arrival + (task_at jobs.set (job_of jobs.jobs s.last).task).period
    ≤ (job_of jobs.jobs n).arrival = lawful.apart s.last n s.below l (same ∙ sym (of n h)) in
    let step : (job_of jobs.jobs s.last).arrival + (task_at jobs.set x).period ≤ (job_of jobs.jobs n).arrival = rw same at gap in
    let more : suc c * (task_at jobs.set x).period ≡ c * (task_at jobs.set x).period + (task_at jobs.set x).period =
    suc-mul c (task_at jobs.set x).period in
    record {
      first = s.first;
      last = n;
      below = omega arith;
      first_passes = s.first_passes;
      last_passes = h;
      apart = omega (arith, s.apart, step, more);
    }

spaced_here : (jobs : JobsDef) (x n c : ℕ) (p : ℕ → Bool) → AreLawfulJobs jobs
    → ((j : ℕ) → p j ≡ true → (job_of jobs.jobs j).task ≡ x) → n < length jobs.jobs → p n ≡ true
    → count_below (suc n) p ≡ suc c → ((d : ℕ) → count_below n p ≡ suc d → Spaced jobs x n d p) → Spaced jobs x (suc n) c p
spaced_here jobs x n zero p lawful of l passes e back = record {
  first = n;
  last = n;
  below = omega arith;
  first_passes = passes;
  last_passes = passes;
  apart = omega arith;
}
spaced_here jobs x n (suc d) p lawful of l passes e back =
    let one : flag (p n) ≡ 1 = flag-of_true (p n) passes in
    spaced_step jobs x n d p lawful of l passes (back d (omega arith))

-- Of suc c jobs of one task the last arrives at least c periods after the first.
pub spaced : (jobs : JobsDef) (x n c : ℕ) (p : ℕ → Bool) → AreLawfulJobs jobs
    → ((j : ℕ) → p j ≡ true → (job_of jobs.jobs j).task ≡ x) → n ≤ length jobs.jobs → count_below n p ≡ suc c
    → Spaced jobs x n c p
spaced jobs x zero c p lawful of l e = absurd (omega arith)
spaced jobs x (suc n) c p lawful of l e = elim (cases_Bool (p n)) [
  | inr fails ↦
      let none : flag (p n) ≡ 0 = flag-of_false (p n) fails in
      let s : Spaced jobs x n c p = spaced jobs x n c p lawful of (omega arith) (omega arith) in
      record {
        first = s.first;
        last = s.last;
        below = omega (arith, s.below);
        first_passes = s.first_passes;
        last_passes = s.last_passes;
        apart = s.apart;
      }
  | inl passes ↦ spaced_here jobs x n c p lawful of l passes e (λ d g. spaced jobs x n d p lawful of (omega arith) g)
]

few : (c n period window : ℕ) → 0 < period → c * period < window → window ≤ n * period → suc c ≤ n
few c n period window some less most = elim (cases_lt c n) [
  | inl below ↦ omega arith
  | inr above ↦ absurd (omega (arith, product c n period above))
] where
  product : (c n period : ℕ) → n ≤ c → n * period ≤ c * period
  product c zero period l = omega arith
  product zero (suc n) period l = absurd (omega arith)
  product (suc c) (suc n) period l = omega (arith, suc-mul c period, suc-mul n period, product c n period (omega arith))

-- Take the jobs of one task that arrive before r + window, and at most less than bound before r. No more than this many of them pass.
pub arrived_within : (jobs : JobsDef) (x n r window bound : ℕ) (p : ℕ → Bool) → AreLawfulJobs jobs
    → 0 < (task_at jobs.set x).period → n ≤ length jobs.jobs → ((j : ℕ) → p j ≡ true → (job_of jobs.jobs j).task ≡ x)
    → ((j : ℕ) → p j ≡ true → r < (job_of jobs.jobs j).arrival + bound) → ((j : ℕ) → p j ≡ true → (job_of jobs.jobs j).arrival < r + window)
    → count_below n p ≤ jobs_within window bound (task_at jobs.set x).period
arrived_within jobs x n r window bound p lawful some l of after before = go (count_below n p) refl where
  go : (c : ℕ) → count_below n p ≡ c → count_below n p ≤ jobs_within window bound (task_at jobs.set x).period
  go zero e = omega arith
  go (suc c) e =
      let s : Spaced jobs x n c p = spaced jobs x n c p lawful of l e in
      let times : (window + bound ≤ div_ceil (window + bound) (task_at jobs.set x).period * (task_at jobs.set x).period)
      × _ = div_ceil_times (window + bound) (task_at jobs.set x).period some in
      let less : c * (task_at jobs.set x).period < window + bound =
      omega (arith, s.apart, after s.first s.first_passes, before s.last s.last_passes) in
      let most : suc c ≤ div_ceil (window + bound) (task_at jobs.set x).period =
      few c (div_ceil (window + bound) (task_at jobs.set x).period) (task_at jobs.set x).period (window + bound) some
      less times.0 in
      omega arith

-- Of two jobs of one task the one that is listed first is released first, since the jitter is below the period.
pub releases_rise : (jobs : JobsDef) (a b : ℕ) → AreLawfulJobs jobs → TaskNumbers jobs.set (job_of jobs.jobs a).task
    → a < b → b < length jobs.jobs → (job_of jobs.jobs a).task ≡ (job_of jobs.jobs b).task
    → (job_of jobs.jobs a).release < (job_of jobs.jobs b).release
releases_rise jobs a b lawful numbers before l same =
    let first : IsLawfulJob jobs.set (job_of jobs.jobs a) = lawful.each a (omega arith) in
    let second : IsLawfulJob jobs.set (job_of jobs.jobs b) = lawful.each b l in
    let apart : (job_of jobs.jobs a).arrival + (task_at jobs.set (job_of jobs.jobs a).task).period ≤ (job_of jobs.jobs b).arrival =
    lawful.apart a b before l same in
    omega (arith, first.in_time, second.arrived, numbers.cost_from, numbers.jitter_to, numbers.deadline_to)
