-- A request waits less than each number of ticks that is enough for it.
use Rattle.std.proofs.Common.{◌≡◌, ℕ, suc, ◌+◌, ◌<◌, ◌≤◌, true, false, length, arith, inl, inr, Some, refl}
use Rattle.std.proofs.lemmas.Bool.{cases_lt, cases_Bool, eq-eqb, lt-ltb}
use Rattle.number_laws.specs.Sums.{sum_below, flag}
use Rattle.number_laws.specs.Tests.{count_below}
use Rattle.number_laws.proofs.SumLaws.{sum_below-term, sum_below-monotone, sum_below-plus, sum_below-swap, sum_below-constant}
use Rattle.number_laws.proofs.TestLaws.{found_below-is}
use Rattle.sporadic_model.specs.SetDef.{task_at}
use Rattle.sporadic_model.specs.Accepted.{IsFormed}
use Rattle.schedule_model.specs.JobDef.{job_of}
use Rattle.schedule_model.specs.LawfulJobs.{AreLawfulJobs, IsLawfulJob}
use Rattle.schedule_model.specs.RowDef.{Trace, jobs_of, runs_in}
use Rattle.schedule_model.specs.Phase.{phase_of}
use Rattle.schedule_model.specs.Phase.Phase.{Asking}
use Rattle.schedule_model.specs.Activity.{task_of, processor_of, is_ready, issue_tick_of}
use Rattle.schedule_model.specs.Ranks.{mpcp}
use Rattle.schedule_model.specs.Protocols.{shared_rule}
use Rattle.schedule_model.specs.Keeping.{KeepsBefore}
use Rattle.schedule_laws.proofs.ActiveJobs.{active_listed}
use Rattle.schedule_laws.proofs.Holders.{open_active}
use Rattle.schedule_laws.proofs.Issues.{issue_at_most, open_at_issue}
use Rattle.schedule_laws.proofs.Segments.{open_listed}
use Rattle.schedule_laws.proofs.SharedLaws.{shared_runs_active}
use Rattle.charge_laws.specs.Windows.{EndedBy}
use Rattle.row_laws.proofs.Joined.{periods_from}
use Rattle.window_laws.proofs.Enough.{enough_is}
use Rattle.window_laws.proofs.OpenRequests.{is_by}
use Rattle.mpcp_window_laws.specs.MpcpWindows.{own_ticks, ticks_instead, ticks_held, is_enough_wait, wait_window}
use Rattle.mpcp_window_laws.proofs.Waiting.{Waiting, holder_of, HeldByOther, held_by_other}
use Rattle.mpcp_window_laws.proofs.HigherHoldings.{is_own_by, higher_runs}
use Rattle.mpcp_window_laws.proofs.OneHolding.{holding_is, RunsInstead, runs_instead}
use Rattle.mpcp_window_laws.proofs.InsteadOfHigher.{is_instead_by, holding_now, instead_of_higher}
use Rattle.mpcp_window_laws.proofs.LowerHolding.{is_held_lower, lower_holding}

-- At each tick of the wait a lower job holds the resource, or a higher one does and runs, or does and another job runs instead.
one_holds : (w : Trace) (bound : ℕ → ℕ) (n u v j m q t : ℕ) → Waiting w bound n u v j m q → u ≤ t → t ≤ v
    → 1 ≤ flag (is_held_lower w q (task_of w j) t)
    + (sum_below (task_of w j) (λ x. flag (is_own_by w q x t))
    + sum_below (length w.set.tasks) (λ x. flag (is_instead_by w q (task_of w j) x t)))
one_holds w bound n u v j m q t a from to = elim (cases_lt (task_of w y) (task_of w j)) [
  | inr rest ↦ elim (cases_lt (task_of w j) (task_of w y)) [
    | inl lower ↦
        let one : flag (is_held_lower w q (task_of w j) t) ≡ 1 = rw (lt-ltb (task_of w j) (task_of w y) lower) refl in
        omega (arith, one)
    | inr same ↦ absurd (h.other (omega (arith, rest, same)))
  ]
  | inl higher ↦ elim (cases_Bool (runs_in (w.row t) y)) [
    | inl runs ↦
        let one : flag (is_own_by w q (task_of w y) t) ≡ 1 = rw (eq-eqb (task_of w y) (task_of w y) refl, runs) refl in
        omega (arith, one, sum_below-term (task_of w j) (λ x. flag (is_own_by w q x t)) (task_of w y) higher)
    | inr stands ↦
        let r : RunsInstead w t j y =
        runs_instead w bound n u v j m q y h.number t a from to
        (holding_is w bound n u v j m q y h.number t a to (holding_now w t j q h)) stands in
        let by : is_by w (processor_of w y) (task_of w r.job) t ≡ true =
        rw (r.runs, eq-eqb (task_of w r.job) (task_of w r.job) refl) refl in
        let one : flag (is_instead_by w q (task_of w j) (task_of w r.job) t) ≡ 1 =
        rw (lt-ltb (task_of w y) (task_of w j) higher, stands, by) refl in
        omega (
          arith,
          one,
          sum_below-term (length w.set.tasks) (λ x. flag (is_instead_by w q (task_of w j) x t)) (task_of w r.job) r.known,
        )
  ]
] where
  y : ℕ
  y = holder_of w q t

  h : HeldByOther w t j q
  h = held_by_other w bound n u v j m q t a from to

-- So the ticks of a wait are at most those of lower holders, of higher ones that run, and of what runs instead of these.
wait_parts : (w : Trace) (bound : ℕ → ℕ) (n u v j m q span : ℕ) → Waiting w bound n u v j m q → u + span ≤ suc v
    → span
    ≤ count_below span (λ d. is_held_lower w q (task_of w j) (u + d))
    + (sum_below (task_of w j) (λ x. count_below span (λ d. is_own_by w q x (u + d)))
    + sum_below (length w.set.tasks) (λ x. count_below span (λ d. is_instead_by w q (task_of w j) x (u + d))))
wait_parts w bound n u v j m q span a long =
    let each : sum_below span (λ d. 1) ≤ sum_below span (λ d. low d + (own d + instead d)) =
    sum_below-monotone span (λ d. 1) (λ d. low d + (own d + instead d))
    (λ d l. one_holds w bound n u v j m q (u + d) a (omega arith) (omega (arith, l, long))) in
    omega (
      arith,
      each,
      sum_below-constant span 1,
      sum_below-plus span low (λ d. own d + instead d),
      sum_below-plus span own instead,
      sum_below-swap span (task_of w j) (λ d x. flag (is_own_by w q x (u + d))),
      sum_below-swap span (length w.set.tasks) (λ d x. flag (is_instead_by w q (task_of w j) x (u + d))),
    ) where
      low : ℕ → ℕ
      low = λ d. flag (is_held_lower w q (task_of w j) (u + d))

      own : ℕ → ℕ
      own = λ d. sum_below (task_of w j) (λ x. flag (is_own_by w q x (u + d)))

      instead : ℕ → ℕ
      instead = λ d. sum_below (length w.set.tasks) (λ x. flag (is_instead_by w q (task_of w j) x (u + d)))

pub waits_less : (w : Trace) (bound : ℕ → ℕ) (n u v j m q base : ℕ) → Waiting w bound n u v j m q → 0 < base
    → ticks_held w.set bound (task_of w j) q base ≤ base → v < u + base
waits_less w bound n u v j m q base a some enough = elim (cases_lt v (u + base)) [
  | inl before ↦ before
  | inr long ↦
      let job : IsLawfulJob w.set (job_of w.jobs j) = a.lawful.each j (active_listed w u j a.active) in
      let own : sum_below (task_of w j) (λ x. count_below (suc base) (λ d. is_own_by w q x (u + d)))
      ≤ sum_below (task_of w j) (own_ticks w.set bound q base) =
      sum_below-monotone (task_of w j) (λ x. count_below (suc base) (λ d. is_own_by w q x (u + d)))
      (own_ticks w.set bound q base)
      (λ x l. higher_runs w bound n u v j m q x base a some long (omega (arith, l, job.task))) in
      let instead : sum_below (length w.set.tasks) (λ x. count_below (suc base) (λ d. is_instead_by w q (task_of w j) x (u + d)))
      ≤ sum_below (length w.set.tasks) (ticks_instead w.set bound (task_of w j) q base) =
      sum_below-monotone (length w.set.tasks) (λ x. count_below (suc base) (λ d. is_instead_by w q (task_of w j) x (u + d)))
      (ticks_instead w.set bound (task_of w j) q base)
      (λ x l. instead_of_higher w bound n u v j m q x base a some long l) in
      absurd (omega (
        arith,
        wait_parts w bound n u v j m q (suc base) a (omega (arith, long)),
        lower_holding w bound n u v j m q (suc base) a (omega (arith, long)),
        own,
        instead,
        enough,
      ))
]

-- So it waits less than its window.
pub waits_in_window : (w : Trace) (bound : ℕ → ℕ) (n u v j m q b : ℕ) → Waiting w bound n u v j m q
    → wait_window w.set bound (task_of w j) q ≡ Some b → v < u + b
waits_in_window w bound n u v j m q b a e =
    let found : (b < suc (task_at w.set (task_of w j)).deadline) × (is_enough_wait w.set bound (task_of w j) q b ≡ true) =
    found_below-is (suc (task_at w.set (task_of w j)).deadline) (is_enough_wait w.set bound (task_of w j) q) b e in
    let enough : (0 < b) × (ticks_held w.set bound (task_of w j) q b ≤ b) =
    enough_is (ticks_held w.set bound (task_of w j) q) b found.1 in
    waits_less w bound n u v j m q b a enough.0 enough.1

-- In a lawful schedule: a request that waits is less than its window past its issue, where each job whose bound had passed by then had
-- ended.
pub waits_since_issue : (w : Trace) (bound : ℕ → ℕ) (n t j m q b : ℕ) → IsFormed w.set → AreLawfulJobs (jobs_of w)
    → KeepsBefore (shared_rule mpcp) w n → t < n → phase_of w t j ≡ Asking m q → is_ready w t j ≡ false
    → EndedBy w bound (issue_tick_of w t j) → wait_window w.set bound (task_of w j) q ≡ Some b → t < issue_tick_of w t j + b
waits_since_issue w bound n t j m q b formed lawful keeps l here waits ended window =
    let issued : phase_of w (issue_tick_of w t j) j ≡ Asking m q = open_at_issue w t j m q here in
    let job : IsLawfulJob w.set (job_of w.jobs j) = lawful.each j (open_listed w t j m q here) in
    waits_in_window w bound n (issue_tick_of w t j) t j m q b
    (record {
      lawful = lawful;
      keeps = keeps;
      periods = λ x k. periods_from w.set x formed k;
      ended = ended;
      order = issue_at_most w t j;
      within = l;
      active = open_active w n (issue_tick_of w t j) j m q (shared_runs_active mpcp w n keeps) (omega (arith, l, issue_at_most w t j))
          job.script issued;
      early = issued;
      late = here;
      waits = waits;
    })
    window
