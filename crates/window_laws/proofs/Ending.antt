-- A request ends within each number of ticks that is enough for it.
use Rattle.std.proofs.Common.{◌≡◌, ℕ, suc, ◌+◌, ◌<◌, ◌≤◌, arith, inl, inr, Some, true}
use Rattle.std.proofs.lemmas.Bool.{cases_lt}
use Rattle.number_laws.specs.Sums.{sum_below}
use Rattle.number_laws.specs.Tests.{count_below}
use Rattle.number_laws.proofs.SumLaws.{sum_below-monotone}
use Rattle.number_laws.proofs.TestLaws.{found_below-is}
use Rattle.sporadic_model.specs.SetDef.{task_at}
use Rattle.sporadic_model.specs.Accepted.{IsFormed}
use Rattle.schedule_model.specs.JobDef.{job_of}
use Rattle.schedule_model.specs.LawfulJobs.{AreLawfulJobs, IsLawfulJob}
use Rattle.schedule_model.specs.RowDef.{Trace, jobs_of}
use Rattle.schedule_model.specs.Phase.{phase_of}
use Rattle.schedule_model.specs.Phase.Phase.{Asking}
use Rattle.schedule_model.specs.Activity.{task_of, issue_tick_of}
use Rattle.schedule_model.specs.DpcpRules.{home_of}
use Rattle.schedule_model.specs.Protocols.{dpcp_rule}
use Rattle.schedule_model.specs.Keeping.{KeepsBefore}
use Rattle.schedule_laws.proofs.ActiveJobs.{active_listed}
use Rattle.schedule_laws.proofs.DpcpLaws.{dpcp_runs_active}
use Rattle.schedule_laws.proofs.Holders.{open_active}
use Rattle.schedule_laws.proofs.Issues.{issue_at_most, open_at_issue}
use Rattle.schedule_laws.proofs.Segments.{open_listed}
use Rattle.charge_laws.specs.Windows.{EndedBy}
use Rattle.row_laws.proofs.Joined.{periods_from}
use Rattle.window_laws.specs.Windows.{ticks_by, ticks_there, is_enough, window_of}
use Rattle.window_laws.proofs.Enough.{enough_is}
use Rattle.window_laws.proofs.OpenRequests.{Open, is_by, span_parts}
use Rattle.window_laws.proofs.OwnTicks.{own_ticks}
use Rattle.window_laws.proofs.LowerTicks.{lower_ticks}
use Rattle.window_laws.proofs.HigherTicks.{higher_ticks}

pub ends_within : (w : Trace) (bound : ℕ → ℕ) (n u v j m q span : ℕ) → Open w bound n u v j m q
    → ticks_there w.set bound (task_of w j) q span ≤ span → v < u + span
ends_within w bound n u v j m q span stays enough = elim (cases_lt v (u + span)) [
  | inl before ↦ before
  | inr long ↦
      let job : IsLawfulJob w.set (job_of w.jobs j) = stays.lawful.each j (active_listed w u j stays.active) in
      let higher : sum_below (task_of w j) (λ x. count_below span (λ d. is_by w (home_of w q) x (u + d)))
      ≤ sum_below (task_of w j) (ticks_by w.set bound (home_of w q) span) =
      sum_below-monotone (task_of w j) (λ x. count_below span (λ d. is_by w (home_of w q) x (u + d)))
      (ticks_by w.set bound (home_of w q) span)
      (λ x l. higher_ticks w bound n u v j m q span x stays long (omega (arith, l, job.task))) in
      absurd (omega (
        arith,
        span_parts w bound n u v j m q span stays long,
        own_ticks w bound n u v j m q span stays long,
        lower_ticks w bound n u v j m q span stays long,
        higher,
        enough,
      ))
]

-- So it ends within its window.
pub ends_in_window : (w : Trace) (bound : ℕ → ℕ) (n u v j m q b : ℕ) → Open w bound n u v j m q
    → window_of w.set bound (task_of w j) q ≡ Some b → v < u + b
ends_in_window w bound n u v j m q b stays e =
    let found : (b < suc (task_at w.set (task_of w j)).deadline) × (is_enough w.set bound (task_of w j) q b ≡ true) =
    found_below-is (suc (task_at w.set (task_of w j)).deadline) (is_enough w.set bound (task_of w j) q) b e in
    ends_within w bound n u v j m q b stays (enough_is (ticks_there w.set bound (task_of w j) q) b found.1).1

-- In a lawful schedule: an open request is less than its window past its issue, where each job whose bound had passed by then had ended.
pub open_since_issue : (w : Trace) (bound : ℕ → ℕ) (n t j m q b : ℕ) → IsFormed w.set → AreLawfulJobs (jobs_of w)
    → KeepsBefore dpcp_rule w n → t < n → phase_of w t j ≡ Asking m q → EndedBy w bound (issue_tick_of w t j)
    → window_of w.set bound (task_of w j) q ≡ Some b → t < issue_tick_of w t j + b
open_since_issue w bound n t j m q b formed lawful keeps l here ended window =
    let issued : phase_of w (issue_tick_of w t j) j ≡ Asking m q = open_at_issue w t j m q here in
    let job : IsLawfulJob w.set (job_of w.jobs j) = lawful.each j (open_listed w t j m q here) in
    ends_in_window w bound n (issue_tick_of w t j) t j m q b
    (record {
      lawful = lawful;
      keeps = keeps;
      periods = λ x k. periods_from w.set x formed k;
      ended = ended;
      order = issue_at_most w t j;
      within = l;
      active = open_active w n (issue_tick_of w t j) j m q (dpcp_runs_active w n keeps) (omega (arith, l, issue_at_most w t j))
          job.script issued;
      early = issued;
      late = here;
    })
    window
