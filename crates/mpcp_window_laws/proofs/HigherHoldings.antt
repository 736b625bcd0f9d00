-- During a wait under MPCP few jobs of a higher task hold the resource, each as often as it may request it. So their requests run for few
-- ticks.
use Rattle.std.proofs.Common.{◌≡◌, ℕ, suc, ◌+◌, ◌-◌, ◌*◌, ◌<◌, ◌≤◌, ◌==◌, ◌&&◌, Bool, true, length, sym, ap, ◌∙◌}
use Rattle.std.proofs.Common.{arith, inl, inr, Some}
use Rattle.std.proofs.Math.Nat.{mul-le-mul_right}
use Rattle.std.proofs.lemmas.Bool.{cases_lt, cases_Bool, and_parts, and_from, eqb-true}
use Rattle.number_laws.specs.Sums.{sum_below, flag, only_if}
use Rattle.number_laws.specs.Tests.{count_below}
use Rattle.number_laws.proofs.SumLaws.{sum_below-monotone}
use Rattle.number_laws.proofs.CountLaws.{count_below-split, flag-passes}
use Rattle.sporadic_model.specs.Users.{count_of, length_of}
use Rattle.schedule_model.specs.JobDef.{job_of, number_of_requests}
use Rattle.schedule_model.specs.LawfulJobs.{is_script, IsLawfulJob}
use Rattle.schedule_model.specs.RowDef.{Trace, running_on, runs_in}
use Rattle.schedule_model.specs.Phase.{is_asking, is_same_request, phase_of}
use Rattle.schedule_model.specs.Phase.Phase.{Asking}
use Rattle.schedule_model.specs.Activity.{task_of, is_active}
use Rattle.schedule_model.specs.Ranks.{mpcp}
use Rattle.schedule_laws.specs.Agreement.{RunsActiveBefore}
use Rattle.schedule_laws.specs.Counting.{executed_in}
use Rattle.schedule_laws.specs.LocalRuns.{LocalRun}
use Rattle.schedule_laws.proofs.ActiveJobs.{active_listed}
use Rattle.schedule_laws.proofs.Counts.{asking_at_most}
use Rattle.schedule_laws.proofs.Holders.{open_active}
use Rattle.schedule_laws.proofs.Rows.{runs_where}
use Rattle.schedule_laws.proofs.SharedLaws.{shared_runs_active}
use Rattle.schedule_laws.proofs.Ticks.{asking_is, local_run_before, same_true}
use Rattle.row_laws.proofs.Brings.{only_if-parts}
use Rattle.row_laws.proofs.JobRows.{ActiveIn, paid_in_span}
use Rattle.mpcp_window_laws.specs.MpcpWindows.{own_ticks}
use Rattle.mpcp_window_laws.proofs.Waiting.{Waiting, holder_of, HeldByOther, held_by_other}

-- A job in a request was active the tick before.
active_before : (w : Trace) (n t z k q : ℕ) → RunsActiveBefore w n → t < n → is_script (job_of w.jobs z).script ≡ true
    → phase_of w (suc t) z ≡ Asking k q → is_active w t z ≡ true
active_before w n t z k q active l script late = elim (cases_Bool (is_same_request (phase_of w t z) (Asking k q))) [
  | inl same ↦
      let some : (r : ℕ) × (phase_of w t z ≡ Asking k r) = same_true (phase_of w t z) k q same in
      open_active w n t z k some.0 active (omega (arith, l)) script some.1
  | inr other ↦
      let r : LocalRun w t (suc t) z = local_run_before w t (suc t) z k q script (omega arith) late other in
      let at : (c : ℕ) × (running_on (w.row r.tick) c ≡ Some z) = runs_where (w.row r.tick) z r.runs in
      let here : r.tick ≡ t = omega (arith, r.from, r.before) in
      rw here at (active r.tick at.0 z (omega (arith, here, l)) at.1)
]

-- So a job that is in a request at one of the first suc base ticks of the wait is active in the first base ones.
pub active_early : (w : Trace) (bound : ℕ → ℕ) (n u v j m q base d x y k r : ℕ) → Waiting w bound n u v j m q → 0 < base → u + base ≤ v
    → d < suc base → is_active w (u + d) y ≡ true → phase_of w (u + d) y ≡ Asking k r → task_of w y ≡ x → ActiveIn w u (u + base) x y
active_early w bound n u v j m q base d x y k r a some long l active asks task = elim (cases_lt d base) [
  | inl before ↦ record { tick = u + d; active = active; task = task; from = omega arith; before = omega (arith, before) }
  | inr last ↦
      let same : suc (u + (base - 1)) ≡ u + d = omega (arith, last, l, some) in
      record {
        tick = u + (base - 1);
        active = active_before w n (u + (base - 1)) y k r (shared_runs_active mpcp w n a.keeps) (omega (arith, a.within, long, some))
            (a.lawful.each y (active_listed w (u + d) y active)).script (ap (λ s. phase_of w s y) same ∙ asks);
        task = task;
        from = omega (arith, some);
        before = omega (arith, some);
      }
]

-- Is the holder a job of task x? And does it run?
abbrev pub is_held_by : Trace → ℕ → ℕ → ℕ → Bool
is_held_by w q x t = task_of w (holder_of w q t) == x

abbrev pub is_own_by : Trace → ℕ → ℕ → ℕ → Bool
is_own_by w q x t = is_held_by w q x t && runs_in (w.row t) (holder_of w q t)

-- A job that holds q is active early.
pub holder_early : (w : Trace) (bound : ℕ → ℕ) (n u v j m q base d x : ℕ) → Waiting w bound n u v j m q → 0 < base → u + base ≤ v
    → d < suc base → is_held_by w q x (u + d) ≡ true → ActiveIn w u (u + base) x (holder_of w q (u + d))
holder_early w bound n u v j m q base d x a some long l is =
    let h : HeldByOther w (u + d) j q = held_by_other w bound n u v j m q (u + d) a (omega arith) (omega (arith, l, long)) in
    active_early w bound n u v j m q base d x (holder_of w q (u + d)) h.number q a some long l h.active h.asks
    (eqb-true (task_of w (holder_of w q (u + d))) x is)

-- A job of x runs its requests of q at most as often, and each for as long, as it may.
job_runs : (w : Trace) (bound : ℕ → ℕ) (n u v j m q x z span : ℕ) → Waiting w bound n u v j m q → u + span ≤ suc v → z < length w.jobs
    → task_of w z ≡ x
    → sum_below span (λ d. only_if (holder_of w q (u + d) == z) (flag (is_own_by w q x (u + d))))
    ≤ count_of w.set x q * length_of w.set x q
unfolding executed_in
job_runs w bound n u v j m q x z span a long listed task =
    let most : sum_below span (λ d. only_if (holder_of w q (u + d) == z) (flag (is_own_by w q x (u + d))))
    ≤ count_below span (λ d. runs (u + d)) =
    sum_below-monotone span (λ d. only_if (holder_of w q (u + d) == z) (flag (is_own_by w q x (u + d))))
    (λ d. flag (runs (u + d))) (λ d l. term d l) in
    let whole : executed_in (is_asking q) w (u + span) z ≤ number_of_requests (job_of w.jobs z).script q * length_of w.set x q =
    rw task at (asking_at_most w.set w (u + span) q z job) in
    let number : number_of_requests (job_of w.jobs z).script q ≤ count_of w.set x q = rw task at (job.count q) in
    omega (arith, most, whole, mul-le-mul_right (length_of w.set x q) number, count_below-split u span runs) where
      job : IsLawfulJob w.set (job_of w.jobs z)
      job = a.lawful.each z listed

      runs : ℕ → Bool
      runs = λ t. runs_in (w.row t) z && is_asking q (phase_of w t z)

      term : (d : ℕ) → d < span → only_if (holder_of w q (u + d) == z) (flag (is_own_by w q x (u + d))) ≤ flag (runs (u + d))
      term d l = elim (cases_lt 0 (only_if (holder_of w q (u + d) == z) (flag (is_own_by w q x (u + d))))) [
        | inr none ↦ omega (arith, none)
        | inl some ↦
            let parts : ((holder_of w q (u + d) == z) ≡ true) × (0 < flag (is_own_by w q x (u + d))) =
            only_if-parts (holder_of w q (u + d) == z) (flag (is_own_by w q x (u + d))) some in
            let own : is_own_by w q x (u + d) ≡ true = flag-passes (is_own_by w q x (u + d)) parts.1 in
            let here : runs (u + d) ≡ true =
            go d l (eqb-true (holder_of w q (u + d)) z parts.0)
            (and_parts (is_held_by w q x (u + d)) (runs_in (w.row (u + d)) (holder_of w q (u + d))) own).1 in
            rw (parts.0, own, here) (omega arith)
      ] where
        go : (d : ℕ) → d < span → holder_of w q (u + d) ≡ z → runs_in (w.row (u + d)) (holder_of w q (u + d)) ≡ true → runs (u + d) ≡ true
        go d l same ran =
            let h : HeldByOther w (u + d) j q = held_by_other w bound n u v j m q (u + d) a (omega arith) (omega (arith, l, long)) in
            and_from _ _ (ap (runs_in (w.row (u + d))) (sym same) ∙ ran)
            (asking_is h.number q (phase_of w (u + d) z) (ap (phase_of w (u + d)) (sym same) ∙ h.asks))

-- So all its jobs do.
pub higher_runs : (w : Trace) (bound : ℕ → ℕ) (n u v j m q x base : ℕ) → Waiting w bound n u v j m q → 0 < base → u + base ≤ v
    → x < length w.set.tasks → count_below (suc base) (λ d. is_own_by w q x (u + d)) ≤ own_ticks w.set bound q base x
higher_runs w bound n u v j m q x base a some long l =
    paid_in_span w bound u base x (suc base) (count_of w.set x q * length_of w.set x q) (λ d. holder_of w q (u + d))
    (λ d. flag (is_own_by w q x (u + d))) a.lawful (a.periods x l) a.ended
    (λ d b passes. holder_early w bound n u v j m q base d x a some long b
    (and_parts (is_held_by w q x (u + d)) (runs_in (w.row (u + d)) (holder_of w q (u + d)))
    (flag-passes (is_own_by w q x (u + d)) passes)).0)
    (λ z b task. job_runs w bound n u v j m q x z (suc base) a (omega (arith, long)) b task)
