-- While a request is open it has run less than its length.
use Rattle.std.proofs.Common.{◌≡◌, ℕ, suc, ◌+◌, ◌<◌, ◌≤◌, ◌&&◌, Bool, true, refl, sym, ap, ◌∙◌, arith, List}
use Rattle.std.proofs.lemmas.Bool.{and_from, eq-eqb}
use Rattle.number_laws.specs.Tests.{count_below}
use Rattle.number_laws.proofs.CountLaws.{count_below-monotone, count_below-split, flag-of_true}
use Rattle.sporadic_model.specs.Users.{length_of}
use Rattle.schedule_model.specs.JobDef.{SegmentDef, job_of}
use Rattle.schedule_model.specs.LawfulJobs.{IsLawfulJob}
use Rattle.schedule_model.specs.RowDef.{Trace, runs_in}
use Rattle.schedule_model.specs.Phase.{phase_from, executed, phase_of}
use Rattle.schedule_model.specs.Phase.Phase.{Asking}
use Rattle.schedule_model.specs.Activity.{task_of, is_active}
use Rattle.schedule_model.specs.DpcpRules.{home_of}
use Rattle.schedule_laws.specs.Counting.{executed_in, is_request, ticks_where}
use Rattle.schedule_laws.proofs.Counts.{executed_where, script_at_most, ticks_request}
use Rattle.schedule_laws.proofs.Ticks.{phase_at}
use Rattle.schedule_laws.proofs.ActiveJobs.{active_listed, one_active}
use Rattle.schedule_laws.proofs.Rows.{runs_from}
use Rattle.charge_laws.proofs.DpcpCharging.{RunsRequest}
use Rattle.window_laws.proofs.OpenRequests.{Open, open_request, open_active, request_runs, is_by, by_is, RunBy}

request_is : (m q : ℕ) → is_request m q (Asking m q) ≡ true
request_is m q = and_from _ _ (eq-eqb m m refl) (eq-eqb q q refl)

asking_still : (w : Trace) (t j m q : ℕ) → IsLawfulJob w.set (job_of w.jobs j) → phase_of w t j ≡ Asking m q
    → executed_in (is_request m q) w t j < length_of w.set (task_of w j) q
asking_still w t j m q lawful e =
    let script : List SegmentDef = (job_of w.jobs j).script in
    let most : count_below (suc (executed w t j)) (λ d. is_request m q (phase_from 0 script d)) ≤ ticks_where (is_request m q) 0 script =
    script_at_most (is_request m q) 0 script (suc (executed w t j)) refl in
    let here : is_request m q (phase_from 0 script (executed w t j)) ≡ true =
    ap (is_request m q) (sym (phase_at w t j) ∙ e) ∙ request_is m q in
    omega (
      arith,
      executed_where (is_request m q) w t j,
      most,
      flag-of_true (is_request m q (phase_from 0 script (executed w t j))) here,
      ticks_request w.set (task_of w j) 0 m q script lawful.lengths,
    )

-- Of a span before its end fewer ticks are its own.
pub own_ticks : (w : Trace) (bound : ℕ → ℕ) (n u v j m q span : ℕ) → Open w bound n u v j m q → u + span ≤ v
    → count_below span (λ d. is_by w (home_of w q) (task_of w j) (u + d)) < length_of w.set (task_of w j) q
unfolding executed_in
own_ticks w bound n u v j m q span stays long =
    let most : count_below span (λ d. is_by w (home_of w q) (task_of w j) (u + d)) ≤ count_below span (λ d. runs (u + d)) =
    count_below-monotone span (λ d. is_by w (home_of w q) (task_of w j) (u + d)) (λ d. runs (u + d)) (λ d l h. own d l h) in
    let whole : executed_in (is_request m q) w (u + span) j < length_of w.set (task_of w j) q =
    asking_still w (u + span) j m q (stays.lawful.each j (active_listed w u j stays.active))
    (open_request w bound n u v j m q (u + span) stays (omega arith) long) in
    omega (arith, most, whole, count_below-split u span runs) where
      runs : ℕ → Bool
      runs = λ t. runs_in (w.row t) j && is_request m q (phase_of w t j)

      own : (d : ℕ) → d < span → is_by w (home_of w q) (task_of w j) (u + d) ≡ true → runs (u + d) ≡ true
      own d l h =
          let at : (r : RunBy w (home_of w q) (u + d)) × (task_of w r.job ≡ task_of w j) =
          by_is w (home_of w q) (task_of w j) (u + d) h in
          let a : RunsRequest w (u + d) (home_of w q) at.0.job =
          request_runs w bound n u v j m q (u + d) at.0.job stays (omega arith) (omega (arith, l, long)) at.0.runs in
          let active : is_active w (u + d) j ≡ true =
          open_active w bound n u v j m q (u + d) stays (omega arith) (omega (arith, l, long)) in
          let same : at.0.job ≡ j = one_active w (u + d) at.0.job j a.active active at.1 in
          let request : phase_of w (u + d) j ≡ Asking m q =
          open_request w bound n u v j m q (u + d) stays (omega arith) (omega (arith, l, long)) in
          and_from _ _ (ap (runs_in (w.row (u + d))) (sym same) ∙ runs_from (w.row (u + d)) (home_of w q) at.0.job at.0.runs)
          (ap (is_request m q) request ∙ request_is m q)
