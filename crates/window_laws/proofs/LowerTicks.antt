-- While a request is open at most one request of a lower task runs at its home.
use Rattle.std.proofs.Common.{◌≡◌, ℕ, ◌+◌, ◌<◌, ◌≤◌, ◌&&◌, Bool, true, length, refl, sym, ap, ◌∙◌, arith, inl, inr}
use Rattle.std.proofs.lemmas.Bool.{cases_lt, and_from, eq-eqb, lt-ltb, le-leb}
use Rattle.number_laws.specs.Sums.{flag, only_if}
use Rattle.number_laws.specs.Tests.{count_below}
use Rattle.number_laws.proofs.SumLaws.{sum_below-none_or_some}
use Rattle.number_laws.proofs.CountLaws.{count_below-monotone, count_below-split, flag-passes}
use Rattle.sporadic_model.specs.Users.{length_of}
use Rattle.sporadic_model.specs.Homes.{home_in}
use Rattle.schedule_model.specs.JobDef.{job_of}
use Rattle.schedule_model.specs.LawfulJobs.{IsLawfulJob}
use Rattle.schedule_model.specs.Measures.{greatest_below}
use Rattle.schedule_model.specs.RowDef.{Trace, runs_in}
use Rattle.schedule_model.specs.Phase.{phase_of}
use Rattle.schedule_model.specs.Phase.Phase.{Asking}
use Rattle.schedule_model.specs.Activity.{task_of}
use Rattle.schedule_model.specs.DpcpRules.{home_of, ceiling_rank}
use Rattle.schedule_laws.specs.Counting.{executed_in, is_request}
use Rattle.schedule_laws.proofs.ActiveJobs.{active_listed}
use Rattle.schedule_laws.proofs.Counts.{request_at_most}
use Rattle.schedule_laws.proofs.Rows.{runs_from}
use Rattle.schedule_laws.proofs.Segments.{open_resource, open_user}
use Rattle.row_laws.proofs.LowerHolders.{asks_between}
use Rattle.row_laws.proofs.Ordered.{LowRunner, low_ceiling}
use Rattle.row_laws.proofs.HomeRow.{one_low_request}
use Rattle.row_laws.proofs.SlotRow.{OneRequest}
use Rattle.window_laws.specs.Windows.{may_hold_up, longest_lower}
use Rattle.window_laws.proofs.Least.{greatest_below-term}
use Rattle.window_laws.proofs.OpenRequests.{Open, open_request, open_active, request_runs, is_by_lower, lower_is, RunBy}

-- A lower job that runs there.
record Lower (w : Trace) (t k j : ℕ) : Type 0 where
  job : ℕ
  runner : LowRunner w t k j job

lower_runs : (w : Trace) (bound : ℕ → ℕ) (n u v j m q t : ℕ) → Open w bound n u v j m q → u ≤ t → t ≤ v
    → is_by_lower w (home_of w q) (task_of w j) t ≡ true → Lower w t (home_of w q) j
lower_runs w bound n u v j m q t stays a b h =
    let at : (r : RunBy w (home_of w q) t) × (task_of w j < task_of w r.job) = lower_is w (home_of w q) (task_of w j) t h in
    record {
      job = at.0.job;
      runner = record {
        runner = request_runs w bound n u v j m q t at.0.job stays a b at.0.runs;
        active = open_active w bound n u v j m q t stays a b;
        number = m;
        resource = q;
        request = open_request w bound n u v j m q t stays a b;
        home = refl;
        lower = at.1;
      };
    }

-- Two that run there are of one request.
one_lower : (w : Trace) (bound : ℕ → ℕ) (n u v j m q s t a b : ℕ) → Open w bound n u v j m q → u ≤ s → s ≤ t → t ≤ v
    → LowRunner w s (home_of w q) j a → LowRunner w t (home_of w q) j b → OneRequest w s t a b
one_lower w bound n u v j m q s t a b stays from order to early late =
    one_low_request w n s t q j a b stays.lawful stays.keeps (omega (arith, stays.within, to))
    (asks_between w s t m q q j order early.active (open_request w bound n u v j m q s stays from (omega (arith, order, to)))
    (open_request w bound n u v j m q t stays (omega (arith, from, order)) to)) early late

-- It is one that the window counts.
lower_length : (w : Trace) (bound : ℕ → ℕ) (n u v j m q t y : ℕ) → Open w bound n u v j m q → t ≤ v
    → (low : LowRunner w t (home_of w q) j y)
    → length_of w.set (task_of w y) low.runner.resource ≤ longest_lower w.set (task_of w j) (home_in w.set q)
lower_length w bound n u v j m q t y stays to low =
    let job : IsLawfulJob w.set (job_of w.jobs y) = stays.lawful.each y (active_listed w t y low.runner.active) in
    let r : ℕ = low.runner.resource in
    let ceiling : ceiling_rank w r ≤ task_of w j =
    low_ceiling w n t (home_of w q) j y stays.lawful stays.keeps (omega (arith, stays.within, to)) low in
    let counts : may_hold_up w.set (task_of w j) (home_in w.set q) (task_of w y) r ≡ true =
    and_from _ _ (lt-ltb (task_of w j) (task_of w y) low.lower) (and_from _ _ (eq-eqb (home_of w r) (home_of w q) low.runner.home)
    (and_from _ _ (open_user w.set w t y low.runner.number r job low.runner.request)
    (le-leb (ceiling_rank w r) (task_of w j) ceiling))) in
    let inner : only_if (may_hold_up w.set (task_of w j) (home_in w.set q) (task_of w y) r) (length_of w.set (task_of w y) r)
    ≤ greatest_below (length w.set.resources)
    (λ c. only_if (may_hold_up w.set (task_of w j) (home_in w.set q) (task_of w y) c) (length_of w.set (task_of w y) c)) =
    greatest_below-term (length w.set.resources)
    (λ c. only_if (may_hold_up w.set (task_of w j) (home_in w.set q) (task_of w y) c) (length_of w.set (task_of w y) c)) r
    (open_resource w.set w t y low.runner.number r job low.runner.request) in
    let one : length_of w.set (task_of w y) r ≤ greatest_below (length w.set.resources)
    (λ c. only_if (may_hold_up w.set (task_of w j) (home_in w.set q) (task_of w y) c) (length_of w.set (task_of w y) c)) =
    rw counts at inner in
    omega (
      arith,
      one,
      greatest_below-term (length w.set.tasks)
          (λ x. greatest_below (length w.set.resources)
          (λ c. only_if (may_hold_up w.set (task_of w j) (home_in w.set q) x c) (length_of w.set x c)))
          (task_of w y) job.task,
    )

pub lower_ticks : (w : Trace) (bound : ℕ → ℕ) (n u v j m q span : ℕ) → Open w bound n u v j m q → u + span ≤ v
    → count_below span (λ d. is_by_lower w (home_of w q) (task_of w j) (u + d))
    ≤ longest_lower w.set (task_of w j) (home_in w.set q)
unfolding executed_in
lower_ticks w bound n u v j m q span stays long =
    sum_below-none_or_some span (longest_lower w.set (task_of w j) (home_in w.set q))
    (λ d. flag (is_by_lower w (home_of w q) (task_of w j) (u + d))) (λ d l some. from d l (flag-passes (low d) some)) where
      low : ℕ → Bool
      low = λ d. is_by_lower w (home_of w q) (task_of w j) (u + d)

      from : (d : ℕ) → d < span → low d ≡ true → count_below span low ≤ longest_lower w.set (task_of w j) (home_in w.set q)
      from d l h =
          let most : count_below span low ≤ count_below span (λ e. runs (u + e)) =
          count_below-monotone span low (λ e. runs (u + e)) (λ e k g. same e k g) in
          let whole : executed_in (is_request number resource) w (u + span) y ≤ length_of w.set (task_of w y) resource =
          request_at_most w.set w (u + span) number resource y (stays.lawful.each y (active_listed w (u + d) y first.runner.runner.active)) in
          omega (
            arith,
            most,
            whole,
            count_below-split u span runs,
            lower_length w bound n u v j m q (u + d) y stays (omega (arith, l, long)) first.runner,
          ) where
            first : Lower w (u + d) (home_of w q) j
            first = lower_runs w bound n u v j m q (u + d) stays (omega arith) (omega (arith, l, long)) h

            y : ℕ
            y = first.job

            number : ℕ
            number = first.runner.runner.number

            resource : ℕ
            resource = first.runner.runner.resource

            runs : ℕ → Bool
            runs = λ t. runs_in (w.row t) y && is_request number resource (phase_of w t y)

            one : (e : ℕ) → e < span → (other : Lower w (u + e) (home_of w q) j) → OneRequest w (u + d) (u + e) y other.job
            one e k other = elim (cases_lt e d) [
              | inr order ↦ one_lower w bound n u v j m q (u + d) (u + e) y other.job stays (omega arith) (omega (arith, order))
                  (omega (arith, k, long)) first.runner other.runner
              | inl order ↦
                  let o : OneRequest w (u + e) (u + d) other.job y =
                  one_lower w bound n u v j m q (u + e) (u + d) other.job y stays (omega arith) (omega (arith, order))
                  (omega (arith, l, long)) other.runner first.runner in
                  record { job = sym o.job; phase = sym o.phase }
            ]

            same : (e : ℕ) → e < span → low e ≡ true → runs (u + e) ≡ true
            same e k g =
                let other : Lower w (u + e) (home_of w q) j =
                lower_runs w bound n u v j m q (u + e) stays (omega arith) (omega (arith, k, long)) g in
                let o : OneRequest w (u + d) (u + e) y other.job = one e k other in
                let phase : phase_of w (u + e) y ≡ Asking number resource =
                ap (phase_of w (u + e)) o.job ∙ sym o.phase ∙ first.runner.runner.request in
                and_from _ _ (ap (runs_in (w.row (u + e))) o.job
                ∙ runs_from (w.row (u + e)) (home_of w q) other.job other.runner.runner.runs)
                (ap (is_request number resource) phase
                ∙ and_from _ _ (eq-eqb number number refl) (eq-eqb resource resource refl))
