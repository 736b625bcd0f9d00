-- During a wait under MPCP a lower job holds the resource only if it held it at the issue. So it is one holding.
use Rattle.std.proofs.Common.{◌≡◌, ℕ, suc, ◌+◌, ◌<◌, ◌≤◌, Bool, true, false, length, refl, sym, ap, ◌∙◌}
use Rattle.std.proofs.Common.{arith, inl, inr, Some, nat_lt}
use Rattle.std.proofs.lemmas.Bool.{cases_Bool, and_from, eq-eqb, eqb-true, lt-ltb, ltb-true, not_from_false}
use Rattle.number_laws.specs.Sums.{flag, only_if}
use Rattle.number_laws.specs.Tests.{count_below}
use Rattle.number_laws.proofs.SumLaws.{sum_below-none_or_some}
use Rattle.number_laws.proofs.CountLaws.{count_below-monotone, flag-passes}
use Rattle.schedule_model.specs.JobDef.{job_of}
use Rattle.schedule_model.specs.LawfulJobs.{IsLawfulJob}
use Rattle.schedule_model.specs.RowDef.{Trace, holder_in}
use Rattle.schedule_model.specs.Phase.{phase_of}
use Rattle.schedule_model.specs.Phase.Phase.{Local, Asking}
use Rattle.schedule_model.specs.Activity.{task_of}
use Rattle.schedule_model.specs.Ranks.{mpcp}
use Rattle.schedule_laws.specs.Counting.{is_request}
use Rattle.schedule_laws.proofs.ActiveJobs.{active_listed, Requester}
use Rattle.schedule_laws.proofs.Rows.{named_job}
use Rattle.schedule_laws.proofs.Segments.{open_user}
use Rattle.schedule_laws.proofs.SharedLaws.{shared_runs_active}
use Rattle.blocking_columns.specs.Columns.{have_one_processor}
use Rattle.row_laws.proofs.LowerHolders.{Asks, asks_between, held_since, holder_asks}
use Rattle.row_laws.proofs.Requests.{one_request}
use Rattle.row_laws.proofs.SlotRow.{OneRequest}
use Rattle.closer_mpcp_laws.proofs.LowerWaits.{not_held_lower}
use Rattle.window_laws.proofs.Least.{greatest_below-term}
use Rattle.mpcp_window_laws.specs.MpcpWindows.{holding_ticks, may_hold_before, longest_lower_holding}
use Rattle.mpcp_window_laws.proofs.Waiting.{Waiting, waiting_asks, holder_of, HeldByOther, held_by_other}
use Rattle.mpcp_window_laws.proofs.OneHolding.{is_holding, one_holding}

-- Is the holder a job of a task lower than i?
abbrev pub is_held_lower : Trace → ℕ → ℕ → ℕ → Bool
is_held_lower w q i t = nat_lt i (task_of w (holder_of w q t))

-- A lower job that holds q at t, and in the same request since u.
record Since (w : Trace) (u t j q : ℕ) : Type 0 where
  now : HeldByOther w t j q
  lower : task_of w j < task_of w (holder_of w q t)
  holder : holder_in (w.row u) q ≡ Some (holder_of w q t)
  first : phase_of w u (holder_of w q t) ≡ Asking now.number q

since_issue : (w : Trace) (bound : ℕ → ℕ) (n u v j m q t : ℕ) → Waiting w bound n u v j m q → u ≤ t → t ≤ v
    → is_held_lower w q (task_of w j) t ≡ true → Since w u t j q
since_issue w bound n u v j m q t a from to h =
    record { now = now; lower = lower; holder = since u (omega arith) from; first = same.phase ∙ now.asks } where
      y : ℕ
      y = holder_of w q t

      l : t < n
      l = omega (arith, a.within, to)

      now : HeldByOther w t j q
      now = held_by_other w bound n u v j m q t a from to

      lower : task_of w j < task_of w y
      lower = ltb-true (task_of w j) (task_of w y) h

      asks : Asks w u t q j
      asks = asks_between w u t m q q j from a.active a.early (waiting_asks w bound n u v j m q t a from to)

      since : (s : ℕ) → u ≤ s → s ≤ t → holder_in (w.row s) q ≡ Some y
      since = held_since w n u t q y j a.keeps l asks lower now.holder

      then : Requester w u q y
      then = holder_asks mpcp w n u q y a.keeps (omega (arith, l, from)) (since u (omega arith) from)

      same : OneRequest w u t y y
      same =
          one_request w n u t y y now.number q (shared_runs_active mpcp w n a.keeps) (omega (arith, l, from)) from
          (a.lawful.each y (active_listed w t y now.active)).script then.active refl now.asks
          (λ s early late local runs.
          let r : Requester w s q y = holder_asks mpcp w n s q y a.keeps (omega (arith, l, late)) (since s early (omega (arith, late))) in
          let x : Local ≡ Asking r.number q = sym local ∙ r.phase in cc)

-- Two such ticks are of one holding.
one_lower : (w : Trace) (u s t j q : ℕ) → (a : Since w u s j q) → (b : Since w u t j q)
    → is_holding w q (holder_of w q s) a.now.number t ≡ true
one_lower w u s t j q a b =
    let both : Some (holder_of w q t) ≡ Some (holder_of w q s) = sym b.holder ∙ a.holder in
    let job : holder_of w q t ≡ holder_of w q s = cc in
    let phases : Asking b.now.number q ≡ Asking a.now.number q = sym b.first ∙ ap (phase_of w u) job ∙ a.first in
    let number : b.now.number ≡ a.now.number = cc in
    let asks : phase_of w t (holder_of w q s) ≡ Asking b.now.number q = ap (phase_of w t) (sym job) ∙ b.now.asks in
    and_from _ _ (named_job (holder_of w q s) (holder_in (w.row t) q) (b.now.holder ∙ ap (λ y. Some y) job))
    (ap (is_request a.now.number q) asks ∙ and_from _ _ (eq-eqb b.now.number a.now.number number) (eq-eqb q q refl))

-- It is one that the window counts.
counts_lower : (w : Trace) (bound : ℕ → ℕ) (n u v j m q t : ℕ) → Waiting w bound n u v j m q → u ≤ t → t ≤ v → Since w u t j q
    → holding_ticks w.set (task_of w j) q (task_of w (holder_of w q t)) ≤ longest_lower_holding w.set (task_of w j) q
counts_lower w bound n u v j m q t a from to b =
    let term : only_if (may_hold_before w.set (task_of w j) q (task_of w y)) (holding_ticks w.set (task_of w j) q (task_of w y))
    ≤ longest_lower_holding w.set (task_of w j) q =
    greatest_below-term (length w.set.tasks)
    (λ x. only_if (may_hold_before w.set (task_of w j) q x) (holding_ticks w.set (task_of w j) q x)) (task_of w y) job.task in
    rw may at term where
      y : ℕ
      y = holder_of w q t

      job : IsLawfulJob w.set (job_of w.jobs y)
      job = a.lawful.each y (active_listed w t y b.now.active)

      elsewhere : have_one_processor w.set (task_of w y) (task_of w j) ≡ false
      elsewhere = elim (cases_Bool (have_one_processor w.set (task_of w y) (task_of w j))) [
        | inr off ↦ off
        | inl here ↦ absurd (not_held_lower w n t j y m q a.keeps a.lawful (omega (arith, a.within, to))
            (waiting_asks w bound n u v j m q t a from to) b.now.holder (record { lower = b.lower; processor = eqb-true _ _ here }))
      ]

      may : may_hold_before w.set (task_of w j) q (task_of w y) ≡ true
      may = and_from _ _ (lt-ltb (task_of w j) (task_of w y) b.lower)
          (and_from _ _ (open_user w.set w t y b.now.number q job b.now.asks) (not_from_false _ elsewhere))

pub lower_holding : (w : Trace) (bound : ℕ → ℕ) (n u v j m q span : ℕ) → Waiting w bound n u v j m q → u + span ≤ suc v
    → count_below span (λ d. is_held_lower w q (task_of w j) (u + d)) ≤ longest_lower_holding w.set (task_of w j) q
lower_holding w bound n u v j m q span a long =
    sum_below-none_or_some span (longest_lower_holding w.set (task_of w j) q) (λ d. flag (low d))
    (λ d l some. from d l (flag-passes (low d) some)) where
      low : ℕ → Bool
      low = λ d. is_held_lower w q (task_of w j) (u + d)

      since : (d : ℕ) → d < span → low d ≡ true → Since w u (u + d) j q
      since d l h = since_issue w bound n u v j m q (u + d) a (omega arith) (omega (arith, l, long)) h

      from : (d : ℕ) → d < span → low d ≡ true → count_below span low ≤ longest_lower_holding w.set (task_of w j) q
      from d l h =
          let b : Since w u (u + d) j q = since d l h in
          let most : count_below span low ≤ count_below span (λ e. is_holding w q (holder_of w q (u + d)) b.now.number (u + e)) =
          count_below-monotone span low (λ e. is_holding w q (holder_of w q (u + d)) b.now.number (u + e))
          (λ e k g. one_lower w u (u + d) (u + e) j q b (since e k g)) in
          omega (
            arith,
            most,
            one_holding w bound n u v j m q (holder_of w q (u + d)) b.now.number span a long
                (active_listed w (u + d) (holder_of w q (u + d)) b.now.active),
            counts_lower w bound n u v j m q (u + d) a (omega arith) (omega (arith, l, long)) b,
          )
