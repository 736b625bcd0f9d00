-- In a schedule that keeps its bounds all blocked ticks of a task's jobs lie within their windows.
use Rattle.std.proofs.Common.{◌≡◌, ℕ, ◌+◌, ◌-◌, ◌<◌, ◌≤◌, ◌==◌, Bool, false, List, length, ap, subst, arith}
use Rattle.std.specs.Prelude.{slice_index, nat_le, nat_lt}
use Rattle.std.proofs.lemmas.Bool.{and_parts, ltb-true, false_from_ne_true}
use Rattle.number_laws.specs.Sums.{only_if}
use Rattle.number_laws.specs.Tests.{count_below}
use Rattle.number_laws.proofs.SumLaws.{sum_below-agree}
use Rattle.number_laws.proofs.CountLaws.{count_below-none, count_below-split}
use Rattle.schedule_model.specs.JobDef.{job_of}
use Rattle.schedule_model.specs.RowDef.{Trace}
use Rattle.schedule_model.specs.Activity.{task_of}
use Rattle.schedule_model.specs.BlockedTicks.{is_blocked}
use Rattle.schedule_model.specs.Measures.{blocking_of}
use Rattle.charge_laws.specs.Windows.{window_end}
use Rattle.soundness_laws.specs.Sound.{due_tick, KeepsBounds}
use Rattle.soundness_laws.proofs.MeasuresKept.{blocked_inside}
use Rattle.figure_laws.specs.Figures.{blocked_sum, blocked_ticks}

-- What counts nothing from m on counts as much below m.
counted_before : (m n : ℕ) (p : ℕ → Bool) → m ≤ n → ((t : ℕ) → m ≤ t → t < n → p t ≡ false) → count_below m p ≡ count_below n p
counted_before m n p most none =
    let rest : count_below (n - m) (λ k. p (m + k)) ≡ 0 =
    count_below-none (n - m) (λ k. p (m + k)) (λ k l. none (m + k) (omega arith) (omega (arith, most, l))) in
    let whole : m + (n - m) ≡ n = omega (arith, most) in
    let parts : count_below n p ≡ count_below m p + count_below (n - m) (λ k. p (m + k)) =
    subst (λ k. count_below k p ≡ count_below m p + count_below (n - m) (λ i. p (m + i))) whole (count_below-split m (n - m) p) in
    omega (arith, rest, parts)

-- So all blocked ticks of a job are those of its window.
job_inside : (interferes : Trace → ℕ → ℕ → Bool) (w : Trace) (n : ℕ) (bounds values : List ℕ) (j : ℕ)
    → KeepsBounds interferes w n bounds values → j < length w.jobs
    → count_below (window_end w (slice_index bounds) n j) (λ t. is_blocked interferes w t j) ≡ blocking_of interferes w n j
unfolding blocking_of
job_inside interferes w n bounds values j kept l =
    counted_before (window_end w (slice_index bounds) n j) n (λ t. is_blocked interferes w t j) (omega arith) past where
      past : (t : ℕ) → window_end w (slice_index bounds) n j ≤ t → t < n → is_blocked interferes w t j ≡ false
      past t after before = false_from_ne_true (is_blocked interferes w t j) (λ blocked.
          let parts = and_parts (nat_le (job_of w.jobs j).release t) (nat_lt t (due_tick w bounds j))
          (blocked_inside interferes w n bounds values t j kept l before blocked) in
          let inside : t < due_tick w bounds j = ltb-true t (due_tick w bounds j) parts.1 in
          omega (arith, after, before, inside))

pub all_inside : (interferes : Trace → ℕ → ℕ → Bool) (w : Trace) (n : ℕ) (bounds values : List ℕ) (x : ℕ)
    → KeepsBounds interferes w n bounds values → blocked_sum interferes w (slice_index bounds) n x ≡ blocked_ticks interferes w n x
unfolding blocked_sum blocked_ticks
all_inside interferes w n bounds values x kept =
    sum_below-agree (length w.jobs)
    (λ j. only_if (task_of w j == x) (count_below (window_end w (slice_index bounds) n j) (λ t. is_blocked interferes w t j)))
    (λ j. only_if (task_of w j == x) (blocking_of interferes w n j))
    (λ j l. ap (only_if (task_of w j == x)) (job_inside interferes w n bounds values j kept l))
