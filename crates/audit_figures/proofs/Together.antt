-- What is put together is the figures.
use Rattle.std.proofs.Common.{◌≡◌, ℕ, ◌*◌, ◌<◌, ◌≤◌, ◌==◌, Bool, List, length, get_or, map, refl, sym, ap, ◌∙◌, subst}
use Rattle.std.proofs.Common.{arith, Option, sum_by}
use Rattle.std.specs.Prelude.{slice_index, Result, Ok, Err, IfOk}
use Rattle.std.specs.Global.{Global}
use Rattle.std.specs.declared.vec.Vec.{Vec}
use Rattle.std.specs.declared.alloc.AllocError.{AllocError}
use Rattle.std.proofs.Math.Nat.{mul-le-mul}
use Rattle.number_laws.specs.Sums.{only_if}
use Rattle.number_laws.proofs.SumLaws.{sum_below-monotone, sum_below-constant, only_if-at_most}
use Rattle.number_laws.proofs.CountLaws.{count_below-at_most}
use Rattle.sporadic_model.specs.declared.limits.TheConstants.{MOST_TICKS}
use Rattle.schedule_model.specs.declared.limits.TheConstants.{MOST_JOBS}
use Rattle.schedule_model.specs.JobDef.{JobsDef}
use Rattle.schedule_model.specs.RowDef.{Trace}
use Rattle.schedule_model.specs.Measures.{MeasuresDef, measures_of}
use Rattle.schedule_model.specs.Activity.{task_of}
use Rattle.blocking_columns.specs.declared.columns.Class.{Class}
use Rattle.blocking_columns.specs.declared.columns.Class.TheVariants.{Direct, Indirect, Preemption}
use Rattle.charge_laws.specs.Charges.{Charge}
use Rattle.charge_laws.specs.Windows.{window_end}
use Rattle.schedule_answers.specs.declared.judged.Measured.{Measured}
use Rattle.schedule_answers.specs.declared.judged.TaskMeasure.{TaskMeasure}
use Rattle.schedule_answers.specs.Conforming.{AreMeasures}
use Rattle.schedule_answers.specs.TaskAnswers.{measure_seen, no_measure}
use Rattle.charge.specs.declared.item.ChargeItem.{ChargeItem}
use Rattle.charge.specs.Table.{item_seen, IsChargeTable}
use Rattle.audit_figures.specs.declared.sums.ClassSums.{ClassSums}
use Rattle.schedule_answers.specs.declared.audited.TaskFigures.{TaskFigures}
use Rattle.audit_figures.specs.Sums.{counted, item_ticks, item_sums, sums_at}
use Rattle.audit_figures.specs.Beside.{figures_from}
use Rattle.audit_figures.specs.Given.{ArePutTogether, AreFiguresOf}
use Rattle.schedule_answers.specs.TaskAnswers.{no_figures}
use Rattle.figure_laws.specs.Figures.{is_of_class, class_ticks, class_sum, figures_of, AreFigures, ChargesBlocked}
use Rattle.audit_figures.proofs.TableSums.{items_sum}

-- A task's sum is no more than all ticks of all jobs.
sum_most : (charges : Trace → ℕ → ℕ → Option Charge) (w : Trace) (bound : ℕ → ℕ) (n : ℕ) (c : Class) (x : ℕ)
    → class_sum charges w bound n c x ≤ length w.jobs * n
unfolding class_sum class_ticks
sum_most charges w bound n c x =
    let each : (j : ℕ) → j < length w.jobs → only_if (task_of w j == x) (class_ticks charges w bound n c j) ≤ n =
    λ j l. omega (
      arith,
      only_if-at_most (task_of w j == x) (class_ticks charges w bound n c j),
      count_below-at_most (window_end w bound n j) (λ t. is_of_class c (charges w t j)),
    ) in
    omega (
      arith,
      sum_below-monotone (length w.jobs) (λ j. only_if (task_of w j == x) (class_ticks charges w bound n c j)) (λ j. n) each,
      sum_below-constant (length w.jobs) n,
    )

-- So it can be counted.
sum_counted : (charges : Trace → ℕ → ℕ → Option Charge) (interferes : Trace → ℕ → ℕ → Bool) (w : Trace) (bound : ℕ → ℕ) (n : ℕ)
    (items : List ChargeItem) (c : Class) (x : ℕ) → length w.jobs ≤ MOST_JOBS → n ≤ MOST_TICKS → ChargesBlocked charges interferes w
    → IsChargeTable charges interferes w bound n (map item_seen items)
    → counted (sum_by (item_ticks w.jobs x c) items) ≡ class_sum charges w bound n c x
sum_counted charges interferes w bound n items c x jobs rows only table =
    let product : length w.jobs * n ≤ 100000 * 1000000000 = mul-le-mul jobs rows in
    omega (arith, items_sum charges interferes w bound n items c x only table, sum_most charges w bound n c x, product)

-- Figures with the same parts are the same.
same_figures : (m : TaskMeasure) (of : MeasuresDef) (bound value : ℕ) (s : ClassSums) (d i p : ℕ) → measure_seen m ≡ of → s.direct ≡ d
    → s.indirect ≡ i → s.preemption ≡ p
    → figures_from m bound value s
    ≡ record { response = of.response; bound = bound; blocking = of.blocking; value = value; direct = d; indirect = i; preemption = p }
same_figures m of bound value s d i p e f g h = rw (← e, ← f, ← g, ← h) refl

pub figures_are : (charges : Trace → ℕ → ℕ → Option Charge) (interferes : Trace → ℕ → ℕ → Bool) (w : Trace) (n : ℕ) (bounds values : List ℕ)
    (measured : Measured) (items : List ChargeItem) (sums : List ClassSums) (figures : List TaskFigures) → length w.jobs ≤ MOST_JOBS
    → n ≤ MOST_TICKS → ChargesBlocked charges interferes w → AreMeasures interferes w n measured
    → IsChargeTable charges interferes w (slice_index bounds) n (map item_seen items)
    → ((x : ℕ) → x < length w.set.tasks → sums_at sums x ≡ item_sums w.jobs x items)
    → length figures ≡ length w.set.tasks
    → ((x : ℕ) → x < length w.set.tasks → get_or figures x no_figures
    ≡ figures_from (get_or measured.tasks.items x no_measure) (slice_index bounds x) (slice_index values x) (sums_at sums x))
    → AreFigures charges interferes w (slice_index bounds) (slice_index values) n figures
unfolding item_sums figures_of
figures_are charges interferes w n bounds values measured items sums figures jobs rows only measures table summed size put = record {
  size = size;
  each = λ x l. put x l ∙ same_figures (get_or measured.tasks.items x no_measure) (measures_of interferes w n x) (slice_index bounds x)
      (slice_index values x) (sums_at sums x) (class_sum charges w (slice_index bounds) n Direct x)
      (class_sum charges w (slice_index bounds) n Indirect x) (class_sum charges w (slice_index bounds) n Preemption x) (measures.each x l)
      (ap (λ (s : ClassSums). s.direct) (summed x l) ∙ sum Direct x) (ap (λ (s : ClassSums). s.indirect) (summed x l) ∙ sum Indirect x)
      (ap (λ (s : ClassSums). s.preemption) (summed x l) ∙ sum Preemption x);
} where
  sum : (c : Class) (x : ℕ) → counted (sum_by (item_ticks w.jobs x c) items) ≡ class_sum charges w (slice_index bounds) n c x
  sum c x = sum_counted charges interferes w (slice_index bounds) n items c x jobs rows only table

-- The answer on the figures, from its parts.
pub answer_is : (r : Result (Vec TaskFigures Global) AllocError) (list : JobsDef) (measured : Measured) (bounds values : List ℕ)
    (items : List ChargeItem) (sums : List ClassSums) → length list.jobs ≤ MOST_JOBS → length measured.tasks.items ≡ length list.set.tasks
    → ((x : ℕ) → x < length list.set.tasks → sums_at sums x ≡ item_sums list.jobs x items)
    → IfOk r (λ v. ArePutTogether measured.tasks.items bounds values sums v.items)
    → IfOk r (λ v. AreFiguresOf list measured bounds values items v.items)
answer_is (Err e) list measured bounds values items sums jobs one_each summed put = tt
answer_is (Ok v) list measured bounds values items sums jobs one_each summed put =
    λ charges interferes w n same rows only measures table.
    figures_are charges interferes w n bounds values measured items sums v.items
    (subst (λ (l : JobsDef). length l.jobs ≤ MOST_JOBS) (sym same) jobs) rows only measures table
    (subst (λ (l : JobsDef). (x : ℕ) → x < length l.set.tasks → sums_at sums x ≡ item_sums l.jobs x items) (sym same) summed)
    (put.size ∙ subst (λ (l : JobsDef). length measured.tasks.items ≡ length l.set.tasks) (sym same) one_each)
    (λ x l. put.each x (omega (arith, l, measures.size)))
