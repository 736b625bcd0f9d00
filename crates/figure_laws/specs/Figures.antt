-- The figures of a task: what happened to it in a schedule, what was proved of it, and the ticks that were charged to its jobs.
use Rattle.std.specs.Prelude.{◌≡◌, ℕ, ◌<◌, ◌==◌, Bool, true, false, List, length, slice_index_or, Option, Some}
use Rattle.std.specs.Option.{option_map_or}
use Rattle.number_laws.specs.Sums.{sum_below, only_if}
use Rattle.number_laws.specs.Tests.{count_below}
use Rattle.schedule_model.specs.RowDef.{Trace}
use Rattle.schedule_model.specs.Activity.{task_of}
use Rattle.schedule_model.specs.BlockedTicks.{is_blocked}
use Rattle.schedule_model.specs.Measures.{blocking_of, measures_of}
use Rattle.blocking_columns.specs.declared.columns.Class.{Class}
use Rattle.blocking_columns.specs.declared.columns.Class.TheVariants.{Direct, Indirect, Preemption}
use Rattle.charge_laws.specs.Charges.{Charge}
use Rattle.charge_laws.specs.Windows.{window_end}
use Rattle.charge_laws.specs.Fractions.{is_same_class}
use Rattle.schedule_answers.specs.declared.audited.TaskFigures.{TaskFigures}
use Rattle.schedule_answers.specs.TaskAnswers.{no_figures}

-- Is it a charge of this class?
abbrev pub is_of_class : Class → Option Charge → Bool
is_of_class c named = option_map_or (λ charge. is_same_class c charge.class) named false

-- At how many ticks of its window, in a schedule of n rows, has job j a charge of this class?
unfoldable pub class_ticks : (Trace → ℕ → ℕ → Option Charge) → Trace → (ℕ → ℕ) → ℕ → Class → ℕ → ℕ
class_ticks charges w bound n c j = count_below (window_end w bound n j) (λ t. is_of_class c (charges w t j))

-- And the jobs of task x together?
unfoldable pub class_sum : (Trace → ℕ → ℕ → Option Charge) → Trace → (ℕ → ℕ) → ℕ → Class → ℕ → ℕ
class_sum charges w bound n c x = sum_below (length w.jobs) (λ j. only_if (task_of w j == x) (class_ticks charges w bound n c j))

-- At how many ticks of their windows are the jobs of task x blocked, in total?
unfoldable pub blocked_sum : (Trace → ℕ → ℕ → Bool) → Trace → (ℕ → ℕ) → ℕ → ℕ → ℕ
blocked_sum interferes w bound n x =
    sum_below (length w.jobs)
    (λ j. only_if (task_of w j == x) (count_below (window_end w bound n j) (λ t. is_blocked interferes w t j)))

-- And at how many of n ticks, within their windows or not?
unfoldable pub blocked_ticks : (Trace → ℕ → ℕ → Bool) → Trace → ℕ → ℕ → ℕ
blocked_ticks interferes w n x = sum_below (length w.jobs) (λ j. only_if (task_of w j == x) (blocking_of interferes w n j))

-- The figures of task x over n rows, with these bounds and values of the tasks.
unfoldable pub figures_of : (Trace → ℕ → ℕ → Option Charge) → (Trace → ℕ → ℕ → Bool) → Trace → (ℕ → ℕ) → (ℕ → ℕ) → ℕ → ℕ → TaskFigures
figures_of charges interferes w bound value n x = record {
  response = (measures_of interferes w n x).response;
  bound = bound x;
  blocking = (measures_of interferes w n x).blocking;
  value = value x;
  direct = class_sum charges w bound n Direct x;
  indirect = class_sum charges w bound n Indirect x;
  preemption = class_sum charges w bound n Preemption x;
}

-- Are these the figures of each task?
pub record AreFigures (charges : Trace → ℕ → ℕ → Option Charge) (interferes : Trace → ℕ → ℕ → Bool) (w : Trace) (bound value : ℕ → ℕ)
    (n : ℕ) (figures : List TaskFigures) : Type 0 where
  pub size : length figures ≡ length w.set.tasks
  pub each : (x : ℕ) → x < length w.set.tasks → slice_index_or figures x no_figures ≡ figures_of charges interferes w bound value n x

-- Is a tick charged for a job only if the job is blocked at it?
abbrev pub ChargesBlocked : (Trace → ℕ → ℕ → Option Charge) → (Trace → ℕ → ℕ → Bool) → Trace → Type 0
ChargesBlocked charges interferes w = (t j : ℕ) (charge : Charge) → charges w t j ≡ Some charge → is_blocked interferes w t j ≡ true

-- Is each tick before n at which a job is blocked charged?
abbrev pub BlockedCharged : (Trace → ℕ → ℕ → Option Charge) → (Trace → ℕ → ℕ → Bool) → Trace → ℕ → Type 0
BlockedCharged charges interferes w n =
    (t j : ℕ) → t < n → is_blocked interferes w t j ≡ true → (charge : Charge) × (charges w t j ≡ Some charge)
