-- What the functions here are given, and what the parts of figures are.
use Rattle.std.specs.Prelude.{◌≡◌, ℕ, ◌<◌, ◌≤◌, Bool, true, List, length, map, slice_index, slice_index_or, Option}
use Rattle.std.specs.List.{All}
use Rattle.sporadic_model.specs.SetDef.{SetDef}
use Rattle.sporadic_model.specs.declared.limits.TheConstants.{MOST_TICKS}
use Rattle.schedule_model.specs.JobDef.{JobsDef}
use Rattle.schedule_model.specs.RowDef.{Trace, jobs_of}
use Rattle.schedule_model.specs.Fitting.{RowsDef, is_fitting}
use Rattle.schedule_answers.specs.Conforming.{AreMeasures}
use Rattle.schedule_answers.specs.TaskAnswers.{no_measure, no_figures}
use Rattle.schedule_answers.specs.declared.audited.TaskFigures.{TaskFigures}
use Rattle.schedule_answers.specs.declared.judged.Measured.{Measured}
use Rattle.schedule_answers.specs.declared.judged.TaskMeasure.{TaskMeasure}
use Rattle.charge_laws.specs.Charges.{Charge}
use Rattle.charge.specs.Given.{BoundEachTask}
use Rattle.charge.specs.Table.{item_seen, IsChargeTable}
use Rattle.charge.specs.declared.item.ChargeItem.{ChargeItem}
use Rattle.figure_laws.specs.Figures.{AreFigures, ChargesBlocked}
use Rattle.audit_figures.specs.Beside.{figures_from}
use Rattle.audit_figures.specs.Sums.{sums_at}
use Rattle.audit_figures.specs.declared.sums.ClassSums.{ClassSums}

-- Can all rows be walked? The reader is at the first run, the rows fit the jobs, and the set suits the protocol.
pub record CanBeWalked (suited : SetDef → Type 0) (jobs : JobsDef) (rows : RowsDef) (at : ℕ) : Type 0 where
  pub suits : suited jobs.set
  pub fits : is_fitting rows jobs ≡ true
  pub start : at ≡ 0

-- Has each task of the set a bound, from 1 to its latest one, and a value?
pub record HaveBoundAndValue (set : SetDef) (bounds those : List ℕ) : Type 0 where
  pub bounded : BoundEachTask set bounds
  pub values : length those ≡ length set.tasks

-- Is there a bound, a value, and a sum of each class, for each task that was measured?
pub record AreBeside (measures : List TaskMeasure) (ticks those : List ℕ) (found : List ClassSums) : Type 0 where
  pub bounds : length ticks ≡ length measures
  pub values : length those ≡ length measures
  pub sums : length found ≡ length measures

-- Are these the figures of each task that was measured, put together?
pub record ArePutTogether (measures : List TaskMeasure) (bounds values : List ℕ) (sums : List ClassSums) (figures : List TaskFigures)
    : Type 0
  where
    pub size : length figures ≡ length measures
    pub each : (x : ℕ) → x < length measures → slice_index_or figures x no_figures
        ≡ figures_from (slice_index_or measures x no_measure) (slice_index bounds x) (slice_index values x) (sums_at sums x)

-- Has each task of the jobs a measure, a bound and a value, and are the blocked jobs of the items listed?
pub record AreOfJobs (jobs : JobsDef) (found : Measured) (ticks those : List ℕ) (items : List ChargeItem) : Type 0 where
  pub measured : length found.tasks.items ≡ length jobs.set.tasks
  pub bounds : length ticks ≡ length jobs.set.tasks
  pub values : length those ≡ length jobs.set.tasks
  pub listed : All (λ item. item.blocked.0 < length jobs.jobs) items

-- Are these the figures of each schedule of the jobs that has these measures, and these items as its table of charges?
abbrev pub AreFiguresOf : JobsDef → Measured → List ℕ → List ℕ → List ChargeItem → List TaskFigures → Type 0
AreFiguresOf jobs measured bounds values items figures =
    (charges : Trace → ℕ → ℕ → Option Charge) (interferes : Trace → ℕ → ℕ → Bool) (w : Trace) (n : ℕ) → jobs_of w ≡ jobs → n ≤ MOST_TICKS
    → ChargesBlocked charges interferes w → AreMeasures interferes w n measured
    → IsChargeTable charges interferes w (slice_index bounds) n (map item_seen items)
    → AreFigures charges interferes w (slice_index bounds) (slice_index values) n figures
