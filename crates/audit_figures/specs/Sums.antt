-- The sums of a table of charges. A task's sums are over the items whose blocked job is of the task, by their classes.
use Rattle.std.specs.Prelude.{◌≡◌, ℕ, ◌+◌, ◌-◌, ◌<◌, ◌^◌, ◌==◌, ◌&&◌, min, List, length, slice_index_or, sum_by}
use Rattle.number_laws.specs.Sums.{only_if}
use Rattle.schedule_model.specs.JobDef.{JobDef, JobsDef, job_of}
use Rattle.blocking_columns.specs.declared.columns.Class.{Class}
use Rattle.blocking_columns.specs.declared.columns.Class.TheVariants.{Direct, Indirect, Preemption}
use Rattle.charge.specs.declared.item.ChargeItem.{ChargeItem}
use Rattle.charge_laws.specs.Fractions.{is_same_class}
use Rattle.audit_figures.specs.declared.sums.ClassSums.{ClassSums}

-- No ticks.
abbrev pub no_sums : ClassSums
no_sums = record { direct = 0; indirect = 0; preemption = 0 }

-- The sums of task x.
abbrev pub sums_at : List ClassSums → ℕ → ClassSums
sums_at sums x = slice_index_or sums x no_sums

-- A number, up to the greatest that can be counted.
abbrev pub counted : ℕ → ℕ
counted n = min n (2 ^ 64 - 1)

-- The sums with one more item.
abbrev pub sums_with : ClassSums → ChargeItem → ClassSums
sums_with sums item = record {
  direct = counted (sums.direct + only_if (is_same_class Direct item.class) item.ticks);
  indirect = counted (sums.indirect + only_if (is_same_class Indirect item.class) item.ticks);
  preemption = counted (sums.preemption + only_if (is_same_class Preemption item.class) item.ticks);
}

-- The ticks of an item, if its blocked job is of task x and it is of this class. If not, 0.
abbrev pub item_ticks : List JobDef → ℕ → Class → ChargeItem → ℕ
item_ticks jobs x c item = only_if (((job_of jobs item.blocked.0).task == x) && is_same_class c item.class) item.ticks

-- The sums of task x over all items.
unfoldable pub item_sums : List JobDef → ℕ → List ChargeItem → ClassSums
item_sums jobs x items = record {
  direct = counted (sum_by (item_ticks jobs x Direct) items);
  indirect = counted (sum_by (item_ticks jobs x Indirect) items);
  preemption = counted (sum_by (item_ticks jobs x Preemption) items);
}

-- Has none of so many tasks any ticks yet?
pub record AreNoSums (tasks : ℕ) (sums : List ClassSums) : Type 0 where
  pub size : length sums ≡ tasks
  pub each : (x : ℕ) → sums_at sums x ≡ no_sums

-- Are these the sums of each task of the jobs, over these items?
pub record AreItemSums (jobs : JobsDef) (items : List ChargeItem) (sums : List ClassSums) : Type 0 where
  pub size : length sums ≡ length jobs.set.tasks
  pub each : (x : ℕ) → x < length jobs.set.tasks → sums_at sums x ≡ item_sums jobs.jobs x items
