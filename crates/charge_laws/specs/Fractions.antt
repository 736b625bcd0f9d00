-- In which column of a blocking program is a charged tick, and which fractions of its columns does a job's window fill?
use Rattle.std.specs.Prelude.{ℕ, ◌*◌, ◌/◌, ◌==◌, ◌&&◌, Bool, true, false, List, [], ◌∷◌, Option, None, Some, slice_index_or}
use Rattle.std.specs.Option.{option_and_then, option_map_or}
use Rattle.number_laws.specs.Tests.{count_below}
use Rattle.sporadic_model.specs.SetDef.{SetDef}
use Rattle.sporadic_model.specs.Users.{length_of}
use Rattle.schedule_model.specs.RowDef.{Trace}
use Rattle.schedule_model.specs.Phase.{Phase, phase_of}
use Rattle.schedule_model.specs.Phase.Phase.{Asking}
use Rattle.schedule_model.specs.Activity.{task_of}
use Rattle.blocking_columns.specs.declared.columns.Class.{Class}
use Rattle.blocking_columns.specs.declared.columns.Class.TheVariants.{Direct, Indirect, Preemption}
use Rattle.blocking_columns.specs.ColumnDef.{ColumnDef}
use Rattle.charge_laws.specs.Charges.{Charge}
use Rattle.charge_laws.specs.Windows.{window_end}

-- The column of a charge whose job is in this phase: the job's task, the resource that it requests, and the class.
abbrev pub column_in : Trace → Charge → Phase → Option ColumnDef
column_in w charge (Asking n q) = Some (record { task = task_of w charge.job; resource = q; class = charge.class })
column_in w charge _ = None

-- In which column is tick t for job j? The first argument says how ticks are charged.
abbrev pub charged_column : (Trace → ℕ → ℕ → Option Charge) → Trace → ℕ → ℕ → Option ColumnDef
charged_column charges w t j = option_and_then (λ charge. column_in w charge (phase_of w t charge.job)) (charges w t j)

abbrev pub is_same_class : Class → Class → Bool
is_same_class Direct Direct = true
is_same_class Indirect Indirect = true
is_same_class Preemption Preemption = true
is_same_class _ _ = false

abbrev pub is_same_column : ColumnDef → ColumnDef → Bool
is_same_column c d = (c.task == d.task) && ((c.resource == d.resource) && is_same_class c.class d.class)

-- Is it this column?
abbrev pub is_in : ColumnDef → Option ColumnDef → Bool
is_in c named = option_map_or (is_same_column c) named false

-- How many ticks of job j's window are charged in the column, in a schedule of n rows?
unfoldable pub ticks_in : (Trace → ℕ → ℕ → Option Charge) → Trace → (ℕ → ℕ) → ℕ → ℕ → ColumnDef → ℕ
ticks_in charges w bound n j c = count_below (window_end w bound n j) (λ t. is_in c (charged_column charges w t j))

-- The product of the lengths of these columns' requests. It is the common denominator of the fractions.
abbrev pub product_of_lengths : SetDef → List ColumnDef → ℕ
product_of_lengths set [] = 1
product_of_lengths set (c ∷ columns) = length_of set c.task c.resource * product_of_lengths set columns

-- The numerator of the fraction of column c that job j's window fills, over that denominator. The fraction is the charged ticks over the
-- length of the column's requests.
abbrev pub fraction_of : (Trace → ℕ → ℕ → Option Charge) → Trace → (ℕ → ℕ) → ℕ → ℕ → List ColumnDef → ColumnDef → ℕ
fraction_of charges w bound n j columns c =
    (ticks_in charges w bound n j c * product_of_lengths w.set columns) / length_of w.set c.task c.resource

-- What a look-up past the end gives.
abbrev pub no_column : ColumnDef
no_column = record { task = 0; resource = 0; class = Direct }

-- The fractions of all these columns, by their positions.
abbrev pub fractions_of : (Trace → ℕ → ℕ → Option Charge) → Trace → (ℕ → ℕ) → ℕ → ℕ → List ColumnDef → ℕ → ℕ
fractions_of charges w bound n j columns k = fraction_of charges w bound n j columns (slice_index_or columns k no_column)
