-- What does the answer on the charges of a schedule say?
use Rattle.std.specs.Prelude.{◌≡◌, ℕ, ◌<◌, Bool, List, length, map, slice_index, Option, None, Some, Result, Ok, Err}
use Rattle.program_form.specs.Program.{ProgramDef}
use Rattle.program_form.specs.Points.{IsScaledPoint}
use Rattle.schedule_model.specs.RowDef.{Trace}
use Rattle.schedule_model.specs.Activity.{task_of}
use Rattle.schedule_model.specs.Keeping.{KeepsBefore, IsFirstUnlawful}
use Rattle.schedule_model.specs.declared.rule.Rule.{Rule}
use Rattle.blocking_columns.specs.ColumnDef.{ColumnDef}
use Rattle.charge_laws.specs.Charges.{Charge}
use Rattle.charge_laws.specs.Fractions.{product_of_lengths, fractions_of}
use Rattle.charge.specs.declared.item.ChargeTable.{ChargeTable}
use Rattle.charge.specs.declared.item.ChargeStop.{ChargeStop}
use Rattle.charge.specs.declared.item.ChargeStop.TheVariants as stop
use Rattle.charge.specs.Passed.{first_passed}
use Rattle.charge.specs.Table.{item_seen, IsChargeTable}

-- There are three cases. Each of the n rows keeps the rules, no job has passed its bound, and this is the table. Or the answer names the
-- first row that breaks a rule, and the first rule that it breaks. Or each row keeps the rules, and the answer names the first job that has
-- passed its bound. Only want of memory says nothing of the schedule.
abbrev pub Charged : (Rule → Trace → ℕ → Type 0) → (Trace → ℕ → ℕ → Bool) → (Trace → ℕ → ℕ → Option Charge) → Trace → (ℕ → ℕ) → ℕ
    → Result ChargeTable ChargeStop → Type 0
Charged keeps interferes charges w bound n (Ok table) =
    KeepsBefore keeps w n × (first_passed w bound n ≡ None) × IsChargeTable charges interferes w bound n (map item_seen table.charges.items)
Charged keeps interferes charges w bound n (Err (stop.Unlawful b)) = IsFirstUnlawful keeps w n b.tick b.rule
Charged keeps interferes charges w bound n (Err (stop.BoundPassed j)) = KeepsBefore keeps w n × (first_passed w bound n ≡ Some j.0)
Charged keeps interferes charges w bound n (Err stop.Memory) = Unit {0}

-- Do the fractions of each job's window, in a schedule of n rows, meet every row of its task's program at the bounds?
abbrev pub MeetRows : (ℕ → List ℕ → ProgramDef) → (ℕ → List ColumnDef) → (Trace → ℕ → ℕ → Option Charge) → Trace → List ℕ → ℕ → Type 0
MeetRows program columns charges w bounds n =
    (j : ℕ) → j < length w.jobs
    → IsScaledPoint (program (task_of w j) bounds) (product_of_lengths w.set (columns (task_of w j)))
    (fractions_of charges w (slice_index bounds) n j (columns (task_of w j)))
