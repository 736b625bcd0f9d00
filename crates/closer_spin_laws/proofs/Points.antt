-- The fractions of a job's window meet every row of a program with the closer rows.
use Rattle.std.proofs.Common.{ℕ, ◌+◌, ◌<◌, List, length}
use Rattle.std.specs.Prelude.{slice_index}
use Rattle.std.specs.List.{All}
use Rattle.sporadic_model.specs.Accepted.{IsFormed}
use Rattle.schedule_model.specs.LawfulJobs.{AreLawfulJobs}
use Rattle.schedule_model.specs.RowDef.{Trace, jobs_of}
use Rattle.schedule_model.specs.Activity.{task_of}
use Rattle.schedule_model.specs.Keeping.{KeepsBefore}
use Rattle.charge_laws.specs.Windows.{bound_end, EndedWithin}
use Rattle.row_laws.specs.Meeting.{TicksMeet}
use Rattle.row_laws.proofs.Brings.{Window}
use Rattle.row_laws.proofs.JobRows.{request_row_met, time_row_met}
use Rattle.row_laws.proofs.Fractions.{rows_are_point}
use Rattle.row_laws.proofs.Joined.{ArePointOf, users_have_lengths}
use Rattle.row_laws.proofs.EmptyWindows.{point_within}
use Rattle.program_laws.proofs.RowKinds.{common_each}
use Rattle.spin_rules.specs.SpinRules.{spin_rule}
use Rattle.spin_charging.specs.SpinCharges.{spin_charge}
use Rattle.spin_charging.specs.SpinPrograms.{is_spin_column, spin_columns}
use Rattle.spin_charging.proofs.OwnSpinning.{own_spinning_row_met}
use Rattle.spin_charging.proofs.SpunRows.{lower_request_row_met}
use Rattle.spin_charging.proofs.SpinPlacement.{spin_requests}
use Rattle.spin_charging.proofs.SpinPoints.{spin_active, spin_window}
use Rattle.closer_spin_laws.specs.CloserSpinRows.{spin_closer_rows}
use Rattle.closer_spin_laws.proofs.Rows.{closer_spinning_row_met, together_row_met}
use Rattle.closer_spin_laws.proofs.Programs.{EachSpinning, spin_closer_each}

-- Each row is met.
spinning_met : (w : Trace) (bound : ℕ → ℕ) (n j : ℕ) → Window spin_charge w bound n j → KeepsBefore spin_rule w n
    → EachSpinning (TicksMeet spin_charge w bound n j) w.set (task_of w j)
spinning_met w bound n j window keeps = record {
  lower = lower_request_row_met w bound n j window keeps;
  spinning = λ k q a b. closer_spinning_row_met w bound n j (k + 1) q window keeps;
  own = λ k q a b. own_spinning_row_met w bound n j (k + 1) q window keeps;
  together = λ k least passes a. together_row_met w bound n j (k + 1) least passes window keeps;
}

rows_met : (w : Trace) (bound : ℕ → ℕ) (n j : ℕ) → Window spin_charge w bound n j → KeepsBefore spin_rule w n
    → All (TicksMeet spin_charge w bound n j) (spin_closer_rows w.set (task_of w j))
rows_met w bound n j window keeps =
    spin_closer_each (TicksMeet spin_charge w bound n j) w.set (task_of w j)
    (common_each (TicksMeet spin_charge w bound n j) w.set (task_of w j)
    (λ x q a b. request_row_met spin_charge w bound n j x q window a) (λ x a. time_row_met spin_charge w bound n j x window a))
    (spinning_met w bound n j window keeps)

-- So the fractions are a point.
pub spin_closer_point : (w : Trace) (bounds : List ℕ) (n j : ℕ) → IsFormed w.set → AreLawfulJobs (jobs_of w) → KeepsBefore spin_rule w n
    → j < length w.jobs → EndedWithin w (slice_index bounds) (bound_end w (slice_index bounds) j) n
    → ArePointOf spin_charge (spin_columns w.set (task_of w j)) (spin_closer_rows w.set (task_of w j)) w bounds n j
spin_closer_point w bounds n j formed lawful keeps listed ended =
    point_within spin_charge (spin_columns w.set (task_of w j)) (spin_closer_rows w.set (task_of w j)) w bounds n j
    (users_have_lengths (is_spin_column w.set (task_of w j)) w.set formed (spin_requests w.set (task_of w j)))
    (spin_active w j) ended (λ before.
    rows_are_point spin_charge (is_spin_column w.set (task_of w j)) (spin_closer_rows w.set (task_of w j)) w bounds n j
    (users_have_lengths (is_spin_column w.set (task_of w j)) w.set formed (spin_requests w.set (task_of w j)))
    (rows_met w (slice_index bounds) n j (spin_window w bounds n j formed lawful keeps listed before) keeps))
