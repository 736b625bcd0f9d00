-- The fractions of a job's window meet every row of a program with rows of windows.
use Rattle.std.proofs.Common.{ℕ, List}
use Rattle.std.specs.Prelude.{slice_index}
use Rattle.std.specs.List.{All}
use Rattle.sporadic_model.specs.declared.ids.Protocol.TheVariants as protocol
use Rattle.schedule_model.specs.RowDef.{Trace}
use Rattle.schedule_model.specs.Activity.{task_of}
use Rattle.schedule_model.specs.Protocols.{dpcp_rule}
use Rattle.schedule_model.specs.Keeping.{KeepsBefore}
use Rattle.schedule_model.specs.JobDef.{job_of}
use Rattle.blocking_columns.specs.Columns.{is_column, columns_of}
use Rattle.program_laws.proofs.RowKinds.{each_row}
use Rattle.charge_laws.specs.Charges.{dpcp_charge}
use Rattle.charge_laws.specs.Windows.{bound_end, EndedBy, EndedWithin}
use Rattle.row_laws.specs.Meeting.{TicksMeet}
use Rattle.row_laws.proofs.Brings.{Window}
use Rattle.row_laws.proofs.EachRow.{dpcp_rows_met}
use Rattle.row_laws.proofs.Fractions.{rows_are_point}
use Rattle.row_laws.proofs.Joined.{ArePointOf, columns_have_lengths, dpcp_window}
use Rattle.row_laws.proofs.EmptyWindows.{WithinRows, point_within, dpcp_active}
use Rattle.window_laws.specs.WindowRows.{windowed_rows}
use Rattle.window_laws.proofs.Programs.{windowed_each}
use Rattle.window_laws.proofs.WindowRow.{window_row_met}

-- Each row is met.
pub windowed_rows_met : (w : Trace) (bounds : List ℕ) (n j : ℕ) → Window dpcp_charge w (slice_index bounds) n j → KeepsBefore dpcp_rule w n
    → EndedWithin w (slice_index bounds) (bound_end w (slice_index bounds) j) n
    → All (TicksMeet dpcp_charge w (slice_index bounds) n j) (windowed_rows w.set (task_of w j))
windowed_rows_met w bounds n j window keeps ended =
    windowed_each (TicksMeet dpcp_charge w (slice_index bounds) n j) w.set (task_of w j)
    (each_row (TicksMeet dpcp_charge w (slice_index bounds) n j) protocol.Dpcp w.set (task_of w j)
    (dpcp_rows_met w (slice_index bounds) n j window keeps))
    (λ x p l b. window_row_met w (slice_index bounds) n j x p window keeps ended l)

pub windowed_point : (w : Trace) (bounds : List ℕ) (n j : ℕ) → WithinRows w bounds n j → KeepsBefore dpcp_rule w n
    → ArePointOf dpcp_charge (columns_of protocol.Dpcp w.set (task_of w j)) (windowed_rows w.set (task_of w j)) w bounds n j
windowed_point w bounds n j premises keeps =
    point_within dpcp_charge (columns_of protocol.Dpcp w.set i) (windowed_rows w.set i) w bounds n j
    (columns_have_lengths protocol.Dpcp w.set i premises.formed) (dpcp_active w j) premises.ended (λ ended. point ended) where
      i : ℕ
      i = task_of w j

      point : EndedBy w (slice_index bounds) (job_of w.jobs j).release
          → ArePointOf dpcp_charge (columns_of protocol.Dpcp w.set i) (windowed_rows w.set i) w bounds n j
      point ended =
          let window : Window dpcp_charge w (slice_index bounds) n j =
          dpcp_window w bounds n j
          (record { formed = premises.formed; lawful = premises.lawful; listed = premises.listed; ended = ended }) keeps in
          rows_are_point dpcp_charge (is_column protocol.Dpcp w.set i) (windowed_rows w.set i) w bounds n j
          (columns_have_lengths protocol.Dpcp w.set i premises.formed)
          (windowed_rows_met w bounds n j window keeps premises.ended)
