-- The fractions of a job's window meet every row of a program with closer rows.
use Rattle.std.proofs.Common.{ℕ, List}
use Rattle.std.specs.Prelude.{slice_index}
use Rattle.sporadic_model.specs.declared.ids.Protocol.TheVariants as protocol
use Rattle.schedule_model.specs.RowDef.{Trace}
use Rattle.schedule_model.specs.Activity.{task_of}
use Rattle.schedule_model.specs.Ranks.{fmlp_plus}
use Rattle.schedule_model.specs.Protocols.{shared_rule}
use Rattle.schedule_model.specs.Keeping.{KeepsBefore}
use Rattle.schedule_model.specs.JobDef.{job_of}
use Rattle.blocking_columns.specs.Columns.{is_column, columns_of}
use Rattle.program_laws.proofs.RowKinds.{each_row}
use Rattle.charge_laws.specs.Charges.{shared_charge}
use Rattle.charge_laws.specs.Windows.{EndedBy}
use Rattle.row_laws.specs.Meeting.{TicksMeet}
use Rattle.row_laws.proofs.Brings.{Window}
use Rattle.row_laws.proofs.EachRow.{fmlp_rows_met}
use Rattle.row_laws.proofs.Fractions.{rows_are_point}
use Rattle.row_laws.proofs.Joined.{ArePointOf, columns_have_lengths, shared_window}
use Rattle.row_laws.proofs.EmptyWindows.{WithinRows, point_within, shared_active}
use Rattle.closer_laws.specs.CloserRows.{fmlp_closer_rows}
use Rattle.closer_laws.proofs.HolderRows.{holder_row_met, other_holder_row_met, local_wait_row_met, local_runner_row_met}
use Rattle.closer_laws.proofs.LowerRows.{lower_row_met, local_preemption_row_met}
use Rattle.closer_laws.proofs.Programs.{EachCloser, fmlp_closer_each}

-- Each closer row is met.
pub closer_rows_met : (w : Trace) (bound : ℕ → ℕ) (n j : ℕ) → Window shared_charge w bound n j → KeepsBefore (shared_rule fmlp_plus) w n
    → EachCloser (TicksMeet shared_charge w bound n j) w.set (task_of w j)
closer_rows_met w bound n j window keeps = record {
  holder = λ x a. holder_row_met w bound n j x window keeps;
  other = λ x q a b. other_holder_row_met w bound n j x q window keeps;
  lower = λ x a lower. lower_row_met w bound n j x window keeps lower;
  preemption = local_preemption_row_met fmlp_plus w bound n j window keeps;
  wait = local_wait_row_met w bound n j window keeps;
  runner = local_runner_row_met w bound n j window keeps;
}

pub fmlp_closer_point : (w : Trace) (bounds : List ℕ) (n j : ℕ) → WithinRows w bounds n j → KeepsBefore (shared_rule fmlp_plus) w n
    → ArePointOf shared_charge (columns_of protocol.FmlpPlus w.set (task_of w j)) (fmlp_closer_rows w.set (task_of w j)) w bounds n j
fmlp_closer_point w bounds n j premises keeps =
    point_within shared_charge (columns_of protocol.FmlpPlus w.set i) (fmlp_closer_rows w.set i) w bounds n j
    (columns_have_lengths protocol.FmlpPlus w.set i premises.formed) (shared_active w j) premises.ended (λ ended. point ended) where
      i : ℕ
      i = task_of w j

      point : EndedBy w (slice_index bounds) (job_of w.jobs j).release
          → ArePointOf shared_charge (columns_of protocol.FmlpPlus w.set i) (fmlp_closer_rows w.set i) w bounds n j
      point ended =
          let window : Window shared_charge w (slice_index bounds) n j =
          shared_window fmlp_plus w bounds n j
          (record { formed = premises.formed; lawful = premises.lawful; listed = premises.listed; ended = ended }) keeps in
          rows_are_point shared_charge (is_column protocol.FmlpPlus w.set i) (fmlp_closer_rows w.set i) w bounds n j
          (columns_have_lengths protocol.FmlpPlus w.set i premises.formed)
          (fmlp_closer_each (TicksMeet shared_charge w (slice_index bounds) n j) w.set i
          (each_row (TicksMeet shared_charge w (slice_index bounds) n j) protocol.FmlpPlus w.set i
          (fmlp_rows_met w (slice_index bounds) n j window keeps))
          (closer_rows_met w (slice_index bounds) n j window keeps))
