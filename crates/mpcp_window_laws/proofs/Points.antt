-- The fractions of a job's window meet every row of a program of the closer analysis of MPCP.
use Rattle.std.proofs.Common.{ℕ, ◌<◌, List, length, arith}
use Rattle.std.specs.Prelude.{slice_index}
use Rattle.std.specs.List.{All}
use Rattle.sporadic_model.specs.declared.ids.Protocol.TheVariants as protocol
use Rattle.schedule_model.specs.RowDef.{Trace}
use Rattle.schedule_model.specs.Activity.{task_of}
use Rattle.schedule_model.specs.Ranks.{mpcp}
use Rattle.schedule_model.specs.Protocols.{shared_rule}
use Rattle.schedule_model.specs.Keeping.{KeepsBefore}
use Rattle.blocking_columns.specs.Columns.{is_column, columns_of}
use Rattle.charge_laws.specs.Charges.{shared_charge}
use Rattle.charge_laws.specs.Windows.{bound_end, EndedWithin}
use Rattle.row_laws.specs.Meeting.{TicksMeet}
use Rattle.row_laws.proofs.Brings.{Window}
use Rattle.row_laws.proofs.EachRow.{mpcp_rows_met}
use Rattle.row_laws.proofs.Fractions.{rows_are_point}
use Rattle.row_laws.proofs.Joined.{ArePointOf, columns_have_lengths}
use Rattle.row_laws.proofs.EmptyWindows.{WithinRows}
use Rattle.closer_mpcp_laws.proofs.RowsMet.{further_rows_met, met_within}
use Rattle.mpcp_window_laws.specs.WaitRows.{held_in_waits, mpcp_closer_rows}
use Rattle.mpcp_window_laws.proofs.DirectWaitRow.{direct_wait_row_met}
use Rattle.mpcp_window_laws.proofs.IndirectInWaits.{higher_held_in_waits}
use Rattle.mpcp_window_laws.proofs.Programs.{mpcp_closer_each}

-- The ticks of the window meet each row.
rows_met : (w : Trace) (bound : ℕ → ℕ) (n j : ℕ) → Window shared_charge w bound n j → KeepsBefore (shared_rule mpcp) w n
    → EndedWithin w bound (bound_end w bound j) n → All (TicksMeet shared_charge w bound n j) (mpcp_closer_rows w.set (task_of w j))
rows_met w bound n j window keeps ended =
    mpcp_closer_each (TicksMeet shared_charge w bound n j) w.set i (mpcp_rows_met w bound n j window keeps)
    (further_rows_met w bound n j (held_in_waits w.set i) window keeps (λ x. higher_held_in_waits w bound n j x ended))
    (λ x q a b. direct_wait_row_met w bound n j x q window keeps ended (omega (arith, a, known))) where
      i : ℕ
      i = task_of w j

      known : i < length w.set.tasks
      known = (window.lawful.each j window.listed).task

pub mpcp_closer_point : (w : Trace) (bounds : List ℕ) (n j : ℕ) → WithinRows w bounds n j → KeepsBefore (shared_rule mpcp) w n
    → ArePointOf shared_charge (columns_of protocol.Mpcp w.set (task_of w j)) (mpcp_closer_rows w.set (task_of w j)) w bounds n j
mpcp_closer_point w bounds n j premises keeps =
    rows_are_point shared_charge (is_column protocol.Mpcp w.set (task_of w j)) (mpcp_closer_rows w.set (task_of w j)) w bounds n j
    (columns_have_lengths protocol.Mpcp w.set (task_of w j) premises.formed)
    (met_within w bounds n j (mpcp_closer_rows w.set (task_of w j)) premises keeps
    (λ window. rows_met w (slice_index bounds) n j window keeps premises.ended))
