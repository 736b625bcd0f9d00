-- The ticks of a job's window meet every row, so the fractions that they fill are a point of the program.
use Rattle.std.proofs.Common.{ℕ, ◌+◌, List}
use Rattle.std.specs.Prelude.{slice_index}
use Rattle.std.specs.List.{All}
use Rattle.schedule_model.specs.RowDef.{Trace}
use Rattle.schedule_model.specs.Activity.{task_of}
use Rattle.schedule_model.specs.Keeping.{KeepsBefore}
use Rattle.charge_laws.specs.Charges.{dpcp_charge}
use Rattle.program_laws.proofs.RowKinds.{common_each, preemption_each}
use Rattle.row_laws.specs.Meeting.{TicksMeet}
use Rattle.row_laws.proofs.Brings.{Window}
use Rattle.row_laws.proofs.JobRows.{request_row_met, time_row_met}
use Rattle.row_laws.proofs.Intervals.{home_interval_row_met}
use Rattle.row_laws.proofs.Fractions.{HaveLengths, rows_are_point}
use Rattle.row_laws.proofs.Joined.{ArePointOf, home_window, users_have_lengths}
use Rattle.row_laws.proofs.EmptyWindows.{WithinRows, point_within, dpcp_active}
use Rattle.dflp_laws.specs.Rules.{dflp_rule}
use Rattle.dflp_laws.specs.Programs.{is_dflp_column, dflp_columns, dflp_rows}
use Rattle.dflp_laws.proofs.Laws.{homes_before}
use Rattle.dflp_laws.proofs.Turns.{home_turn_row_met, home_queue_row_met}
use Rattle.dflp_laws.proofs.Placement.{columns_are_requests}
use Rattle.dflp_laws.proofs.Programs.{each_row}

-- Each row is met.
pub dflp_rows_met : (w : Trace) (bound : ℕ → ℕ) (n j : ℕ) → Window dpcp_charge w bound n j → KeepsBefore dflp_rule w n
    → All (TicksMeet dpcp_charge w bound n j) (dflp_rows w.set (task_of w j))
dflp_rows_met w bound n j window keeps =
    each_row (TicksMeet dpcp_charge w bound n j) w.set (task_of w j)
    (common_each (TicksMeet dpcp_charge w bound n j) w.set (task_of w j) (λ x q a b. request_row_met dpcp_charge w bound n j x q window a)
    (λ x a. time_row_met dpcp_charge w bound n j x window a))
    (preemption_each (TicksMeet dpcp_charge w bound n j) w.set (task_of w j)
    (λ x a lower. home_interval_row_met w bound n j x window (homes_before w n keeps) lower))
    (λ x q a b. home_turn_row_met w bound n j x q window keeps)
    (λ x k a b. home_queue_row_met w bound n j x (k + 1) window keeps)

pub dflp_point_within : (w : Trace) (bounds : List ℕ) (n j : ℕ) → WithinRows w bounds n j → KeepsBefore dflp_rule w n
    → ArePointOf dpcp_charge (dflp_columns w.set (task_of w j)) (dflp_rows w.set (task_of w j)) w bounds n j
dflp_point_within w bounds n j premises keeps =
    point_within dpcp_charge (dflp_columns w.set (task_of w j)) (dflp_rows w.set (task_of w j)) w bounds n j have (dpcp_active w j)
    premises.ended
    (λ ended. rows_are_point dpcp_charge (is_dflp_column w.set (task_of w j)) (dflp_rows w.set (task_of w j)) w bounds n j have
    (dflp_rows_met w (slice_index bounds) n j
    (home_window w bounds n j
    (record { formed = premises.formed; lawful = premises.lawful; listed = premises.listed; ended = ended })
    (homes_before w n keeps)) keeps)) where
      have : HaveLengths w.set (dflp_columns w.set (task_of w j))
      have = users_have_lengths (is_dflp_column w.set (task_of w j)) w.set premises.formed (columns_are_requests w.set (task_of w j))
