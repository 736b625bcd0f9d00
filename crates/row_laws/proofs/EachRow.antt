-- Each row of each protocol's programs is met.
use Rattle.std.proofs.Common.{ℕ, ◌+◌}
use Rattle.sporadic_model.specs.declared.ids.Protocol.TheVariants as protocol
use Rattle.schedule_model.specs.RowDef.{Trace}
use Rattle.schedule_model.specs.Activity.{task_of}
use Rattle.schedule_model.specs.Ranks.{mpcp, fmlp_plus}
use Rattle.schedule_model.specs.Protocols.{shared_rule, dpcp_rule}
use Rattle.schedule_model.specs.Keeping.{KeepsBefore}
use Rattle.charge_laws.specs.Charges.{shared_charge, dpcp_charge}
use Rattle.program_laws.proofs.RowKinds.{EachKind}
use Rattle.row_laws.specs.Meeting.{TicksMeet}
use Rattle.row_laws.proofs.Brings.{Window}
use Rattle.row_laws.proofs.JobRows.{request_row_met, time_row_met}
use Rattle.row_laws.proofs.Intervals.{shared_interval_row_met, dpcp_interval_row_met}
use Rattle.row_laws.proofs.Fifo.{turn_row_met, queue_row_met}
use Rattle.row_laws.proofs.LowerHolders.{lower_holder_row_met}
use Rattle.row_laws.proofs.HoldingRow.{holding_row_met}
use Rattle.row_laws.proofs.HomeRow.{home_row_met}

pub mpcp_rows_met : (w : Trace) (bound : ℕ → ℕ) (n j : ℕ) → Window shared_charge w bound n j → KeepsBefore (shared_rule mpcp) w n
    → EachKind (TicksMeet shared_charge w bound n j) protocol.Mpcp w.set (task_of w j)
mpcp_rows_met w bound n j window keeps = record {
  request = λ x q a b. request_row_met shared_charge w bound n j x q window a;
  time = λ x a. time_row_met shared_charge w bound n j x window a;
  interval = λ x a lower. shared_interval_row_met mpcp w bound n j x window keeps lower;
  turn = λ e. absurd (cc);
  queue = λ e. absurd (cc);
  lower_holder = λ e q a. lower_holder_row_met w bound n j q window keeps;
  holding = λ e x a. holding_row_met w bound n j x window keeps;
  home = λ e. absurd (cc);
}

pub fmlp_rows_met : (w : Trace) (bound : ℕ → ℕ) (n j : ℕ) → Window shared_charge w bound n j → KeepsBefore (shared_rule fmlp_plus) w n
    → EachKind (TicksMeet shared_charge w bound n j) protocol.FmlpPlus w.set (task_of w j)
fmlp_rows_met w bound n j window keeps = record {
  request = λ x q a b. request_row_met shared_charge w bound n j x q window a;
  time = λ x a. time_row_met shared_charge w bound n j x window a;
  interval = λ x a lower. shared_interval_row_met fmlp_plus w bound n j x window keeps lower;
  turn = λ e x q a b. turn_row_met w bound n j x q window keeps;
  queue = λ e x a. queue_row_met w bound n j x window keeps;
  lower_holder = λ e. absurd (cc);
  holding = λ e. absurd (cc);
  home = λ e. absurd (cc);
}

pub dpcp_rows_met : (w : Trace) (bound : ℕ → ℕ) (n j : ℕ) → Window dpcp_charge w bound n j → KeepsBefore dpcp_rule w n
    → EachKind (TicksMeet dpcp_charge w bound n j) protocol.Dpcp w.set (task_of w j)
dpcp_rows_met w bound n j window keeps = record {
  request = λ x q a b. request_row_met dpcp_charge w bound n j x q window a;
  time = λ x a. time_row_met dpcp_charge w bound n j x window a;
  interval = λ x a lower. dpcp_interval_row_met w bound n j x window keeps lower;
  turn = λ e. absurd (cc);
  queue = λ e. absurd (cc);
  lower_holder = λ e. absurd (cc);
  holding = λ e. absurd (cc);
  home = λ e k a. home_row_met w bound n j (k + 1) window keeps;
}
