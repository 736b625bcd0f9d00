-- How many columns a program of the closer analysis has at most.
use Rattle.std.proofs.Common.{ℕ, ◌≤◌, List, arith}
use Rattle.program_form.specs.Program.{columns}
use Rattle.sporadic_model.specs.SetDef.{SetDef}
use Rattle.sporadic_model.specs.Accepted.{IsAccepted}
use Rattle.sporadic_model.specs.declared.ids.Protocol.TheVariants as protocol
use Rattle.blocking_columns.specs.Columns.{is_column, columns_of}
use Rattle.blocking_columns.proofs.KnownColumns.{columns_are_requests}
use Rattle.program_laws.proofs.UsedResources.{requests_at_most}
use Rattle.program_laws.proofs.PlacedRows.{width_is}
use Rattle.mpcp_window_laws.specs.WaitRows.{mpcp_closer_rows, mpcp_closer_program}

pub mpcp_closer_width : (set : SetDef) (i : ℕ) (r : List ℕ) → IsAccepted set → columns (mpcp_closer_program set i r) ≤ 768
mpcp_closer_width set i r accepted = omega (
  arith,
  width_is set (columns_of protocol.Mpcp set i) (mpcp_closer_rows set i) r,
  requests_at_most (is_column protocol.Mpcp set i) set accepted (columns_are_requests protocol.Mpcp set i),
)
