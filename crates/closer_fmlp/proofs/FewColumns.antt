-- How many columns a program of the closer analysis has at most.
use Rattle.std.proofs.Common.{ℕ, ◌≤◌, List, arith}
use Rattle.program_form.specs.Program.{columns}
use Rattle.sporadic_model.specs.SetDef.{SetDef}
use Rattle.sporadic_model.specs.Accepted.{IsAccepted}
use Rattle.sporadic_model.specs.declared.ids.Protocol.TheVariants as protocol
use Rattle.blocking_columns.specs.Columns.{is_column, columns_of}
use Rattle.blocking_columns.proofs.KnownColumns.{columns_are_requests}
use Rattle.program_laws.proofs.UsedResources.{requests_at_most}
use Rattle.program_laws.proofs.PlacedRows.{width_is}
use Rattle.closer_laws.specs.CloserRows.{fmlp_closer_rows, fmlp_closer_program}

pub fmlp_closer_width : (set : SetDef) (i : ℕ) (r : List ℕ) → IsAccepted set → columns (fmlp_closer_program set i r) ≤ 768
fmlp_closer_width set i r accepted = omega (
  arith,
  width_is set (columns_of protocol.FmlpPlus set i) (fmlp_closer_rows set i) r,
  requests_at_most (is_column protocol.FmlpPlus set i) set accepted (columns_are_requests protocol.FmlpPlus set i),
)
