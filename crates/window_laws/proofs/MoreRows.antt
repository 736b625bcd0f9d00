-- The programs with windows have more rows than those of DPCP, so what fits under DPCP fits with windows.
use Rattle.std.proofs.Common.{ℕ, List, length}
use Rattle.sporadic_model.specs.SetDef.{SetDef}
use Rattle.sporadic_model.specs.declared.ids.Protocol.TheVariants as protocol
use Rattle.sporadic_model.specs.Bounds.{AtMost}
use Rattle.program_sources.specs.Fitting.{AreFitting, AreLeastFitting}
use Rattle.blocking_columns.specs.Columns.{may_block}
use Rattle.program_laws.specs.Programs.{rows_of, source_of, interfering_cost}
use Rattle.program_laws.proofs.MoreRows.{fitting_with_more}
use Rattle.window_laws.specs.WindowRows.{window_rows, windowed_source}

pub fitting_with_windows : (set : SetDef) (s : List ℕ) → AreFitting (source_of protocol.Dpcp set) s → AreFitting (windowed_source set) s
fitting_with_windows set s fits =
    fitting_with_more set (may_block protocol.Dpcp set) (rows_of protocol.Dpcp set) (window_rows set) (interfering_cost protocol.Dpcp set) s
    fits

-- And no least bound with windows is greater than one that fits under DPCP.
pub no_greater : (set : SetDef) (r s : List ℕ) → AreLeastFitting (windowed_source set) r → AreFitting (source_of protocol.Dpcp set) s
    → AtMost (length set.tasks) r s
no_greater set r s least fits = least.least s (fitting_with_windows set s fits)
