-- How many rows and columns a program of DPCP with windows of requests has at most.
use Rattle.std.proofs.Common.{◌≡◌, ℕ, ◌+◌, ◌<◌, ◌≤◌, ◌==◌, ◌&&◌, not, Bool, true, List, ◌++◌, length, arith}
use Rattle.std.proofs.lemmas.Bool.{and_parts, eqb-true}
use Rattle.number_laws.proofs.CountLaws.{flag-passes}
use Rattle.program_form.specs.Program.{height, columns}
use Rattle.sporadic_model.specs.SetDef.{SetDef}
use Rattle.sporadic_model.specs.Accepted.{IsAccepted}
use Rattle.sporadic_model.specs.declared.ids.Protocol.TheVariants as protocol
use Rattle.blocking_columns.specs.ColumnDef.{ColumnDef, is_class}
use Rattle.blocking_columns.specs.declared.columns.Class.TheVariants.{Preemption}
use Rattle.blocking_columns.specs.Columns.{is_column, columns_of}
use Rattle.fragments.specs.Constraints.{per_pair, holds_some, rows_there}
use Rattle.blocking_columns.proofs.KnownColumns.{columns_are_requests, columns_are_of_others}
use Rattle.direct_constraints.specs.Rows.{common_rows}
use Rattle.preempt_constraints.specs.Rows.{preemption_rows}
use Rattle.indirect_constraints.specs.Rows.{home_row}
use Rattle.program_laws.specs.Programs.{rows_of, protocol_rows}
use Rattle.program_laws.proofs.Lists.{filter_shorter}
use Rattle.program_laws.proofs.ListLengths.{Few, few, per_at_most}
use Rattle.program_laws.proofs.FewRows.{IsOfPair, first_rows_few, common_there, preemption_there}
use Rattle.program_laws.proofs.UsedResources.{requests_at_most}
use Rattle.program_laws.proofs.PlacedRows.{there_behind, height_is, width_is}
use Rattle.window_laws.specs.WindowRows.{window_row, windowed_rows, windowed_program}

window_of_pair : (set : SetDef) (i x q : ℕ) → IsOfPair x q (window_row set i x q)
window_of_pair set i x q c some =
    let both : (((c.task == x) && (c.resource == q)) ≡ true) × (not (is_class Preemption c.class) ≡ true) =
    and_parts _ _ (flag-passes (((c.task == x) && (c.resource == q)) && not (is_class Preemption c.class)) some) in
    let pair : ((c.task == x) ≡ true) × ((c.resource == q) ≡ true) = and_parts _ _ both.0 in
    (eqb-true _ _ pair.0, eqb-true _ _ pair.1)

pub windowed_rows_at_most : (set : SetDef) (i : ℕ) → IsAccepted set → i < length set.tasks
    → length (rows_there (columns_of protocol.Dpcp set i) (windowed_rows set i)) ≤ 702
windowed_rows_at_most set i accepted here =
    let test : ColumnDef → Bool = is_column protocol.Dpcp set i in
    let cs : List ColumnDef = columns_of protocol.Dpcp set i in
    let f : Few set = few set accepted in
    let preemption = preemption_rows set i in
    let homes = protocol_rows protocol.Dpcp set i in
    omega (
      arith,
      there_behind cs (rows_of protocol.Dpcp set i) (per_pair i (length set.resources) (window_row set i)),
      there_behind cs (common_rows set i) (preemption ++ homes),
      there_behind cs preemption homes,
      common_there test set i accepted here (columns_are_requests protocol.Dpcp set i) (columns_are_of_others protocol.Dpcp set i),
      preemption_there test set i accepted here (columns_are_of_others protocol.Dpcp set i),
      filter_shorter (holds_some cs) homes,
      per_at_most set.processors (λ k. home_row set i (k + 1)),
      f.processors,
      first_rows_few test set i (window_row set i) accepted (columns_are_requests protocol.Dpcp set i) (omega (arith, here))
          (window_of_pair set i),
    )

pub windowed_height : (set : SetDef) (i : ℕ) (r : List ℕ) → IsAccepted set → i < length set.tasks
    → height (windowed_program set i r) ≤ 702
windowed_height set i r accepted here =
    omega (arith, height_is set (columns_of protocol.Dpcp set i) (windowed_rows set i) r, windowed_rows_at_most set i accepted here)

pub windowed_width : (set : SetDef) (i : ℕ) (r : List ℕ) → IsAccepted set → columns (windowed_program set i r) ≤ 768
windowed_width set i r accepted = omega (
  arith,
  width_is set (columns_of protocol.Dpcp set i) (windowed_rows set i) r,
  requests_at_most (is_column protocol.Dpcp set i) set accepted (columns_are_requests protocol.Dpcp set i),
)
