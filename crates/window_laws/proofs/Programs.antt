-- The programs with rows of windows are programs, rise with the bounds, and bound blocking no less than those without.
use Rattle.std.proofs.Common.{ℕ, ◌<◌, ◌≤◌, ◌++◌, List, length, arith}
use Rattle.std.specs.Prelude.{slice_index}
use Rattle.std.specs.List.{All, Contains}
use Rattle.std.proofs.lemmas.List.{length-append, append_assoc}
use Rattle.std.proofs.lemmas.List.Elements.{All-append}
use Rattle.std.proofs.Math.Nat.{mul-le-mul_right}
use Rattle.program_form.specs.Program.{IsProgram, IsCovered, columns}
use Rattle.program_form.specs.Limits.{HasLimitsAtMost}
use Rattle.sporadic_model.specs.SetDef.{SetDef}
use Rattle.sporadic_model.specs.Accepted.{IsAccepted}
use Rattle.sporadic_model.specs.declared.ids.Protocol.TheVariants as protocol
use Rattle.sporadic_model.specs.Bounds.{AtMost, AreWithinDeadlines}
use Rattle.program_sources.specs.Fitting.{ComesUpAbove}
use Rattle.program_sources.proofs.RecurrenceLaws.{comes_up_above}
use Rattle.blocking_columns.specs.Columns.{is_column, columns_of}
use Rattle.fragments.specs.Constraints.{ConstraintDef}
use Rattle.blocking_columns.proofs.KnownColumns.{passing_known}
use Rattle.direct_constraints.specs.Rows.{common_rows, request_row}
use Rattle.preempt_constraints.specs.Rows.{preemption_rows}
use Rattle.program_laws.specs.Programs.{protocol_rows, rows_of}
use Rattle.program_laws.specs.Written.{IsSmallRow, Rises}
use Rattle.program_laws.proofs.RowKinds.{each_row, all_per_pair}
use Rattle.program_laws.proofs.RisingLimits.{jobs_rise, limits_rise}
use Rattle.program_laws.proofs.SmallNumbers.{rows_small, requests_small, flag_small}
use Rattle.program_laws.proofs.CoveredColumns.{covered_by, request_row_among}
use Rattle.program_laws.proofs.ListLengths.{Few, few, pair_at_most, rows_few}
use Rattle.program_laws.proofs.GivenPrograms.{limits_at_most, is_program, written_where}
use Rattle.window_laws.specs.WindowRows.{window_row, window_rows, windowed_rows, windowed_program, windowed_source}
use Rattle.window_laws.proofs.Rising.{window_limit_rises}

-- Whatever is true of each row of DPCP and of each row of windows is true of all.
pub windowed_each : (P : ConstraintDef → Type 0) (set : SetDef) (i : ℕ) → All P (rows_of protocol.Dpcp set i)
    → ((x p : ℕ) → x < i → p < length set.resources → P (window_row set i x p)) → All P (windowed_rows set i)
windowed_each P set i rows each =
    All-append P (rows_of protocol.Dpcp set i) (window_rows set i) rows (all_per_pair P i (length set.resources) (window_row set i) each)

-- No limit of these falls where bounds rise.
pub windowed_rows_rise : (set : SetDef) (i : ℕ) (r s : List ℕ) → i < length set.tasks → AtMost (length set.tasks) r s
    → All (Rises r s) (windowed_rows set i)
windowed_rows_rise set i r s here h =
    windowed_each (Rises r s) set i
    (each_row (Rises r s) protocol.Dpcp set i (limits_rise protocol.Dpcp set i r s here (jobs_rise set r s i here h)))
    (λ x p l b. window_limit_rises set (slice_index r) (slice_index s) i x p here l h)

pub windowed_rises : (set : SetDef) (i : ℕ) (r s : List ℕ) → i < length set.tasks → AtMost (length set.tasks) r s
    → HasLimitsAtMost (windowed_program set i r) (windowed_program set i s)
windowed_rises set i r s here h =
    limits_at_most set (columns_of protocol.Dpcp set i) (windowed_rows set i) r s (windowed_rows_rise set i r s here h)

window_small : (set : SetDef) (i x p : ℕ) (r : List ℕ) → IsAccepted set → AreWithinDeadlines set r → i < length set.tasks → x < i
    → IsSmallRow r (window_row set i x p)
window_small set i x p r accepted within here l = record {
  coefficients = λ c. flag_small _;
  limit = omega (arith, requests_small set r i x p accepted within here (omega arith));
}

-- Each of them is small, and they are not many.
pub windowed_rows_small : (set : SetDef) (i : ℕ) (r : List ℕ) → IsAccepted set → i < length set.tasks → AreWithinDeadlines set r
    → All (IsSmallRow r) (windowed_rows set i)
windowed_rows_small set i r accepted here within =
    windowed_each (IsSmallRow r) set i
    (each_row (IsSmallRow r) protocol.Dpcp set i (rows_small protocol.Dpcp set i r accepted within here))
    (λ x p l b. window_small set i x p r accepted within here l)

pub windowed_rows_few : (set : SetDef) (i : ℕ) → IsAccepted set → i < length set.tasks → length (windowed_rows set i) ≤ 65536
windowed_rows_few set i accepted here =
    let f : Few set = few set accepted in
    omega (
      arith,
      length-append (rows_of protocol.Dpcp set i) (window_rows set i),
      rows_few protocol.Dpcp set i accepted,
      pair_at_most i (length set.resources) (window_row set i),
      mul-le-mul_right (length set.resources) here,
      f.pairs,
    )

-- The rows of requests are among them.
pub windowed_among : (set : SetDef) (i x q : ℕ) → x < length set.tasks → q < length set.resources
    → Contains (windowed_rows set i) (request_row set i x q)
windowed_among set i x q a b =
    let rest : List ConstraintDef = preemption_rows set i ++ protocol_rows protocol.Dpcp set i in
    rw (append_assoc (common_rows set i) rest (window_rows set i)) (request_row_among set i x q (rest ++ window_rows set i) a b)

pub windowed_is_program : (set : SetDef) (i : ℕ) (r : List ℕ) → IsAccepted set → i < length set.tasks → AreWithinDeadlines set r
    → IsProgram (windowed_program set i r)
windowed_is_program set i r accepted here within =
    is_program set i (columns_of protocol.Dpcp set i) (windowed_rows set i) r accepted
    (written_where (is_column protocol.Dpcp set i) set i (windowed_rows set i) r accepted (λ x q a b. windowed_among set i x q a b)
    (windowed_rows_small set i r accepted here within) (omega (arith, windowed_rows_few set i accepted here)))

-- Each column has a coefficient above zero in some row.
pub windowed_covered : (set : SetDef) (i : ℕ) (r : List ℕ) (c : ℕ) → c < columns (windowed_program set i r)
    → IsCovered (windowed_program set i r) c
windowed_covered set i r c within =
    covered_by set i (columns_of protocol.Dpcp set i) (windowed_rows set i) r c (passing_known (is_column protocol.Dpcp set i) set)
    (λ x q a b. windowed_among set i x q a b) within

-- For each response time that is possible at some bounds, one that is no less is possible at greater bounds.
pub windowed_above : (set : SetDef) → ComesUpAbove (windowed_source set)
windowed_above set = comes_up_above (windowed_source set) (λ i r s here most. windowed_rises set i r s here most)
