-- The programs of the closer analysis of MPCP are programs, rise with the bounds, and have few rows.
use Rattle.std.proofs.Common.{◌++◌, ◌≡◌, ℕ, ◌<◌, ◌≤◌, List, length, refl, arith}
use Rattle.std.specs.List.{All, Contains}
use Rattle.std.specs.Prelude.{slice_index}
use Rattle.std.proofs.Math.Nat.{mul-le-mul_right}
use Rattle.std.proofs.lemmas.List.{length-append}
use Rattle.std.proofs.lemmas.List.Elements.{All-append}
use Rattle.number_laws.specs.Sums.{only_if}
use Rattle.number_laws.proofs.SumLaws.{only_if-at_most}
use Rattle.program_form.specs.Program.{IsProgram, IsCovered, columns, height}
use Rattle.program_form.specs.Limits.{HasLimitsAtMost}
use Rattle.sporadic_model.specs.SetDef.{SetDef}
use Rattle.sporadic_model.specs.Accepted.{IsAccepted}
use Rattle.sporadic_model.specs.declared.ids.Protocol.TheVariants as protocol
use Rattle.sporadic_model.specs.Bounds.{AtMost, AreWithinDeadlines}
use Rattle.sporadic_model.proofs.Laws.{sizes_of_accepted}
use Rattle.program_sources.specs.Fitting.{ComesUpAbove}
use Rattle.program_sources.proofs.RecurrenceLaws.{comes_up_above}
use Rattle.blocking_columns.specs.ColumnDef.{ColumnDef}
use Rattle.blocking_columns.specs.Columns.{is_column, columns_of}
use Rattle.fragments.specs.Constraints.{ConstraintDef, per, holds_some}
use Rattle.blocking_columns.proofs.KnownColumns.{passing_known, columns_are_requests, columns_are_of_others}
use Rattle.direct_constraints.specs.Rows.{request_row, lower_holder_row, common_rows}
use Rattle.indirect_constraints.specs.Rows.{is_beside}
use Rattle.program_laws.specs.Written.{IsSmallRow, Rises, HasJobsAtMost, KeepsJobs}
use Rattle.program_laws.proofs.Lists.{filter_shorter, sum_at_most}
use Rattle.program_laws.proofs.RowKinds.{EachKind, common_each, all_per, all_per_pair}
use Rattle.program_laws.proofs.RisingLimits.{jobs_rise, jobs_stay, limits_rise}
use Rattle.program_laws.proofs.SmallNumbers.{rows_small, requests_small, flag_small}
use Rattle.program_laws.proofs.CoveredColumns.{covered_by, request_row_among}
use Rattle.program_laws.proofs.ListLengths.{Few, few, per_at_most, pair_at_most, common_few}
use Rattle.program_laws.proofs.FewRows.{first_rows_few, common_there, turn_of}
use Rattle.program_laws.proofs.PlacedRows.{there_behind, height_is}
use Rattle.program_laws.proofs.GivenPrograms.{limits_at_most, limits_stay, is_program, written_where}
use Rattle.closer_mpcp_laws.specs.CloserMpcpRows.{further_rows}
use Rattle.closer_mpcp_laws.proofs.FurtherRows.{EachFurther, further_each, further_rise, further_small, further_few, further_there}
use Rattle.mpcp_window_laws.specs.KeptWindows.{KeepsWindows}
use Rattle.mpcp_window_laws.specs.WaitRows.{requests_in_waits, direct_wait_row, held_in_waits, wait_rows}
use Rattle.mpcp_window_laws.specs.WaitRows.{mpcp_closer_rows, mpcp_closer_source, mpcp_closer_program}
use Rattle.mpcp_window_laws.proofs.WaitLimits.{waits_rise, waits_stay, held_at_most}

-- The rows that MPCP doesn't have, those of lower holders, and both together: the rows behind those that every protocol has.
abbrev pub behind : SetDef → ℕ → List ConstraintDef
behind set i = further_rows set (held_in_waits set i) i ++ wait_rows set i

abbrev pub holders : SetDef → ℕ → List ConstraintDef
holders set i = per (length set.resources) (lower_holder_row set i)

abbrev pub holders_and_behind : SetDef → ℕ → List ConstraintDef
holders_and_behind set i = holders set i ++ behind set i

-- Whatever is true of each kind of row of MPCP, of each closer row and of each row of direct waits is true of all.
pub mpcp_closer_each : (P : ConstraintDef → Type 0) (set : SetDef) (i : ℕ) → EachKind P protocol.Mpcp set i
    → EachFurther P set (held_in_waits set i) i → ((x q : ℕ) → x < i → q < length set.resources → P (direct_wait_row set i x q))
    → All P (mpcp_closer_rows set i)
mpcp_closer_each P set i rows further waits =
    All-append P (common_rows set i) (holders_and_behind set i) (common_each P set i rows.request rows.time)
    (All-append P (holders set i) (behind set i)
    (all_per P (length set.resources) (lower_holder_row set i) (rows.lower_holder refl))
    (All-append P (further_rows set (held_in_waits set i) i) (wait_rows set i) (further_each P set (held_in_waits set i) i further)
    (all_per_pair P i (length set.resources) (direct_wait_row set i) waits)))

-- Do no more requests run in each wait at the bounds r than at s?
abbrev WaitsAtMost : SetDef → ℕ → List ℕ → List ℕ → Type 0
WaitsAtMost set i r s = (x q : ℕ) → x < i → q < length set.resources
    → requests_in_waits set (slice_index r) i q x q ≤ requests_in_waits set (slice_index s) i q x q

-- Then no limit falls, where as many jobs can run or more.
rows_rise : (set : SetDef) (i : ℕ) (r s : List ℕ) → i < length set.tasks → HasJobsAtMost set i r s → WaitsAtMost set i r s
    → All (Rises r s) (mpcp_closer_rows set i)
rows_rise set i r s here jobs waits =
    mpcp_closer_each (Rises r s) set i (limits_rise protocol.Mpcp set i r s here jobs)
    (further_rise set (held_in_waits set i) i r s here jobs
    (λ x q a b. held_at_most set (slice_index r) (slice_index s) i x q (λ y l. waits y q l b)))
    (λ x q a b. waits x q a b)

-- So none falls when bounds rise.
pub mpcp_closer_rises : (set : SetDef) (i : ℕ) (r s : List ℕ) → i < length set.tasks → AtMost (length set.tasks) r s
    → HasLimitsAtMost (mpcp_closer_program set i r) (mpcp_closer_program set i s)
mpcp_closer_rises set i r s here most =
    limits_at_most set (columns_of protocol.Mpcp set i) (mpcp_closer_rows set i) r s
    (rows_rise set i r s here (jobs_rise set r s i here most)
    (λ x q a b. waits_rise set (slice_index r) (slice_index s) i q x q here (omega (arith, a, here)) most))

-- And all limits stay where as many jobs can run, and windows stay.
pub mpcp_closer_follows : (set : SetDef) (i : ℕ) (r s : List ℕ) → i < length set.tasks → KeepsJobs set i r s → KeepsWindows set i r s
    → (mpcp_closer_program set i r).limits ≡ (mpcp_closer_program set i s).limits
mpcp_closer_follows set i r s here same windows =
    let both = jobs_stay set r s i same in
    let stay : (x q : ℕ) → x < i → q < length set.resources
    → requests_in_waits set (slice_index r) i q x q ≡ requests_in_waits set (slice_index s) i q x q =
    λ x q a b. waits_stay set (slice_index r) (slice_index s) i q x (omega (arith, a, here)) (same x (omega (arith, a, here))) (windows q b) in
    limits_stay set (columns_of protocol.Mpcp set i) (mpcp_closer_rows set i) r s
    (rows_rise set i r s here both.0 (λ x q a b. omega (arith, stay x q a b)))
    (rows_rise set i s r here both.1 (λ x q a b. omega (arith, stay x q a b)))

-- None of them is large.
held_small : (set : SetDef) (i x q : ℕ) (r : List ℕ) → IsAccepted set → AreWithinDeadlines set r → i < length set.tasks
    → held_in_waits set i (slice_index r) x q ≤ 128000000000000
held_small set i x q r accepted within here =
    let sizes = sizes_of_accepted set accepted in
    let sum = sum_at_most i 2000000000000 (λ y. only_if (is_beside set x y) (requests_in_waits set (slice_index r) i q y q)) (λ y l.
    omega (
      arith,
      only_if-at_most (is_beside set x y) (requests_in_waits set (slice_index r) i q y q),
      requests_small set r i y q accepted within here (omega (arith, l, here)),
    )) in
    omega (arith, sum, sizes.tasks_to, here)

wait_small : (set : SetDef) (i x q : ℕ) (r : List ℕ) → IsAccepted set → AreWithinDeadlines set r → i < length set.tasks → x < i
    → IsSmallRow r (direct_wait_row set i x q)
wait_small set i x q r accepted within here l = record {
  coefficients = λ c. flag_small _;
  limit = omega (arith, requests_small set r i x q accepted within here (omega (arith, l, here)));
}

closer_rows_small : (set : SetDef) (i : ℕ) (r : List ℕ) → IsAccepted set → AreWithinDeadlines set r → i < length set.tasks
    → All (IsSmallRow r) (mpcp_closer_rows set i)
closer_rows_small set i r accepted within here =
    mpcp_closer_each (IsSmallRow r) set i (rows_small protocol.Mpcp set i r accepted within here)
    (further_small set (held_in_waits set i) i r accepted within here (λ x q a b. held_small set i x q r accepted within here))
    (λ x q a b. wait_small set i x q r accepted within here a)

closer_rows_few : (set : SetDef) (i : ℕ) → IsAccepted set → i < length set.tasks → length (mpcp_closer_rows set i) ≤ 65536
closer_rows_few set i accepted here =
    let f : Few set = few set accepted in
    omega (
      arith,
      length-append (common_rows set i) (holders_and_behind set i),
      length-append (holders set i) (behind set i),
      length-append (further_rows set (held_in_waits set i) i) (wait_rows set i),
      common_few set i f,
      per_at_most (length set.resources) (lower_holder_row set i),
      f.resources,
      further_few set (held_in_waits set i) i f,
      pair_at_most i (length set.resources) (direct_wait_row set i),
      mul-le-mul_right (length set.resources) here,
      f.pairs,
    )

-- The rows of requests are among them.
among : (set : SetDef) (i x q : ℕ) → x < length set.tasks → q < length set.resources
    → Contains (mpcp_closer_rows set i) (request_row set i x q)
among set i x q a b = request_row_among set i x q (holders_and_behind set i) a b

pub mpcp_closer_is_program : (set : SetDef) (i : ℕ) (r : List ℕ) → IsAccepted set → i < length set.tasks → AreWithinDeadlines set r
    → IsProgram (mpcp_closer_program set i r)
mpcp_closer_is_program set i r accepted here within =
    is_program set i (columns_of protocol.Mpcp set i) (mpcp_closer_rows set i) r accepted
    (written_where (is_column protocol.Mpcp set i) set i (mpcp_closer_rows set i) r accepted (λ x q a b. among set i x q a b)
    (closer_rows_small set i r accepted within here) (omega (arith, closer_rows_few set i accepted here)))

-- Each column has a coefficient above zero in some row.
pub mpcp_closer_covered : (set : SetDef) (i : ℕ) (r : List ℕ) (c : ℕ) → c < columns (mpcp_closer_program set i r)
    → IsCovered (mpcp_closer_program set i r) c
mpcp_closer_covered set i r c within =
    covered_by set i (columns_of protocol.Mpcp set i) (mpcp_closer_rows set i) r c
    (passing_known (is_column protocol.Mpcp set i) set) (λ x q a b. among set i x q a b) within

-- What comes up at some bounds, no less comes up at greater ones.
pub mpcp_closer_above : (set : SetDef) → ComesUpAbove (mpcp_closer_source set)
mpcp_closer_above set = comes_up_above (mpcp_closer_source set) (λ i r s here most. mpcp_closer_rises set i r s here most)

-- A program has at most 32 rows of lower holders and 256 of direct waits, so at most 1054 rows. A row of direct waits counts the columns that
-- a row of turns counts.
pub mpcp_closer_height : (set : SetDef) (i : ℕ) (r : List ℕ) → IsAccepted set → i < length set.tasks
    → height (mpcp_closer_program set i r) ≤ 1054
mpcp_closer_height set i r accepted here =
    let cs : List ColumnDef = columns_of protocol.Mpcp set i in
    let f : Few set = few set accepted in
    omega (
      arith,
      height_is set cs (mpcp_closer_rows set i) r,
      there_behind cs (common_rows set i) (holders_and_behind set i),
      there_behind cs (holders set i) (behind set i),
      there_behind cs (further_rows set (held_in_waits set i) i) (wait_rows set i),
      common_there (is_column protocol.Mpcp set i) set i accepted here (columns_are_requests protocol.Mpcp set i)
          (columns_are_of_others protocol.Mpcp set i),
      filter_shorter (holds_some cs) (holders set i),
      per_at_most (length set.resources) (lower_holder_row set i),
      f.resources,
      further_there set (held_in_waits set i) i accepted here,
      first_rows_few (is_column protocol.Mpcp set i) set i (direct_wait_row set i) accepted (columns_are_requests protocol.Mpcp set i)
          (omega (arith, here)) (λ x q. turn_of set i x q),
    )
