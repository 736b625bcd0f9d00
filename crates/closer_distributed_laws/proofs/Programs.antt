-- The programs with the closer rows are programs, rise with the bounds, and have few rows.
use Rattle.std.proofs.Common.{◌≡◌, ℕ, ◌+◌, ◌<◌, ◌≤◌, ◌++◌, ◌==◌, ◌&&◌, not, nat_lt, true, [], ◌∷◌, List, length, arith}
use Rattle.std.specs.List.{All, Contains}
use Rattle.std.proofs.lemmas.List.{length-append}
use Rattle.std.proofs.lemmas.List.Elements.{All-append, All-cons, All-nil, Contains-append_left}
use Rattle.number_laws.specs.Sums.{only_if}
use Rattle.number_laws.proofs.SumLaws.{only_if-at_most}
use Rattle.program_form.specs.Program.{IsProgram, IsCovered, columns}
use Rattle.program_form.specs.Limits.{HasLimitsAtMost}
use Rattle.sporadic_model.specs.SetDef.{SetDef, task_at}
use Rattle.sporadic_model.specs.Homes.{home_in}
use Rattle.sporadic_model.specs.Accepted.{IsAccepted}
use Rattle.sporadic_model.specs.declared.ids.Protocol.TheVariants as protocol
use Rattle.sporadic_model.specs.Bounds.{AtMost, AreWithinDeadlines}
use Rattle.program_sources.specs.Fitting.{ComesUpAbove}
use Rattle.program_sources.proofs.RecurrenceLaws.{comes_up_above}
use Rattle.blocking_columns.specs.ColumnDef.{is_preemption}
use Rattle.blocking_columns.specs.Columns.{is_column, columns_of, is_lower_local}
use Rattle.fragments.specs.Constraints.{ConstraintDef, per, per_where}
use Rattle.blocking_columns.specs.Windows.{requests_at}
use Rattle.blocking_columns.proofs.KnownColumns.{passing_known}
use Rattle.direct_constraints.specs.Rows.{request_row}
use Rattle.program_laws.specs.Written.{IsSmallRow, Rises, HasJobsAtMost, KeepsJobs}
use Rattle.program_laws.proofs.RowKinds.{all_per, all_per_where}
use Rattle.program_laws.proofs.RisingLimits.{jobs_rise, jobs_stay}
use Rattle.program_laws.proofs.SmallNumbers.{home_small, small_flags}
use Rattle.program_laws.proofs.CoveredColumns.{covered_by}
use Rattle.program_laws.proofs.ListLengths.{Few, few, per_at_most, where_at_most}
use Rattle.program_laws.proofs.GivenPrograms.{limits_at_most, limits_stay, is_program, written_where}
use Rattle.window_laws.specs.WindowRows.{windowed_rows}
use Rattle.window_laws.proofs.Programs.{windowed_rows_rise, windowed_rows_small, windowed_rows_few, windowed_among}
use Rattle.dflp_laws.specs.Programs.{dflp_rows, is_dflp_column, dflp_columns}
use Rattle.dflp_laws.proofs.Programs.{rows_rise, rows_small, rows_few, dflp_among}
use Rattle.closer_distributed_laws.specs.CloserRows.{is_away, requests_away, is_home_wait, home_task_row, lower_task_row, lower_preemption_row}
use Rattle.closer_distributed_laws.specs.CloserRows.{lower_wait_row, home_rows, dpcp_closer_rows, dflp_closer_rows}
use Rattle.closer_distributed_laws.specs.CloserRows.{dpcp_closer_program, dflp_closer_program, dpcp_closer_source, dflp_closer_source}

-- Is P true of each kind of row that both closer analyses have?
pub record EachHome (P : ConstraintDef → Type 0) (set : SetDef) (i : ℕ) : Type 0 where
  pub task : (k : ℕ) → k < set.processors → P (home_task_row set i (k + 1))
  pub lower : (x : ℕ) → x < length set.tasks → is_lower_local set i x ≡ true → P (lower_task_row set i x)
  pub preemption : P (lower_preemption_row set i)

abbrev task_rows : SetDef → ℕ → List ConstraintDef
task_rows set i = per set.processors (λ k. home_task_row set i (k + 1))

abbrev lowers : SetDef → ℕ → List ConstraintDef
lowers set i = per_where (is_lower_local set i) (length set.tasks) (lower_task_row set i)

pub home_each : (P : ConstraintDef → Type 0) (set : SetDef) (i : ℕ) → EachHome P set i → All P (home_rows set i)
home_each P set i each =
    All-append P (task_rows set i) (lowers set i ++ lower_preemption_row set i ∷ [])
    (all_per P set.processors (λ k. home_task_row set i (k + 1)) each.task)
    (All-append P (lowers set i) (lower_preemption_row set i ∷ [])
    (all_per_where P (is_lower_local set i) (length set.tasks) (lower_task_row set i) each.lower)
    (All-cons P (lower_preemption_row set i) [] each.preemption (All-nil P)))

-- Whatever is true of each plain row and of each closer row is true of all.
pub dpcp_closer_each : (P : ConstraintDef → Type 0) (set : SetDef) (i : ℕ) → All P (windowed_rows set i) → EachHome P set i
    → P (lower_wait_row set i) → All P (dpcp_closer_rows set i)
dpcp_closer_each P set i rows each wait =
    All-append P (windowed_rows set i) (home_rows set i ++ lower_wait_row set i ∷ []) rows
    (All-append P (home_rows set i) (lower_wait_row set i ∷ []) (home_each P set i each)
    (All-cons P (lower_wait_row set i) [] wait (All-nil P)))

pub dflp_closer_each : (P : ConstraintDef → Type 0) (set : SetDef) (i : ℕ) → All P (dflp_rows set i) → EachHome P set i
    → All P (dflp_closer_rows set i)
dflp_closer_each P set i rows each = All-append P (dflp_rows set i) (home_rows set i) rows (home_each P set i each)

-- No limit of a closer row depends on the bounds.
home_rises : (set : SetDef) (i : ℕ) (r s : List ℕ) → EachHome (Rises r s) set i
home_rises set i r s = record { task = λ k a. omega arith; lower = λ x a l. omega arith; preemption = omega arith }

pub dpcp_closer_rises : (set : SetDef) (i : ℕ) (r s : List ℕ) → i < length set.tasks → AtMost (length set.tasks) r s
    → HasLimitsAtMost (dpcp_closer_program set i r) (dpcp_closer_program set i s)
dpcp_closer_rises set i r s here h =
    limits_at_most set (columns_of protocol.Dpcp set i) (dpcp_closer_rows set i) r s
    (dpcp_closer_each (Rises r s) set i (windowed_rows_rise set i r s here h) (home_rises set i r s) (omega arith))

dflp_rows_rise : (set : SetDef) (i : ℕ) (r s : List ℕ) → HasJobsAtMost set i r s → All (Rises r s) (dflp_closer_rows set i)
dflp_rows_rise set i r s h = dflp_closer_each (Rises r s) set i (rows_rise set i r s h) (home_rises set i r s)

pub dflp_closer_rises : (set : SetDef) (i : ℕ) (r s : List ℕ) → i < length set.tasks → AtMost (length set.tasks) r s
    → HasLimitsAtMost (dflp_closer_program set i r) (dflp_closer_program set i s)
dflp_closer_rises set i r s here h =
    limits_at_most set (dflp_columns set i) (dflp_closer_rows set i) r s (dflp_rows_rise set i r s (jobs_rise set r s i here h))

pub dflp_closer_follows : (set : SetDef) (i : ℕ) (r s : List ℕ) → KeepsJobs set i r s
    → (dflp_closer_program set i r).limits ≡ (dflp_closer_program set i s).limits
dflp_closer_follows set i r s same =
    let both = jobs_stay set r s i same in
    limits_stay set (dflp_columns set i) (dflp_closer_rows set i) r s (dflp_rows_rise set i r s both.0) (dflp_rows_rise set i s r both.1)

home_rows_small : (set : SetDef) (i : ℕ) (r : List ℕ) → IsAccepted set → i < length set.tasks → EachHome (IsSmallRow r) set i
home_rows_small set i r accepted here = record {
  task = λ k a. small_flags r (is_home_wait set (k + 1))
      (λ bounds. only_if (not (k + 1 == (task_at set i).processor)) (requests_at set i (k + 1)))
      (omega (
        arith,
        only_if-at_most (not (k + 1 == (task_at set i).processor)) (requests_at set i (k + 1)),
        home_small set i (λ q. home_in set q == k + 1) accepted here,
      ));
  lower = λ x a l. small_flags r (λ c. c.task == x) (λ bounds. 1 + requests_away set i) few_away;
  preemption = small_flags r (λ c. is_preemption c.class && is_lower_local set i c.task) (λ bounds. 1 + requests_away set i) few_away;
} where
  few_away : 1 + requests_away set i ≤ 9223372036854775807
  few_away = omega (arith, home_small set i (is_away set i) accepted here)

wait_small : (set : SetDef) (i : ℕ) (r : List ℕ) → IsSmallRow r (lower_wait_row set i)
wait_small set i r = small_flags r
    (λ c. nat_lt i c.task && (not (is_preemption c.class) && (home_in set c.resource == (task_at set i).processor))) (λ bounds. 0)
    (omega arith)

-- The rows of requests stand among them.
dpcp_among : (set : SetDef) (i x q : ℕ) → x < length set.tasks → q < length set.resources
    → Contains (dpcp_closer_rows set i) (request_row set i x q)
dpcp_among set i x q a b = Contains-append_left (windowed_rows set i) (home_rows set i ++ lower_wait_row set i ∷ []) (request_row set i x q)
    (windowed_among set i x q a b)

dflp_among_all : (set : SetDef) (i x q : ℕ) → x < length set.tasks → q < length set.resources
    → Contains (dflp_closer_rows set i) (request_row set i x q)
dflp_among_all set i x q a b =
    Contains-append_left (dflp_rows set i) (home_rows set i) (request_row set i x q) (dflp_among set i x q a b)

home_few : (set : SetDef) (i : ℕ) → Few set → length (home_rows set i) ≤ 129
home_few set i f = omega (
  arith,
  length-append (task_rows set i) (lowers set i ++ lower_preemption_row set i ∷ []),
  length-append (lowers set i) (lower_preemption_row set i ∷ []),
  per_at_most set.processors (λ k. home_task_row set i (k + 1)),
  where_at_most (is_lower_local set i) (length set.tasks) (lower_task_row set i),
  f.processors,
  f.tasks,
)

pub dpcp_closer_is_program : (set : SetDef) (i : ℕ) (r : List ℕ) → IsAccepted set → i < length set.tasks → AreWithinDeadlines set r
    → IsProgram (dpcp_closer_program set i r)
dpcp_closer_is_program set i r accepted here within =
    is_program set i (columns_of protocol.Dpcp set i) (dpcp_closer_rows set i) r accepted
    (written_where (is_column protocol.Dpcp set i) set i (dpcp_closer_rows set i) r accepted (λ x q a b. dpcp_among set i x q a b)
    (dpcp_closer_each (IsSmallRow r) set i (windowed_rows_small set i r accepted here within) (home_rows_small set i r accepted here)
    (wait_small set i r))
    (omega (
      arith,
      length-append (windowed_rows set i) (home_rows set i ++ lower_wait_row set i ∷ []),
      length-append (home_rows set i) (lower_wait_row set i ∷ []),
      windowed_rows_few set i accepted here,
      home_few set i (few set accepted),
    )))

pub dflp_closer_is_program : (set : SetDef) (i : ℕ) (r : List ℕ) → IsAccepted set → i < length set.tasks → AreWithinDeadlines set r
    → IsProgram (dflp_closer_program set i r)
dflp_closer_is_program set i r accepted here within =
    is_program set i (dflp_columns set i) (dflp_closer_rows set i) r accepted
    (written_where (is_dflp_column set i) set i (dflp_closer_rows set i) r accepted (λ x q a b. dflp_among_all set i x q a b)
    (dflp_closer_each (IsSmallRow r) set i (rows_small set i r accepted here within) (home_rows_small set i r accepted here))
    (omega (
      arith,
      length-append (dflp_rows set i) (home_rows set i),
      rows_few set i accepted,
      home_few set i (few set accepted),
    )))

-- Each column has a coefficient above zero in some row.
pub dpcp_closer_covered : (set : SetDef) (i : ℕ) (r : List ℕ) (c : ℕ) → c < columns (dpcp_closer_program set i r)
    → IsCovered (dpcp_closer_program set i r) c
dpcp_closer_covered set i r c within =
    covered_by set i (columns_of protocol.Dpcp set i) (dpcp_closer_rows set i) r c (passing_known (is_column protocol.Dpcp set i) set)
    (λ x q a b. dpcp_among set i x q a b) within

pub dflp_closer_covered : (set : SetDef) (i : ℕ) (r : List ℕ) (c : ℕ) → c < columns (dflp_closer_program set i r)
    → IsCovered (dflp_closer_program set i r) c
dflp_closer_covered set i r c within =
    covered_by set i (dflp_columns set i) (dflp_closer_rows set i) r c (passing_known (is_dflp_column set i) set)
    (λ x q a b. dflp_among_all set i x q a b) within

-- What comes up at some bounds, no less comes up at greater ones.
pub dpcp_closer_above : (set : SetDef) → ComesUpAbove (dpcp_closer_source set)
dpcp_closer_above set = comes_up_above (dpcp_closer_source set) (λ i r s here most. dpcp_closer_rises set i r s here most)

pub dflp_closer_above : (set : SetDef) → ComesUpAbove (dflp_closer_source set)
dflp_closer_above set = comes_up_above (dflp_closer_source set) (λ i r s here most. dflp_closer_rises set i r s here most)
