-- The lists of columns and rows are a program, each column is covered, and no limit falls where bounds rise or as many jobs can run.
use Rattle.std.proofs.Common.{◌≡◌, ℕ, ◌+◌, ◌*◌, ◌<◌, ◌≤◌, ◌++◌, ◌==◌, ◌&&◌, not, List, length, arith}
use Rattle.std.specs.List.{All, Contains}
use Rattle.std.proofs.Math.Nat.{mul-le-mul_right}
use Rattle.std.proofs.lemmas.List.{length-append}
use Rattle.std.proofs.lemmas.List.Elements.{All-append}
use Rattle.program_form.specs.Program.{IsProgram, IsCovered, columns}
use Rattle.program_form.specs.Limits.{HasLimitsAtMost}
use Rattle.sporadic_model.specs.SetDef.{SetDef}
use Rattle.sporadic_model.specs.Homes.{home_in}
use Rattle.sporadic_model.specs.Accepted.{IsAccepted}
use Rattle.sporadic_model.specs.Bounds.{AtMost, AreWithinDeadlines}
use Rattle.blocking_columns.specs.ColumnDef.{is_preemption}
use Rattle.blocking_columns.specs.Columns.{is_lower_local}
use Rattle.blocking_columns.specs.Windows.{requests_at}
use Rattle.fragments.specs.Constraints.{ConstraintDef, per_pair}
use Rattle.blocking_columns.proofs.KnownColumns.{passing_known}
use Rattle.direct_constraints.specs.Rows.{common_rows, turn_row, request_row}
use Rattle.preempt_constraints.specs.Rows.{preemption_rows, interval_row}
use Rattle.program_laws.specs.Written.{IsSmallRow, Rises, HasJobsAtMost, KeepsJobs}
use Rattle.program_laws.proofs.RowKinds.{all_per_pair}
use Rattle.program_laws.proofs.RisingLimits.{jobs_rise, jobs_stay, common_rises, preemption_rises}
use Rattle.program_laws.proofs.SmallNumbers.{common_small, preemption_small, turn_row_small, home_small, small_flags}
use Rattle.program_laws.proofs.CoveredColumns.{covered_by, request_row_among}
use Rattle.program_laws.proofs.ListLengths.{Few, few, common_few, where_at_most, pair_at_most}
use Rattle.program_laws.proofs.GivenPrograms.{limits_at_most, limits_stay, is_program, written_where}
use Rattle.dflp_laws.specs.Programs.{is_dflp_column, home_queue_row, dflp_columns, dflp_rows, dflp_program}

abbrev turns : SetDef → ℕ → List ConstraintDef
turns set i = per_pair (length set.tasks) (length set.resources) (turn_row set i)

abbrev queues : SetDef → ℕ → List ConstraintDef
queues set i = per_pair (length set.tasks) set.processors (λ x k. home_queue_row set i x (k + 1))

-- What is true of each row: of those that every protocol has, and of the two kinds of the order of issue.
pub each_row : (P : ConstraintDef → Type 0) (set : SetDef) (i : ℕ) → All P (common_rows set i) → All P (preemption_rows set i)
    → ((x q : ℕ) → x < length set.tasks → q < length set.resources → P (turn_row set i x q))
    → ((x k : ℕ) → x < length set.tasks → k < set.processors → P (home_queue_row set i x (k + 1)))
    → All P (dflp_rows set i)
each_row P set i common preemption turn queue =
    All-append P (common_rows set i) (preemption_rows set i ++ (turns set i ++ queues set i)) common
    (All-append P (preemption_rows set i) (turns set i ++ queues set i) preemption
    (All-append P (turns set i) (queues set i)
    (all_per_pair P (length set.tasks) (length set.resources) (turn_row set i) turn)
    (all_per_pair P (length set.tasks) set.processors (λ x k. home_queue_row set i x (k + 1)) queue)))

-- No limit of these falls where as many jobs can run or more.
pub rows_rise : (set : SetDef) (i : ℕ) (r s : List ℕ) → HasJobsAtMost set i r s → All (Rises r s) (dflp_rows set i)
rows_rise set i r s h = each_row (Rises r s) set i (common_rises set i r s h) (preemption_rises set i r s)
    (λ x q a b. omega arith) (λ x k a b. omega arith)

pub dflp_rises : (set : SetDef) (i : ℕ) (r s : List ℕ) → i < length set.tasks → AtMost (length set.tasks) r s
    → HasLimitsAtMost (dflp_program set i r) (dflp_program set i s)
dflp_rises set i r s here h =
    limits_at_most set (dflp_columns set i) (dflp_rows set i) r s (rows_rise set i r s (jobs_rise set r s i here h))

pub dflp_follows : (set : SetDef) (i : ℕ) (r s : List ℕ) → KeepsJobs set i r s
    → (dflp_program set i r).limits ≡ (dflp_program set i s).limits
dflp_follows set i r s same =
    let both = jobs_stay set r s i same in
    limits_stay set (dflp_columns set i) (dflp_rows set i) r s (rows_rise set i r s both.0) (rows_rise set i s r both.1)

queue_small : (set : SetDef) (i x k : ℕ) (r : List ℕ) → IsAccepted set → i < length set.tasks → IsSmallRow r (home_queue_row set i x k)
queue_small set i x k r accepted here =
    small_flags r (λ c. ((c.task == x) && not (is_preemption c.class)) && (home_in set c.resource == k)) (λ b. requests_at set i k)
    (omega (arith, home_small set i (λ q. home_in set q == k) accepted here))

queues_few : (set : SetDef) (i : ℕ) → Few set → length (queues set i) ≤ 4096
queues_few set i f =
    let most : length set.tasks * set.processors ≤ 64 * set.processors = mul-le-mul_right set.processors f.tasks in
    omega (
      arith,
      pair_at_most (length set.tasks) set.processors (λ x k. home_queue_row set i x (k + 1)),
      most,
      f.processors,
    )

-- Each of them is small, and they are not many.
pub rows_small : (set : SetDef) (i : ℕ) (r : List ℕ) → IsAccepted set → i < length set.tasks → AreWithinDeadlines set r
    → All (IsSmallRow r) (dflp_rows set i)
rows_small set i r accepted here within =
    each_row (IsSmallRow r) set i (common_small set i r accepted within here) (preemption_small set i r accepted here)
    (λ x q a b. turn_row_small set i x q r accepted here) (λ x k a b. queue_small set i x (k + 1) r accepted here)

pub rows_few : (set : SetDef) (i : ℕ) → IsAccepted set → length (dflp_rows set i) ≤ 65536
rows_few set i accepted =
    let f : Few set = few set accepted in
    omega (
      arith,
      length-append (common_rows set i) (preemption_rows set i ++ (turns set i ++ queues set i)),
      length-append (preemption_rows set i) (turns set i ++ queues set i),
      length-append (turns set i) (queues set i),
      common_few set i f,
      where_at_most (is_lower_local set i) (length set.tasks) (interval_row set i),
      pair_at_most (length set.tasks) (length set.resources) (turn_row set i),
      queues_few set i f,
      f.pairs,
      f.tasks,
    )

-- The rows of requests stand among them.
pub dflp_among : (set : SetDef) (i x q : ℕ) → x < length set.tasks → q < length set.resources
    → Contains (dflp_rows set i) (request_row set i x q)
dflp_among set i x q a b = request_row_among set i x q (preemption_rows set i ++ (turns set i ++ queues set i)) a b

pub dflp_is_program : (set : SetDef) (i : ℕ) (r : List ℕ) → IsAccepted set → i < length set.tasks → AreWithinDeadlines set r
    → IsProgram (dflp_program set i r)
dflp_is_program set i r accepted here within = is_program set i (dflp_columns set i) (dflp_rows set i) r accepted
    (written_where (is_dflp_column set i) set i (dflp_rows set i) r accepted (λ x q a b. dflp_among set i x q a b)
    (rows_small set i r accepted here within) (omega (arith, rows_few set i accepted)))

pub dflp_covered : (set : SetDef) (i : ℕ) (r : List ℕ) (c : ℕ) → c < columns (dflp_program set i r) → IsCovered (dflp_program set i r) c
dflp_covered set i r c within = covered_by set i (dflp_columns set i) (dflp_rows set i) r c (passing_known (is_dflp_column set i) set)
    (λ x q a b. dflp_among set i x q a b) within
