-- The columns and rows of blocking programs under spin locks. In each, i is the analysed task.
use Rattle.std.specs.Prelude.{ℕ, ◌+◌, ◌==◌, ◌&&◌, not, Bool, List, ◌∷◌, ◌++◌, length}
use Rattle.number_laws.specs.Sums.{sum_below, flag, only_if}
use Rattle.number_laws.specs.Tests.{any_below}
use Rattle.program_form.specs.Program.{ProgramDef}
use Rattle.sporadic_model.specs.SetDef.{SetDef, task_at}
use Rattle.sporadic_model.specs.Users.{count_of, is_user}
use Rattle.program_sources.specs.Recurrence.{SourceDef}
use Rattle.blocking_columns.specs.declared.columns.Class.{Class}
use Rattle.blocking_columns.specs.declared.columns.Class.TheVariants as class
use Rattle.blocking_columns.specs.ColumnDef.{ColumnDef, is_class}
use Rattle.blocking_columns.specs.Columns.{have_one_processor, is_lower_local, is_column_by, columns_by}
use Rattle.fragments.specs.Constraints.{ConstraintDef, counting, per_pair}
use Rattle.blocking_columns.specs.Windows.{requests_by_higher}
use Rattle.direct_constraints.specs.Rows.{common_rows}
use Rattle.program_laws.specs.Programs.{program_with, source_with}

-- Does another task of i's processor use q?
abbrev pub is_used_beside : SetDef → ℕ → ℕ → Bool
is_used_beside set i q = any_below (length set.tasks) (λ z. (not (z == i) && have_one_processor set z i) && is_user set q z)

-- May requests of q by x block i in this way? Directly, if x is on another processor and i requests q. Indirectly, if x is on another
-- processor and another task of i's processor, which may spin there, uses q. By preemption, if x is a lower task of i's processor.
abbrev pub blocks_by_spinning : SetDef → ℕ → ℕ → ℕ → Class → Bool
blocks_by_spinning set i x q class.Direct = not (have_one_processor set x i) && is_user set q i
blocks_by_spinning set i x q class.Indirect = not (have_one_processor set x i) && is_used_beside set i q
blocks_by_spinning set i x q class.Preemption = is_lower_local set i x

-- Lower requests: a request of a lower task that runs or spins after a job's release was open at the release. At most one is.
abbrev pub lower_request_row : ConstraintDef
lower_request_row = counting (λ c. is_class class.Preemption c.class) (λ bounds. 1)

-- Is it a column of requests of q by a task of processor k?
abbrev pub is_from : SetDef → ℕ → ℕ → ColumnDef → Bool
is_from set k q c = ((task_at set c.task).processor == k) && (c.resource == q)

-- Does a lower task of i's processor use q?
abbrev pub is_used_below : SetDef → ℕ → ℕ → Bool
is_used_below set i q = any_below (length set.tasks) (λ x. is_lower_local set i x && is_user set q x)

-- Spinning: each request of q from i's processor spins for at most one request of processor k, since k has one job in a request at a time.
-- Three kinds come from i's processor: the job's own requests, those of higher tasks, and one request of a lower task, which was open at
-- the job's release.
abbrev pub spinning_row : SetDef → ℕ → ℕ → ℕ → ConstraintDef
spinning_row set i k q = counting (λ c. is_from set k q c && not (is_class class.Preemption c.class)) (λ bounds.
    count_of set i q + (requests_by_higher set bounds i (λ h. have_one_processor set h i) q + flag (is_used_below set i q)))

-- Own spinning: each request of q by i itself spins for at most one request of processor k.
abbrev pub own_spinning_row : SetDef → ℕ → ℕ → ℕ → ConstraintDef
own_spinning_row set i k q = counting (λ c. is_from set k q c && is_class class.Direct c.class) (λ bounds. count_of set i q)

-- The rows that only spin locks have. On i's own processor only requests by preemption have columns. So no row of that processor is in the
-- program.
abbrev pub spinning_rows : SetDef → ℕ → List ConstraintDef
spinning_rows set i = per_pair set.processors (length set.resources) (λ k q. spinning_row set i (k + 1) q)
    ++ per_pair set.processors (length set.resources) (λ k q. own_spinning_row set i (k + 1) q)

-- The rows of task i: requests, time, lower requests, spinning, and own spinning.
abbrev pub spin_rows : SetDef → ℕ → List ConstraintDef
spin_rows set i = common_rows set i ++ (lower_request_row ∷ spinning_rows set i)

-- The source of these programs for a set. A job of a higher task interferes at no more ticks than its task's cost. Ticks at which it spins
-- are not among these.
abbrev pub spin_source : SetDef → SourceDef
spin_source set = source_with set (blocks_by_spinning set) (spin_rows set) (λ h. (task_at set h).cost)

-- The columns, the program of task i at bounds, and what higher tasks of i's processor request while a job of i runs. Contracts use these
-- names.
abbrev pub is_spin_column : SetDef → ℕ → ColumnDef → Bool
is_spin_column set i = is_column_by (blocks_by_spinning set i) set i

abbrev pub spin_columns : SetDef → ℕ → List ColumnDef
spin_columns set i = columns_by (blocks_by_spinning set i) set i

abbrev pub spin_program : SetDef → ℕ → List ℕ → ProgramDef
spin_program set i bounds = program_with set (spin_columns set i) (spin_rows set i) bounds

abbrev pub higher_requests : SetDef → (ℕ → ℕ) → ℕ → ℕ → ℕ
higher_requests set bounds i q = requests_by_higher set bounds i (λ h. have_one_processor set h i) q

-- How many requests of the resources that pass do i and the higher tasks of its processor make while a job of i runs?
abbrev pub upper_requests : SetDef → (ℕ → ℕ) → ℕ → (ℕ → Bool) → ℕ
upper_requests set bounds i passes =
    sum_below (length set.resources) (λ q. only_if (passes q) (count_of set i q + higher_requests set bounds i q))
