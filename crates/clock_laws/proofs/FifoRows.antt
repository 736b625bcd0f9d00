-- The rows of the distributed FIFO protocol in cycles beside those in ticks, and with them whole programs.
use Rattle.std.proofs.Common.{ℕ, ◌+◌, ◌<◌, ◌==◌, ◌&&◌, not, List, ◌++◌, length, refl}
use Rattle.std.specs.Prelude.{slice_index}
use Rattle.sporadic_model.specs.SetDef.{SetDef}
use Rattle.sporadic_model.specs.Homes.{home_in}
use Rattle.blocking_columns.specs.declared.columns.Class.TheVariants.{Preemption}
use Rattle.blocking_columns.specs.ColumnDef.{is_class}
use Rattle.blocking_columns.specs.Columns.{blocks_at_home}
use Rattle.fragments.specs.Constraints.{ConstraintDef, per_pair}
use Rattle.direct_constraints.specs.Rows.{common_rows, turn_row}
use Rattle.preempt_constraints.specs.Rows.{preemption_rows}
use Rattle.dflp_laws.specs.Programs.{home_queue_row, dflp_rows, dflp_source, dflp_columns}
use Rattle.clock_laws.specs.Cycles.{in_cycles, times_each}
use Rattle.clock_laws.proofs.Sets.{tasks_in}
use Rattle.clock_laws.proofs.Columns.{columns_same, at_home_in}
use Rattle.clock_laws.proofs.Jobs.{requests_at_in}
use Rattle.clock_laws.proofs.Rescaled.{AreRescaled, counted_same, appended, each_pair}
use Rattle.clock_laws.proofs.BaseRows.{common_in, preemption_in, turns_in}
use Rattle.clock_laws.proofs.Programs.{IsRescaled, programs_rescaled}

queues_in : (k : ℕ) (set : SetDef) (bounds : ℕ → ℕ) (i : ℕ) → 0 < k
    → AreRescaled k bounds (per_pair (length set.tasks) set.processors (λ x m. home_queue_row set i x (m + 1)))
    (per_pair (length (in_cycles k set).tasks) set.processors (λ x m. home_queue_row (in_cycles k set) i x (m + 1)))
queues_in k set bounds i some = each_pair k bounds (length set.tasks) (length (in_cycles k set).tasks) set.processors
    (λ x m. home_queue_row set i x (m + 1)) (λ x m. home_queue_row (in_cycles k set) i x (m + 1)) (tasks_in k set)
    (λ x m a b. counted_same k bounds
    (λ c. ((c.task == x) && not (is_class Preemption c.class)) && (home_in set c.resource == m + 1))
    (λ c. ((c.task == x) && not (is_class Preemption c.class)) && (home_in set c.resource == m + 1)) _ _ some refl
    (requests_at_in k set i (m + 1)))

pub fifo_rows_in : (k : ℕ) (set : SetDef) (bounds : ℕ → ℕ) (i : ℕ) → 0 < k → AreRescaled k bounds (dflp_rows set i) (dflp_rows (in_cycles k set) i)
fifo_rows_in k set bounds i some = appended k bounds (common_rows set i) (common_rows (in_cycles k set) i)
    (preemption_rows set i ++ (turns ++ queues)) (preemption_rows (in_cycles k set) i ++ (fine_turns ++ fine_queues))
    (common_in k set bounds i some)
    (appended k bounds (preemption_rows set i) (preemption_rows (in_cycles k set) i) (turns ++ queues) (fine_turns ++ fine_queues)
    (preemption_in k set bounds i some)
    (appended k bounds turns fine_turns queues fine_queues (turns_in k set bounds i some) (queues_in k set bounds i some))) where
      turns : List ConstraintDef
      turns = per_pair (length set.tasks) (length set.resources) (turn_row set i)

      fine_turns : List ConstraintDef
      fine_turns = per_pair (length (in_cycles k set).tasks) (length set.resources) (turn_row (in_cycles k set) i)

      queues : List ConstraintDef
      queues = per_pair (length set.tasks) set.processors (λ x m. home_queue_row set i x (m + 1))

      fine_queues : List ConstraintDef
      fine_queues = per_pair (length (in_cycles k set).tasks) set.processors (λ x m. home_queue_row (in_cycles k set) i x (m + 1))

pub fifo_rescaled : (k : ℕ) (set : SetDef) (bounds : List ℕ) (i : ℕ) → 0 < k
    → IsRescaled k ((dflp_source set).program i bounds) ((dflp_source (in_cycles k set)).program i (times_each k bounds))
fifo_rescaled k set bounds i some = programs_rescaled k set bounds (dflp_columns set i) (dflp_columns (in_cycles k set) i) (dflp_rows set i)
    (dflp_rows (in_cycles k set) i) some
    (columns_same k set i (λ x. blocks_at_home (in_cycles k set) i) (λ x. blocks_at_home set i) (λ x q c. at_home_in k set i q c))
    (fifo_rows_in k set (slice_index bounds) i some)
