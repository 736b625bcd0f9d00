-- The closer rows of FMLP+ in cycles beside those in ticks, and with them whole programs. None of their limits depends on a number of
-- ticks.
use Rattle.std.proofs.Common.{◌≡◌, ℕ, ◌+◌, ◌<◌, ◌==◌, ◌&&◌, not, Bool, List, [], ◌∷◌, ◌++◌, length, refl}
use Rattle.std.specs.Prelude.{slice_index}
use Rattle.number_laws.specs.Sums.{sum_below, only_if}
use Rattle.number_laws.specs.Tests.{any_below}
use Rattle.sporadic_model.specs.SetDef.{SetDef}
use Rattle.sporadic_model.specs.declared.ids.Protocol.TheVariants as protocol
use Rattle.blocking_columns.specs.declared.columns.Class.TheVariants.{Direct, Indirect, Preemption}
use Rattle.blocking_columns.specs.ColumnDef.{is_class}
use Rattle.blocking_columns.specs.Columns.{is_lower_local, columns_of}
use Rattle.fragments.specs.Constraints.{ConstraintDef, per, per_pair, per_where}
use Rattle.program_laws.specs.Programs.{rows_of}
use Rattle.closer_laws.specs.CloserRows.{is_shared_out, requests_where, is_held_there, is_held_beside}
use Rattle.closer_laws.specs.CloserRows.{holder_row, other_holder_row, lower_row, local_preemption_row, local_wait_row, local_runner_row}
use Rattle.closer_laws.specs.CloserRows.{closer_rows, fmlp_closer_rows, fmlp_closer_source}
use Rattle.clock_laws.specs.Cycles.{in_cycles, times_each}
use Rattle.clock_laws.proofs.Sets.{tasks_in, count_in, users_in, one_processor_in, lower_in}
use Rattle.clock_laws.proofs.Columns.{columns_scaled}
use Rattle.clock_laws.proofs.Rescaled.{AreRescaled, IsRescaledRow, counted_same, appended, each_per, each_pair, each_where}
use Rattle.clock_laws.proofs.BaseRows.{rows_in, beside_in}
use Rattle.clock_laws.proofs.Programs.{IsRescaled, programs_rescaled}

pub shared_out_in : (k : ℕ) (set : SetDef) → is_shared_out (in_cycles k set) ≡ is_shared_out set
shared_out_in k set = λ j x q. any_below (tasks_in k set j) (λ y. users_in k set j q y && not (one_processor_in k set j y x))

pub held_there_in : (k : ℕ) (set : SetDef) → is_held_there (in_cycles k set) ≡ is_held_there set
held_there_in k set = λ j i x q. shared_out_in k set j i q
    && any_below (tasks_in k set j) (λ y. users_in k set j q y && (one_processor_in k set j y x && not (y == i)))

held_beside_in : (k : ℕ) (set : SetDef) → is_held_beside (in_cycles k set) ≡ is_held_beside set
held_beside_in k set = λ j i x q. shared_out_in k set j i q
    && any_below (tasks_in k set j) (λ y. users_in k set j q y && (beside_in k set j x y && not (y == i)))

requests_in : (k : ℕ) (set : SetDef) (i : ℕ) (fine_test test : ℕ → Bool) → fine_test ≡ test
    → requests_where (in_cycles k set) i fine_test ≡ requests_where set i test
requests_in k set i fine_test test same = λ j. sum_below (length set.resources) (λ q. only_if (same j q) (count_in k set i q j))

pub shared_requests_in : (k : ℕ) (set : SetDef) (i : ℕ)
    → 1 + requests_where (in_cycles k set) i (is_shared_out (in_cycles k set) i) ≡ 1 + requests_where set i (is_shared_out set i)
shared_requests_in k set i =
    λ j. 1 + requests_in k set i (is_shared_out (in_cycles k set) i) (is_shared_out set i) (λ l. shared_out_in k set l i) j

holder_in : (k : ℕ) (set : SetDef) (bounds : ℕ → ℕ) (i x : ℕ) → 0 < k
    → IsRescaledRow k bounds (holder_row set i x) (holder_row (in_cycles k set) i x)
holder_in k set bounds i x some = counted_same k bounds (λ c. (c.task == x) && not (is_class Preemption c.class))
    (λ c. (c.task == x) && not (is_class Preemption c.class)) _ _ some refl
    (requests_in k set i (is_held_there (in_cycles k set) i x) (is_held_there set i x) (λ j. held_there_in k set j i x))

other_holder_in : (k : ℕ) (set : SetDef) (bounds : ℕ → ℕ) (i x q : ℕ) → 0 < k
    → IsRescaledRow k bounds (other_holder_row set i x q) (other_holder_row (in_cycles k set) i x q)
other_holder_in k set bounds i x q some = counted_same k bounds (λ c. ((c.task == x) && (c.resource == q)) && is_class Indirect c.class)
    (λ c. ((c.task == x) && (c.resource == q)) && is_class Indirect c.class) _ _ some refl
    (requests_in k set i (λ r. not (r == q) && is_held_beside (in_cycles k set) i x r) (λ r. not (r == q) && is_held_beside set i x r)
    (λ j r. not (r == q) && held_beside_in k set j i x r))

lower_row_in : (k : ℕ) (set : SetDef) (bounds : ℕ → ℕ) (i x : ℕ) → 0 < k
    → IsRescaledRow k bounds (lower_row set i x) (lower_row (in_cycles k set) i x)
lower_row_in k set bounds i x some = counted_same k bounds (λ c. c.task == x) (λ c. c.task == x) _ _ some refl (shared_requests_in k set i)

pub local_preemption_in : (k : ℕ) (set : SetDef) (bounds : ℕ → ℕ) (i : ℕ) → 0 < k
    → IsRescaledRow k bounds (local_preemption_row set i) (local_preemption_row (in_cycles k set) i)
local_preemption_in k set bounds i some = counted_same k bounds (λ c. is_class Preemption c.class && not (is_shared_out set i c.resource))
    (λ c. is_class Preemption c.class && not (is_shared_out (in_cycles k set) i c.resource)) _ _ some
    (λ j c. is_class Preemption c.class && not (shared_out_in k set j i c.resource)) (shared_requests_in k set i)

local_wait_in : (k : ℕ) (set : SetDef) (bounds : ℕ → ℕ) (i : ℕ) → 0 < k
    → IsRescaledRow k bounds (local_wait_row set i) (local_wait_row (in_cycles k set) i)
local_wait_in k set bounds i some = counted_same k bounds (λ c. is_class Direct c.class && not (is_shared_out set i c.resource))
    (λ c. is_class Direct c.class && not (is_shared_out (in_cycles k set) i c.resource)) (λ b. 0) (λ b. 0) some
    (λ j c. is_class Direct c.class && not (shared_out_in k set j i c.resource)) refl

local_runner_in : (k : ℕ) (set : SetDef) (bounds : ℕ → ℕ) (i : ℕ) → 0 < k
    → IsRescaledRow k bounds (local_runner_row set i) (local_runner_row (in_cycles k set) i)
local_runner_in k set bounds i some = counted_same k bounds (λ c. is_class Indirect c.class && not (is_shared_out set c.task c.resource))
    (λ c. is_class Indirect c.class && not (is_shared_out (in_cycles k set) c.task c.resource)) (λ b. 0) (λ b. 0) some
    (λ j c. is_class Indirect c.class && not (shared_out_in k set j c.task c.resource)) refl

-- The rows of a set, by their kinds.
holders : SetDef → ℕ → List ConstraintDef
holders set i = per (length set.tasks) (holder_row set i)

others : SetDef → ℕ → List ConstraintDef
others set i = per_pair (length set.tasks) (length set.resources) (other_holder_row set i)

lowers : SetDef → ℕ → List ConstraintDef
lowers set i = per_where (is_lower_local set i) (length set.tasks) (lower_row set i)

locals : SetDef → ℕ → List ConstraintDef
locals set i = local_preemption_row set i ∷ local_wait_row set i ∷ local_runner_row set i ∷ []

closer_in : (k : ℕ) (set : SetDef) (bounds : ℕ → ℕ) (i : ℕ) → 0 < k
    → AreRescaled k bounds (closer_rows set i) (closer_rows (in_cycles k set) i)
unfolding holders others lowers locals
closer_in k set bounds i some = appended k bounds (holders set i) (holders cycles i) (others set i ++ (lowers set i ++ locals set i))
    (others cycles i ++ (lowers cycles i ++ locals cycles i))
    (each_per k bounds (length set.tasks) (length cycles.tasks) (holder_row set i) (holder_row cycles i) (tasks_in k set)
    (λ x a. holder_in k set bounds i x some))
    (appended k bounds (others set i) (others cycles i) (lowers set i ++ locals set i) (lowers cycles i ++ locals cycles i)
    (each_pair k bounds (length set.tasks) (length cycles.tasks) (length set.resources) (other_holder_row set i) (other_holder_row cycles i)
    (tasks_in k set) (λ x q a b. other_holder_in k set bounds i x q some))
    (appended k bounds (lowers set i) (lowers cycles i) (locals set i) (locals cycles i)
    (each_where k bounds (is_lower_local set i) (is_lower_local cycles i) (length set.tasks) (length cycles.tasks) (lower_row set i)
    (lower_row cycles i) (λ j. lower_in k set j i) (tasks_in k set) (λ x a. lower_row_in k set bounds i x some))
    (local_preemption_in k set bounds i some, (local_wait_in k set bounds i some, (local_runner_in k set bounds i some, tt))))) where
      cycles : SetDef
      cycles = in_cycles k set

closer_rows_in : (k : ℕ) (set : SetDef) (bounds : ℕ → ℕ) (i : ℕ) → 0 < k
    → AreRescaled k bounds (fmlp_closer_rows set i) (fmlp_closer_rows (in_cycles k set) i)
closer_rows_in k set bounds i some = appended k bounds (rows_of protocol.FmlpPlus set i) (rows_of protocol.FmlpPlus (in_cycles k set) i)
    (closer_rows set i) (closer_rows (in_cycles k set) i) (rows_in protocol.FmlpPlus k set bounds i some) (closer_in k set bounds i some)

pub closer_rescaled : (k : ℕ) (set : SetDef) (bounds : List ℕ) (i : ℕ) → 0 < k
    → IsRescaled k ((fmlp_closer_source set).program i bounds) ((fmlp_closer_source (in_cycles k set)).program i (times_each k bounds))
closer_rescaled k set bounds i some = programs_rescaled k set bounds (columns_of protocol.FmlpPlus set i)
    (columns_of protocol.FmlpPlus (in_cycles k set) i) (fmlp_closer_rows set i) (fmlp_closer_rows (in_cycles k set) i) some
    (columns_scaled protocol.FmlpPlus k set i) (closer_rows_in k set (slice_index bounds) i some)
