-- The rows of spin locks in cycles beside those in ticks, and with them whole programs.
use Rattle.std.proofs.Common.{◌≡◌, ℕ, ◌+◌, ◌<◌, ◌==◌, ◌&&◌, not, List, ◌∷◌, length, refl}
use Rattle.std.specs.Prelude.{slice_index}
use Rattle.number_laws.specs.Sums.{flag}
use Rattle.number_laws.specs.Tests.{any_below}
use Rattle.sporadic_model.specs.SetDef.{SetDef}
use Rattle.blocking_columns.specs.declared.columns.Class.{Class}
use Rattle.blocking_columns.specs.declared.columns.Class.TheVariants as class
use Rattle.blocking_columns.specs.ColumnDef.{is_class}
use Rattle.blocking_columns.specs.Columns.{have_one_processor}
use Rattle.fragments.specs.Constraints.{per_pair}
use Rattle.direct_constraints.specs.Rows.{common_rows}
use Rattle.spin_charging.specs.SpinPrograms.{is_used_beside, blocks_by_spinning, lower_request_row, is_from, is_used_below, spinning_row}
use Rattle.spin_charging.specs.SpinPrograms.{own_spinning_row, spinning_rows, spin_rows, spin_source, spin_columns, higher_requests}
use Rattle.clock_laws.specs.Cycles.{in_cycles, times_each}
use Rattle.clock_laws.proofs.Sets.{tasks_in, processor_in, count_in, users_in, one_processor_in, lower_in}
use Rattle.clock_laws.proofs.Columns.{columns_same}
use Rattle.clock_laws.proofs.Jobs.{fine, higher_requests_in}
use Rattle.clock_laws.proofs.Rescaled.{AreRescaled, IsRescaledRow, counted_same, appended, each_pair}
use Rattle.clock_laws.proofs.BaseRows.{common_in}
use Rattle.clock_laws.proofs.Programs.{IsRescaled, programs_rescaled}

used_beside_in : (k : ℕ) (set : SetDef) → is_used_beside (in_cycles k set) ≡ is_used_beside set
used_beside_in k set =
    λ j i q. any_below (tasks_in k set j) (λ z. (not (z == i) && one_processor_in k set j z i) && users_in k set j q z)

pub spinning_in : (k : ℕ) (set : SetDef) (i x q : ℕ) (c : Class) → blocks_by_spinning (in_cycles k set) i x q c ≡ blocks_by_spinning set i x q c
spinning_in k set i x q class.Direct = λ j. not (one_processor_in k set j x i) && users_in k set j q i
spinning_in k set i x q class.Indirect = λ j. not (one_processor_in k set j x i) && used_beside_in k set j i q
spinning_in k set i x q class.Preemption = λ j. lower_in k set j i x

pub from_in : (k : ℕ) (set : SetDef) → is_from (in_cycles k set) ≡ is_from set
from_in k set = λ j m q c. (processor_in k set c.task j == m) && (c.resource == q)

pub used_below_in : (k : ℕ) (set : SetDef) → is_used_below (in_cycles k set) ≡ is_used_below set
used_below_in k set = λ j i q. any_below (tasks_in k set j) (λ x. lower_in k set j i x && users_in k set j q x)

-- What the higher tasks on i's processor request, and the limit of a row of spinning.
pub higher_in_cycles : (k : ℕ) (set : SetDef) (bounds : ℕ → ℕ) (i q : ℕ) → 0 < k
    → higher_requests (in_cycles k set) (fine k bounds) i q ≡ higher_requests set bounds i q
higher_in_cycles k set bounds i q some = higher_requests_in k set bounds i (λ h. have_one_processor (in_cycles k set) h i)
    (λ h. have_one_processor set h i) q some (λ l h. one_processor_in k set l h i)

pub spinning_limit_in : (k : ℕ) (set : SetDef) (bounds : ℕ → ℕ) (i m q : ℕ) → 0 < k
    → (spinning_row (in_cycles k set) i m q).limit (fine k bounds) ≡ (spinning_row set i m q).limit bounds
spinning_limit_in k set bounds i m q some =
    λ j. count_in k set i q j + (higher_in_cycles k set bounds i q some j + flag (used_below_in k set j i q))

one_spin_in : (k : ℕ) (set : SetDef) (bounds : ℕ → ℕ) (i m q : ℕ) → 0 < k
    → IsRescaledRow k bounds (spinning_row set i m q) (spinning_row (in_cycles k set) i m q)
one_spin_in k set bounds i m q some = counted_same k bounds (λ c. is_from set m q c && not (is_class class.Preemption c.class))
    (λ c. is_from (in_cycles k set) m q c && not (is_class class.Preemption c.class)) _ _ some
    (λ j c. from_in k set j m q c && not (is_class class.Preemption c.class))
    (spinning_limit_in k set bounds i m q some)

pub own_spin_in : (k : ℕ) (set : SetDef) (bounds : ℕ → ℕ) (i m q : ℕ) → 0 < k
    → IsRescaledRow k bounds (own_spinning_row set i m q) (own_spinning_row (in_cycles k set) i m q)
own_spin_in k set bounds i m q some = counted_same k bounds (λ c. is_from set m q c && is_class class.Direct c.class)
    (λ c. is_from (in_cycles k set) m q c && is_class class.Direct c.class) _ _ some
    (λ j c. from_in k set j m q c && is_class class.Direct c.class) (count_in k set i q)

spins_in : (k : ℕ) (set : SetDef) (bounds : ℕ → ℕ) (i : ℕ) → 0 < k
    → AreRescaled k bounds (spinning_rows set i) (spinning_rows (in_cycles k set) i)
spins_in k set bounds i some = appended k bounds
    (per_pair set.processors (length set.resources) (λ m q. spinning_row set i (m + 1) q))
    (per_pair set.processors (length set.resources) (λ m q. spinning_row (in_cycles k set) i (m + 1) q))
    (per_pair set.processors (length set.resources) (λ m q. own_spinning_row set i (m + 1) q))
    (per_pair set.processors (length set.resources) (λ m q. own_spinning_row (in_cycles k set) i (m + 1) q))
    (each_pair k bounds set.processors set.processors (length set.resources) (λ m q. spinning_row set i (m + 1) q)
    (λ m q. spinning_row (in_cycles k set) i (m + 1) q) refl (λ m q a b. one_spin_in k set bounds i (m + 1) q some))
    (each_pair k bounds set.processors set.processors (length set.resources) (λ m q. own_spinning_row set i (m + 1) q)
    (λ m q. own_spinning_row (in_cycles k set) i (m + 1) q) refl (λ m q a b. own_spin_in k set bounds i (m + 1) q some))

spin_rows_in : (k : ℕ) (set : SetDef) (bounds : ℕ → ℕ) (i : ℕ) → 0 < k → AreRescaled k bounds (spin_rows set i) (spin_rows (in_cycles k set) i)
spin_rows_in k set bounds i some = appended k bounds (common_rows set i) (common_rows (in_cycles k set) i)
    (lower_request_row ∷ spinning_rows set i) (lower_request_row ∷ spinning_rows (in_cycles k set) i) (common_in k set bounds i some) (
      counted_same k bounds (λ c. is_class class.Preemption c.class) (λ c. is_class class.Preemption c.class) (λ b. 1) (λ b. 1) some refl refl,
      spins_in k set bounds i some,
    )

pub spin_rescaled : (k : ℕ) (set : SetDef) (bounds : List ℕ) (i : ℕ) → 0 < k
    → IsRescaled k ((spin_source set).program i bounds) ((spin_source (in_cycles k set)).program i (times_each k bounds))
spin_rescaled k set bounds i some = programs_rescaled k set bounds (spin_columns set i) (spin_columns (in_cycles k set) i) (spin_rows set i)
    (spin_rows (in_cycles k set) i) some
    (columns_same k set i (blocks_by_spinning (in_cycles k set) i) (blocks_by_spinning set i) (spinning_in k set i))
    (spin_rows_in k set (slice_index bounds) i some)
