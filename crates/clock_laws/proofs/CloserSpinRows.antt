-- The closer rows of spin locks in cycles beside those in ticks, and with them whole programs.
use Rattle.std.proofs.Common.{◌≡◌, ℕ, ◌+◌, ◌<◌, ◌==◌, ◌&&◌, ◌||◌, not, Bool, nat_lt, nat_le, List, ◌∷◌, ◌++◌, length, refl}
use Rattle.std.proofs.Common.{if◌then◌else◌}
use Rattle.std.specs.Prelude.{slice_index}
use Rattle.number_laws.specs.Sums.{sum_below, only_if}
use Rattle.number_laws.specs.Tests.{any_below, count_below}
use Rattle.sporadic_model.specs.SetDef.{SetDef}
use Rattle.blocking_columns.specs.declared.columns.Class.TheVariants as class
use Rattle.blocking_columns.specs.ColumnDef.{is_class}
use Rattle.fragments.specs.Constraints.{ConstraintDef, per, per_pair}
use Rattle.direct_constraints.specs.Rows.{common_rows}
use Rattle.spin_charging.specs.SpinPrograms.{blocks_by_spinning, lower_request_row, is_from, own_spinning_row, spin_columns}
use Rattle.closer_spin_laws.specs.CloserSpinRows.{is_used_on, is_used_above, is_spun_below, is_spun_above, is_lone, are_many, are_many_spun, is_left_out}
use Rattle.closer_spin_laws.specs.CloserSpinRows.{is_in_place, are_few_above, is_set_apart, is_spun_beside, is_spun_with, is_of_slot, used_above}
use Rattle.closer_spin_laws.specs.CloserSpinRows.{closer_spinning_row, together_row, lower_spinning_row, other_lower_spinning_row}
use Rattle.closer_spin_laws.specs.CloserSpinRows.{lone_spinning_with_row, lone_spinning_row, closer_spinning_rows, own_spinning_rows}
use Rattle.closer_spin_laws.specs.CloserSpinRows.{together_rows, lone_spinning_rows, spin_closer_rows, spin_closer_source}
use Rattle.clock_laws.specs.Cycles.{in_cycles, times_each}
use Rattle.clock_laws.proofs.Sets.{tasks_in, processor_in, count_in, users_in}
use Rattle.clock_laws.proofs.Columns.{columns_same}
use Rattle.clock_laws.proofs.Rescaled.{AreRescaled, IsRescaledRow, counted_same, appended, each_per, each_pair}
use Rattle.clock_laws.proofs.BaseRows.{common_in}
use Rattle.clock_laws.proofs.Programs.{IsRescaled, programs_rescaled}
use Rattle.clock_laws.proofs.SpinRows.{from_in, used_below_in, spinning_in, higher_in_cycles, spinning_limit_in, own_spin_in}

used_on_in : (k : ℕ) (set : SetDef) → is_used_on (in_cycles k set) ≡ is_used_on set
used_on_in k set = λ j m q. any_below (tasks_in k set j) (λ x. (processor_in k set x j == m) && users_in k set j q x)

spun_below_in : (k : ℕ) (set : SetDef) → is_spun_below (in_cycles k set) ≡ is_spun_below set
spun_below_in k set = λ j i m q. (not (m == processor_in k set i j) && used_on_in k set j m q) && used_below_in k set j i q

above_in : (k : ℕ) (set : SetDef) → is_used_above (in_cycles k set) ≡ is_used_above set
above_in k set = λ j i q. any_below (tasks_in k set j) (λ h.
    (nat_le h i && (processor_in k set h j == processor_in k set i j)) && users_in k set j q h)

spun_above_in : (k : ℕ) (set : SetDef) → is_spun_above (in_cycles k set) ≡ is_spun_above set
spun_above_in k set = λ j i m q. spun_below_in k set j i m q && above_in k set j i q

lone_in : (k : ℕ) (set : SetDef) → is_lone (in_cycles k set) ≡ is_lone set
lone_in k set = λ j i m q. spun_below_in k set j i m q && not (above_in k set j i q)

spun_with_in : (k : ℕ) (set : SetDef) → is_spun_with (in_cycles k set) ≡ is_spun_with set
spun_with_in k set = λ j i m q r. spun_above_in k set j i m q && ((r == q) || lone_in k set j i m r)

many_spun_in : (k : ℕ) (set : SetDef) → are_many_spun (in_cycles k set) ≡ are_many_spun set
many_spun_in k set = λ j i m. are_many (count_below (length set.resources) (spun_below_in k set j i m))

left_out_in : (k : ℕ) (set : SetDef) → is_left_out (in_cycles k set) ≡ is_left_out set
left_out_in k set = λ j i m q. lone_in k set j i m q
    && (many_spun_in k set j i m && nat_lt 1 (count_below (length set.resources) (lone_in k set j i m)))

used_above_count_in : (k : ℕ) (set : SetDef) → used_above (in_cycles k set) ≡ used_above set
used_above_count_in k set = λ j i m. count_below (length set.resources) (spun_above_in k set j i m)

few_above_in : (k : ℕ) (set : SetDef) → are_few_above (in_cycles k set) ≡ are_few_above set
few_above_in k set = λ j i m. nat_lt 1 (used_above_count_in k set j i m) && not (are_many (used_above_count_in k set j i m))

apart_in : (k : ℕ) (set : SetDef) → is_set_apart (in_cycles k set) ≡ is_set_apart set
apart_in k set = λ j i m q. (spun_above_in k set j i m q && few_above_in k set j i m)
    || (lone_in k set j i m q && not (many_spun_in k set j i m))

spun_beside_in : (k : ℕ) (set : SetDef) → is_spun_beside (in_cycles k set) ≡ is_spun_beside set
spun_beside_in k set = λ j i m q r. apart_in k set j i m q && (spun_below_in k set j i m r && not (r == q))

closer_spin_in : (k : ℕ) (set : SetDef) (bounds : ℕ → ℕ) (i m q : ℕ) → 0 < k
    → IsRescaledRow k bounds (closer_spinning_row set i m q) (closer_spinning_row (in_cycles k set) i m q)
closer_spin_in k set bounds i m q some = counted_same k bounds
    (λ c. not (is_left_out set i m q) && is_in_place set i m q c)
    (λ c. not (is_left_out (in_cycles k set) i m q) && is_in_place (in_cycles k set) i m q c)
    _ _ some
    (λ j c. not (left_out_in k set j i m q)
    && (if is_class class.Preemption c.class then spun_below_in k set j i m q && not (c.resource == q) else from_in k set j m q c))
    (spinning_limit_in k set bounds i m q some)

together_in : (k : ℕ) (set : SetDef) (bounds : ℕ → ℕ) (i m least : ℕ) (passes fine_passes : ℕ → Bool) → 0 < k → fine_passes ≡ passes
    → IsRescaledRow k bounds (together_row set i m least passes) (together_row (in_cycles k set) i m least fine_passes)
together_in k set bounds i m least passes fine_passes some same = counted_same k bounds
    (λ c. (nat_lt 1 (count_below (length set.resources) passes) && nat_le least (used_above set i m)) && is_of_slot set m passes c)
    (λ c. (nat_lt 1 (count_below (length set.resources) fine_passes) && nat_le least (used_above (in_cycles k set) i m))
    && is_of_slot (in_cycles k set) m fine_passes c) _ _ some
    (λ j c. (nat_lt 1 (count_below (length set.resources) (same j)) && nat_le least (used_above_count_in k set j i m))
    && (if is_class class.Preemption c.class then not (same j c.resource) else ((processor_in k set c.task j == m) && same j c.resource)))
    (λ j. 1 + sum_below (length set.resources) (λ q. only_if (same j q) (count_in k set i q j + higher_in_cycles k set bounds i q some j)))

all_together_in : (k : ℕ) (set : SetDef) (bounds : ℕ → ℕ) (i : ℕ) → 0 < k
    → AreRescaled k bounds (together_rows set i) (together_rows (in_cycles k set) i)
all_together_in k set bounds i some = appended k bounds
    (per set.processors (λ m. lower_spinning_row set i (m + 1)))
    (per set.processors (λ m. lower_spinning_row (in_cycles k set) i (m + 1)))
    (others set ++ with_one set) (others (in_cycles k set) ++ with_one (in_cycles k set))
    (each_per k bounds set.processors set.processors (λ m. lower_spinning_row set i (m + 1))
    (λ m. lower_spinning_row (in_cycles k set) i (m + 1)) refl
    (λ m a. together_in k set bounds i (m + 1) 1 (is_spun_below set i (m + 1)) (is_spun_below (in_cycles k set) i (m + 1)) some
    (λ j. spun_below_in k set j i (m + 1))))
    (appended k bounds (others set) (others (in_cycles k set)) (with_one set) (with_one (in_cycles k set))
    (each_pair k bounds set.processors set.processors (length set.resources) (λ m q. other_lower_spinning_row set i (m + 1) q)
    (λ m q. other_lower_spinning_row (in_cycles k set) i (m + 1) q) refl
    (λ m q a b. together_in k set bounds i (m + 1) 0 (is_spun_beside set i (m + 1) q) (is_spun_beside (in_cycles k set) i (m + 1) q) some
    (λ j. spun_beside_in k set j i (m + 1) q)))
    (each_pair k bounds set.processors set.processors (length set.resources) (λ m q. lone_spinning_with_row set i (m + 1) q)
    (λ m q. lone_spinning_with_row (in_cycles k set) i (m + 1) q) refl
    (λ m q a b. together_in k set bounds i (m + 1) 3 (is_spun_with set i (m + 1) q) (is_spun_with (in_cycles k set) i (m + 1) q) some
    (λ j. spun_with_in k set j i (m + 1) q)))) where
      others : SetDef → List ConstraintDef
      others s = per_pair set.processors (length set.resources) (λ m q. other_lower_spinning_row s i (m + 1) q)

      with_one : SetDef → List ConstraintDef
      with_one s = per_pair set.processors (length set.resources) (λ m q. lone_spinning_with_row s i (m + 1) q)

last_in : (k : ℕ) (set : SetDef) (bounds : ℕ → ℕ) (i : ℕ) → 0 < k
    → AreRescaled k bounds (lone_spinning_rows set i ++ closer_spinning_rows set i)
    (lone_spinning_rows (in_cycles k set) i ++ closer_spinning_rows (in_cycles k set) i)
last_in k set bounds i some = appended k bounds (lone_spinning_rows set i) (lone_spinning_rows (in_cycles k set) i)
    (closer_spinning_rows set i) (closer_spinning_rows (in_cycles k set) i)
    (each_per k bounds set.processors set.processors (λ m. lone_spinning_row set i (m + 1))
    (λ m. lone_spinning_row (in_cycles k set) i (m + 1)) refl
    (λ m a. together_in k set bounds i (m + 1) 0 (is_lone set i (m + 1)) (is_lone (in_cycles k set) i (m + 1)) some
    (λ j. lone_in k set j i (m + 1))))
    (each_pair k bounds set.processors set.processors (length set.resources) (λ m q. closer_spinning_row set i (m + 1) q)
    (λ m q. closer_spinning_row (in_cycles k set) i (m + 1) q) refl (λ m q a b. closer_spin_in k set bounds i (m + 1) q some))

-- What stands behind the rows of own spinning.
abbrev further_of : SetDef → ℕ → List ConstraintDef
further_of set i = together_rows set i ++ (lone_spinning_rows set i ++ closer_spinning_rows set i)

own_in : (k : ℕ) (set : SetDef) (bounds : ℕ → ℕ) (i : ℕ) → 0 < k
    → AreRescaled k bounds (own_spinning_rows set i ++ further_of set i)
    (own_spinning_rows (in_cycles k set) i ++ further_of (in_cycles k set) i)
own_in k set bounds i some = appended k bounds (own_spinning_rows set i) (own_spinning_rows (in_cycles k set) i) (further_of set i)
    (further_of (in_cycles k set) i)
    (each_pair k bounds set.processors set.processors (length set.resources) (λ m q. own_spinning_row set i (m + 1) q)
    (λ m q. own_spinning_row (in_cycles k set) i (m + 1) q) refl (λ m q a b. own_spin_in k set bounds i (m + 1) q some))
    (appended k bounds (together_rows set i) (together_rows (in_cycles k set) i) (lone_spinning_rows set i ++ closer_spinning_rows set i)
    (lone_spinning_rows (in_cycles k set) i ++ closer_spinning_rows (in_cycles k set) i) (all_together_in k set bounds i some)
    (last_in k set bounds i some))

closer_rows_in : (k : ℕ) (set : SetDef) (bounds : ℕ → ℕ) (i : ℕ) → 0 < k
    → AreRescaled k bounds (spin_closer_rows set i) (spin_closer_rows (in_cycles k set) i)
closer_rows_in k set bounds i some = appended k bounds (common_rows set i) (common_rows (in_cycles k set) i)
    (lower_request_row ∷ (own_spinning_rows set i ++ further_of set i))
    (lower_request_row ∷ (own_spinning_rows (in_cycles k set) i ++ further_of (in_cycles k set) i)) (common_in k set bounds i some) (
      counted_same k bounds (λ c. is_class class.Preemption c.class) (λ c. is_class class.Preemption c.class) (λ b. 1) (λ b. 1) some refl refl,
      own_in k set bounds i some,
    )

pub spin_closer_rescaled : (k : ℕ) (set : SetDef) (bounds : List ℕ) (i : ℕ) → 0 < k
    → IsRescaled k ((spin_closer_source set).program i bounds) ((spin_closer_source (in_cycles k set)).program i (times_each k bounds))
spin_closer_rescaled k set bounds i some = programs_rescaled k set bounds (spin_columns set i) (spin_columns (in_cycles k set) i)
    (spin_closer_rows set i) (spin_closer_rows (in_cycles k set) i) some
    (columns_same k set i (blocks_by_spinning (in_cycles k set) i) (blocks_by_spinning set i) (spinning_in k set i))
    (closer_rows_in k set (slice_index bounds) i some)
