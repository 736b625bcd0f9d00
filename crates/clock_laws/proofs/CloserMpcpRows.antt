-- The closer rows of MPCP in cycles beside those in ticks, and with them whole programs. Where higher tasks hold no more, the limit of a row
-- of shared holdings is no greater, and neither is that of a row of waits. The others depend on numbers of ticks only by how many jobs
-- can run, and stay.
use Rattle.std.proofs.Common.{◌≡◌, ℕ, ◌+◌, ◌<◌, ◌≤◌, ◌==◌, ◌&&◌, not, nat_lt, Bool, List, [], ◌∷◌, ◌++◌, length, refl, arith}
use Rattle.std.specs.Prelude.{slice_index}
use Rattle.number_laws.specs.Sums.{sum_below, only_if}
use Rattle.number_laws.specs.Tests.{any_below}
use Rattle.sporadic_model.specs.SetDef.{SetDef}
use Rattle.sporadic_model.specs.declared.ids.Protocol.TheVariants as protocol
use Rattle.blocking_columns.specs.declared.columns.Class.TheVariants.{Direct, Indirect, Preemption}
use Rattle.blocking_columns.specs.ColumnDef.{is_class}
use Rattle.blocking_columns.specs.Columns.{is_lower_local, columns_of}
use Rattle.fragments.specs.Constraints.{ConstraintDef, per, per_pair, per_where}
use Rattle.direct_constraints.specs.Rows.{lower_holder_row, common_rows}
use Rattle.closer_laws.specs.CloserRows.{local_preemption_row}
use Rattle.closer_mpcp_laws.specs.CloserMpcpRows.{goes_first, goes_before, shared_holdings, is_away, has_lower_away, away_holdings}
use Rattle.closer_mpcp_laws.specs.CloserMpcpRows.{shared_holding_row, resource_holding_row, away_row, shared_interval_row, lower_wait_row}
use Rattle.closer_mpcp_laws.specs.CloserMpcpRows.{further_rows}
use Rattle.closer_mpcp_laws.proofs.FurtherRows.{shared_holdings_rise}
use Rattle.mpcp_window_laws.specs.WaitRows.{direct_wait_row, wait_rows, held_in_waits, mpcp_closer_rows, mpcp_closer_source}
use Rattle.clock_laws.specs.Cycles.{in_cycles, times_each}
use Rattle.clock_laws.proofs.Sets.{tasks_in, count_in, users_in, one_processor_in, lower_in}
use Rattle.clock_laws.proofs.Columns.{columns_scaled}
use Rattle.clock_laws.proofs.Jobs.{fine, higher_requests_in}
use Rattle.clock_laws.proofs.Rescaled.{AreRescaled, IsRescaledRow, counted, counted_same, appended, each_per, each_pair, each_where}
use Rattle.clock_laws.proofs.BaseRows.{common_in, lower_holders_in, lower_holdings_in}
use Rattle.clock_laws.proofs.CloserRows.{shared_out_in, held_there_in, shared_requests_in, local_preemption_in}
use Rattle.clock_laws.proofs.WaitWindows.{first_in, waits_fine, held_fine}
use Rattle.clock_laws.proofs.Programs.{IsRescaled, programs_rescaled}

before_in : (k : ℕ) (set : SetDef) → goes_before (in_cycles k set) ≡ goes_before set
before_in k set = λ j x r. any_below (length set.resources) (λ q. users_in k set j q x && first_in k set j x q r)

-- In cycles higher tasks hold no more.
abbrev HoldNoMore : ℕ → (ℕ → ℕ) → (held fine_held : (ℕ → ℕ) → ℕ → ℕ → ℕ) → Type 0
HoldNoMore k bounds held fine_held = (x r : ℕ) → fine_held (fine k bounds) x r ≤ held bounds x r

shared_holdings_in : (k : ℕ) (set : SetDef) (higher fine_higher : ℕ → ℕ) (i x : ℕ) (test fine_test : ℕ → Bool) → fine_test ≡ test
    → ((r : ℕ) → fine_higher r ≤ higher r)
    → shared_holdings (in_cycles k set) fine_higher i x fine_test ≤ shared_holdings set higher i x test
shared_holdings_in k set higher fine_higher i x test fine_test same most =
    let in_ticks : shared_holdings (in_cycles k set) fine_higher i x fine_test ≡ shared_holdings set fine_higher i x test =
    λ j. sum_below (length set.resources) (λ r. only_if
    (users_in k set j r i && (shared_out_in k set j i r && same j r))
    (fine_higher r + only_if (not (one_processor_in k set j x i)) (lower_holdings_in k set i x r j))) in
    omega (arith, in_ticks, shared_holdings_rise set i x test fine_higher higher (λ r l. most r))

holding_in : (k : ℕ) (set : SetDef) (bounds : ℕ → ℕ) (held fine_held : (ℕ → ℕ) → ℕ → ℕ → ℕ) (i x : ℕ) → 0 < k
    → HoldNoMore k bounds held fine_held
    → IsRescaledRow k bounds (shared_holding_row set held i x) (shared_holding_row (in_cycles k set) fine_held i x)
holding_in k set bounds held fine_held i x some most = counted k bounds (λ c. (c.task == x) && is_class Indirect c.class)
    (λ c. (c.task == x) && is_class Indirect c.class) _ _ some refl
    (shared_holdings_in k set (held bounds x) (fine_held (fine k bounds) x) i x (goes_before set x) (goes_before (in_cycles k set) x)
    (λ j. before_in k set j x) (most x))

resource_in : (k : ℕ) (set : SetDef) (bounds : ℕ → ℕ) (held fine_held : (ℕ → ℕ) → ℕ → ℕ → ℕ) (i x q : ℕ) → 0 < k
    → HoldNoMore k bounds held fine_held
    → IsRescaledRow k bounds (resource_holding_row set held i x q) (resource_holding_row (in_cycles k set) fine_held i x q)
resource_in k set bounds held fine_held i x q some most =
    counted k bounds (λ c. ((c.task == x) && (c.resource == q)) && is_class Indirect c.class)
    (λ c. ((c.task == x) && (c.resource == q)) && is_class Indirect c.class) _ _ some refl
    (shared_holdings_in k set (held bounds x) (fine_held (fine k bounds) x) i x (goes_first set x q) (goes_first (in_cycles k set) x q)
    (λ j. first_in k set j x q) (most x))

away_in : (k : ℕ) (set : SetDef) → is_away (in_cycles k set) ≡ is_away set
away_in k set = λ j x y. not (one_processor_in k set j y x)

lower_away_in : (k : ℕ) (set : SetDef) → has_lower_away (in_cycles k set) ≡ has_lower_away set
lower_away_in k set = λ j i x r. any_below (tasks_in k set j)
    (λ y. nat_lt i y && ((away_in k set j x y && away_in k set j i y) && users_in k set j r y))

away_holdings_in : (k : ℕ) (set : SetDef) (bounds : ℕ → ℕ) (i x r : ℕ) → 0 < k
    → away_holdings (in_cycles k set) (fine k bounds) i x r ≡ away_holdings set bounds i x r
away_holdings_in k set bounds i x r some =
    λ j. higher_requests_in k set bounds i (is_away (in_cycles k set) x) (is_away set x) r some (λ l. away_in k set l x) j
    + only_if (lower_away_in k set j i x r) (count_in k set i r j)

away_row_in : (k : ℕ) (set : SetDef) (bounds : ℕ → ℕ) (i x : ℕ) → 0 < k
    → IsRescaledRow k bounds (away_row set i x) (away_row (in_cycles k set) i x)
away_row_in k set bounds i x some = counted_same k bounds (λ c. (c.task == x) && not (is_class Preemption c.class))
    (λ c. (c.task == x) && not (is_class Preemption c.class)) _ _ some refl
    (λ j. sum_below (length set.resources) (λ r. only_if (users_in k set j r i && held_there_in k set j i x r)
    (count_in k set i r j + away_holdings_in k set bounds i x r some j)))

interval_in : (k : ℕ) (set : SetDef) (bounds : ℕ → ℕ) (i x : ℕ) → 0 < k
    → IsRescaledRow k bounds (shared_interval_row set i x) (shared_interval_row (in_cycles k set) i x)
interval_in k set bounds i x some = counted_same k bounds (λ c. (c.task == x) && is_class Preemption c.class)
    (λ c. (c.task == x) && is_class Preemption c.class) _ _ some refl (shared_requests_in k set i)

lower_wait_in : (k : ℕ) (set : SetDef) (bounds : ℕ → ℕ) (i : ℕ) → 0 < k
    → IsRescaledRow k bounds (lower_wait_row set i) (lower_wait_row (in_cycles k set) i)
lower_wait_in k set bounds i some = counted_same k bounds (λ c. is_class Direct c.class && is_lower_local set i c.task)
    (λ c. is_class Direct c.class && is_lower_local (in_cycles k set) i c.task) (λ b. 0) (λ b. 0) some
    (λ j c. is_class Direct c.class && lower_in k set j i c.task) refl

-- The rows of a set, by their kinds.
of_tasks : SetDef → ((ℕ → ℕ) → ℕ → ℕ → ℕ) → ℕ → List ConstraintDef
of_tasks set held i = per (length set.tasks) (shared_holding_row set held i)

of_resources : SetDef → ((ℕ → ℕ) → ℕ → ℕ → ℕ) → ℕ → List ConstraintDef
of_resources set held i = per_pair (length set.tasks) (length set.resources) (resource_holding_row set held i)

aways : SetDef → ℕ → List ConstraintDef
aways set i = per (length set.tasks) (away_row set i)

intervals : SetDef → ℕ → List ConstraintDef
intervals set i = per_where (is_lower_local set i) (length set.tasks) (shared_interval_row set i)

singles : SetDef → ℕ → List ConstraintDef
singles set i = local_preemption_row set i ∷ lower_wait_row set i ∷ []

further_in : (k : ℕ) (set : SetDef) (bounds : ℕ → ℕ) (held fine_held : (ℕ → ℕ) → ℕ → ℕ → ℕ) (i : ℕ) → 0 < k
    → HoldNoMore k bounds held fine_held
    → AreRescaled k bounds (further_rows set held i) (further_rows (in_cycles k set) fine_held i)
unfolding of_tasks of_resources aways intervals singles
further_in k set bounds held fine_held i some most =
    appended k bounds (of_tasks set held i) (of_tasks cycles fine_held i)
    (of_resources set held i ++ (aways set i ++ (intervals set i ++ singles set i)))
    (of_resources cycles fine_held i ++ (aways cycles i ++ (intervals cycles i ++ singles cycles i)))
    (each_per k bounds (length set.tasks) (length cycles.tasks) (shared_holding_row set held i) (shared_holding_row cycles fine_held i)
    (tasks_in k set) (λ x a. holding_in k set bounds held fine_held i x some most))
    (appended k bounds (of_resources set held i) (of_resources cycles fine_held i) (aways set i ++ (intervals set i ++ singles set i))
    (aways cycles i ++ (intervals cycles i ++ singles cycles i))
    (each_pair k bounds (length set.tasks) (length cycles.tasks) (length set.resources) (resource_holding_row set held i)
    (resource_holding_row cycles fine_held i) (tasks_in k set) (λ x q a b. resource_in k set bounds held fine_held i x q some most))
    (appended k bounds (aways set i) (aways cycles i) (intervals set i ++ singles set i) (intervals cycles i ++ singles cycles i)
    (each_per k bounds (length set.tasks) (length cycles.tasks) (away_row set i) (away_row cycles i) (tasks_in k set)
    (λ x a. away_row_in k set bounds i x some))
    (appended k bounds (intervals set i) (intervals cycles i) (singles set i) (singles cycles i)
    (each_where k bounds (is_lower_local set i) (is_lower_local cycles i) (length set.tasks) (length cycles.tasks)
    (shared_interval_row set i) (shared_interval_row cycles i) (λ j. lower_in k set j i) (tasks_in k set)
    (λ x a. interval_in k set bounds i x some))
    (local_preemption_in k set bounds i some, (lower_wait_in k set bounds i some, tt))))) where
      cycles : SetDef
      cycles = in_cycles k set

wait_rows_in : (k : ℕ) (set : SetDef) (bounds : ℕ → ℕ) (i : ℕ) → 0 < k
    → AreRescaled k bounds (wait_rows set i) (wait_rows (in_cycles k set) i)
wait_rows_in k set bounds i some = each_pair k bounds i i (length set.resources) (direct_wait_row set i) (direct_wait_row (in_cycles k set) i)
    refl (λ x q a b. counted k bounds (λ c. ((c.task == x) && (c.resource == q)) && is_class Direct c.class)
    (λ c. ((c.task == x) && (c.resource == q)) && is_class Direct c.class) _ _ some refl (waits_fine k set bounds i q x q some))

closer_rows_in : (k : ℕ) (set : SetDef) (bounds : ℕ → ℕ) (i : ℕ) → 0 < k
    → AreRescaled k bounds (mpcp_closer_rows set i) (mpcp_closer_rows (in_cycles k set) i)
closer_rows_in k set bounds i some =
    appended k bounds (common_rows set i) (common_rows cycles i)
    (per (length set.resources) (lower_holder_row set i) ++ (further_rows set (held_in_waits set i) i ++ wait_rows set i))
    (per (length cycles.resources) (lower_holder_row cycles i) ++ (further_rows cycles (held_in_waits cycles i) i ++ wait_rows cycles i))
    (common_in k set bounds i some)
    (appended k bounds (per (length set.resources) (lower_holder_row set i))
    (per (length cycles.resources) (lower_holder_row cycles i))
    (further_rows set (held_in_waits set i) i ++ wait_rows set i) (further_rows cycles (held_in_waits cycles i) i ++ wait_rows cycles i)
    (lower_holders_in k set bounds i some)
    (appended k bounds (further_rows set (held_in_waits set i) i) (further_rows cycles (held_in_waits cycles i) i) (wait_rows set i)
    (wait_rows cycles i)
    (further_in k set bounds (held_in_waits set i) (held_in_waits cycles i) i some (λ x r. held_fine k set bounds i x r some))
    (wait_rows_in k set bounds i some))) where
      cycles : SetDef
      cycles = in_cycles k set

pub closer_mpcp_rescaled : (k : ℕ) (set : SetDef) (bounds : List ℕ) (i : ℕ) → 0 < k
    → IsRescaled k ((mpcp_closer_source set).program i bounds) ((mpcp_closer_source (in_cycles k set)).program i (times_each k bounds))
closer_mpcp_rescaled k set bounds i some = programs_rescaled k set bounds (columns_of protocol.Mpcp set i)
    (columns_of protocol.Mpcp (in_cycles k set) i) (mpcp_closer_rows set i) (mpcp_closer_rows (in_cycles k set) i) some
    (columns_scaled protocol.Mpcp k set i) (closer_rows_in k set (slice_index bounds) i some)
