-- The window of a request under DPCP in cycles. A window k times as long as the one in ticks is enough, so no more requests run within
-- it. So each row of windows is rescaled, with a limit that is no greater.
use Rattle.std.proofs.Common.{◌≡◌, ◌∙◌, ℕ, suc, ◌+◌, ◌*◌, ◌<◌, ◌≤◌, ◌==◌, ◌&&◌, not, List, length, false, refl}
use Rattle.std.proofs.Common.{arith, inl, inr, nat_lt, nat_le, Some}
use Rattle.std.specs.Prelude.{slice_index}
use Rattle.std.proofs.Math.Nat.{mul-le-mul_left}
use Rattle.std.proofs.lemmas.Bool.{cases_Bool}
use Rattle.number_laws.specs.Sums.{sum_below, only_if}
use Rattle.number_laws.proofs.SumLaws.{sum_below-times, sum_below-monotone}
use Rattle.number_laws.proofs.OnlyIfLaws.{only_if-rises}
use Rattle.sporadic_model.specs.SetDef.{SetDef, task_at}
use Rattle.sporadic_model.specs.Users.{count_of, length_of}
use Rattle.sporadic_model.specs.Homes.{home_in}
use Rattle.sporadic_model.specs.declared.ids.Protocol.TheVariants as protocol
use Rattle.schedule_model.specs.Measures.{greatest_below}
use Rattle.blocking_columns.specs.declared.columns.Class.TheVariants.{Preemption}
use Rattle.blocking_columns.specs.ColumnDef.{is_class}
use Rattle.blocking_columns.specs.Columns.{columns_of}
use Rattle.fragments.specs.Constraints.{per_pair}
use Rattle.blocking_columns.specs.Windows.{jobs_during, requests_in}
use Rattle.program_laws.specs.Programs.{rows_of}
use Rattle.window_laws.specs.Windows.{time_at, may_hold_up, longest_lower, ticks_there, ticks_by, is_enough, window_of}
use Rattle.window_laws.specs.WindowRows.{meets_there, requests_met, requests_there, lacks_window, window_row, windowed_rows, windowed_source}
use Rattle.window_laws.proofs.Least.{Found}
use Rattle.window_laws.proofs.Rising.{window_there, lacking}
use Rattle.clock_laws.specs.Cycles.{in_cycles, times_each}
use Rattle.clock_laws.proofs.Scaled.{swapped, greatest_times, greatest_of_times, sum_of_times}
use Rattle.clock_laws.proofs.Sets.{tasks_in, count_in, length_in, request_ticks_in, users_in, rank_in}
use Rattle.clock_laws.proofs.Columns.{columns_scaled}
use Rattle.clock_laws.proofs.Jobs.{fine, jobs_in_cycles, requests_in_cycles}
use Rattle.clock_laws.proofs.Rescaled.{AreRescaled, counted, appended, each_pair}
use Rattle.clock_laws.proofs.BaseRows.{rows_in}
use Rattle.clock_laws.proofs.FineWindows.{fine_least, fewer_in_cycles}
use Rattle.clock_laws.proofs.Programs.{IsRescaled, programs_rescaled}

time_in : (k : ℕ) (set : SetDef) (x m : ℕ) → time_at (in_cycles k set) x m ≡ k * time_at set x m
time_in k set x m = (λ j. sum_below (length set.resources) (λ q. only_if (home_in set q == m) (request_ticks_in k set x q j)))
    ∙ sum_of_times k (length set.resources) (λ q. home_in set q == m) (λ q. count_of set x q * length_of set x q)

holds_up_in : (k : ℕ) (set : SetDef) → may_hold_up (in_cycles k set) ≡ may_hold_up set
holds_up_in k set =
    λ j i m x q. nat_lt i x && ((home_in set q == m) && (users_in k set j q x && nat_le (rank_in k set j q) i))

longest_in : (k : ℕ) (set : SetDef) (i m : ℕ) → longest_lower (in_cycles k set) i m ≡ k * longest_lower set i m
longest_in k set i m = (λ j. greatest_below (tasks_in k set j) (λ x. by_task x j))
    ∙ greatest_times k (length set.tasks) (λ x. greatest_below (length set.resources) (one x)) where
      one : ℕ → ℕ → ℕ
      one x q = only_if (may_hold_up set i m x q) (length_of set x q)

      by_task : (x : ℕ) → greatest_below (length set.resources) (λ q. only_if (may_hold_up (in_cycles k set) i m x q) (length_of (in_cycles k set) x q))
          ≡ k * greatest_below (length set.resources) (one x)
      by_task x = (λ j. greatest_below (length set.resources) (λ q. only_if (holds_up_in k set j i m x q) (length_in k set x q j)))
          ∙ greatest_of_times k (length set.resources) (may_hold_up set i m x) (length_of set x)

-- In a window with k times as many cycles, requests may take k times as many of them.
there_in : (k : ℕ) (set : SetDef) (bounds : ℕ → ℕ) (i q w : ℕ) → 0 < k
    → ticks_there (in_cycles k set) (fine k bounds) i q (k * w) ≡ k * ticks_there set bounds i q w
there_in k set bounds i q w some =
    (λ j. length_in k set i q j + longest_in k set i (home_in set q) j + sum_below i (λ x. each x j))
    ∙ ((λ j. k * length_of set i q + k * longest_lower set i (home_in set q) + sum_below-times i k (ticks_by set bounds (home_in set q) w) j)
    ∙ together (length_of set i q) (longest_lower set i (home_in set q)) (sum_below i (ticks_by set bounds (home_in set q) w))) where
      together : (a b c : ℕ) → k * a + k * b + k * c ≡ k * (a + b + c)
      together a b c = omega arith

      each : (x : ℕ) → jobs_during (in_cycles k set) (fine k bounds) (k * w) x * time_at (in_cycles k set) x (home_in set q)
          ≡ k * ticks_by set bounds (home_in set q) w x
      each x = (λ j. jobs_in_cycles k set bounds w x some j * time_in k set x (home_in set q) j)
          ∙ swapped k (jobs_during set bounds w x) (time_at set x (home_in set q))

-- So a request that has a window in ticks has one in cycles, which is at most k times as long.
fine_window : (k : ℕ) (set : SetDef) (bounds : ℕ → ℕ) (i q w : ℕ) → 0 < k → window_of set bounds i q ≡ Some w
    → Found (suc (task_at (in_cycles k set) i).deadline) (is_enough (in_cycles k set) (fine k bounds) i q) (k * w)
fine_window k set bounds i q w some e =
    fine_least k set i w (ticks_there set bounds i q) (ticks_there (in_cycles k set) (fine k bounds) i q) some
    (there_in k set bounds i q w some) e

-- No more requests run within it.
within_fine : (k : ℕ) (set : SetDef) (bounds : ℕ → ℕ) (i x p q w : ℕ) → 0 < k → window_of set bounds i q ≡ Some w
    → requests_there (in_cycles k set) (fine k bounds) i x p q ≤ requests_there set bounds i x p q
within_fine k set bounds i x p q w some e =
    let low : Found (suc (task_at (in_cycles k set) i).deadline) (is_enough (in_cycles k set) (fine k bounds) i q) (k * w) =
    fine_window k set bounds i q w some e in
    let lesser : window_of (in_cycles k set) (fine k bounds) i q ≡ Some low.least = low.is_it in
    rw (e, lesser) (fewer_in_cycles k set bounds low.least w x p some low.at_most)

met_fine : (k : ℕ) (set : SetDef) (bounds : ℕ → ℕ) (i x p : ℕ) → 0 < k → lacks_window set bounds i p ≡ false
    → requests_met (in_cycles k set) (fine k bounds) i x p ≤ requests_met set bounds i x p
met_fine k set bounds i x p some none =
    let same : requests_met (in_cycles k set) (fine k bounds) i x p
    ≡ sum_below (length set.resources) (λ q. only_if (meets_there set i p q) (count_of set i q * requests_there (in_cycles k set) (fine k bounds) i x p q)) =
    λ j. sum_below (length set.resources) (λ q. only_if (users_in k set j q i && (home_in set q == home_in set p))
    (count_in k set i q j * requests_there (in_cycles k set) (fine k bounds) i x p q)) in
    let most : sum_below (length set.resources) (λ q. only_if (meets_there set i p q) (count_of set i q * requests_there (in_cycles k set) (fine k bounds) i x p q))
    ≤ requests_met set bounds i x p =
    sum_below-monotone (length set.resources)
    (λ q. only_if (meets_there set i p q) (count_of set i q * requests_there (in_cycles k set) (fine k bounds) i x p q))
    (λ q. only_if (meets_there set i p q) (count_of set i q * requests_there set bounds i x p q))
    (λ q b. only_if-rises (meets_there set i p q) (count_of set i q * requests_there (in_cycles k set) (fine k bounds) i x p q)
    (count_of set i q * requests_there set bounds i x p q) (λ meets.
    let at : (w : ℕ) × (window_of set bounds i q ≡ Some w) = window_there set bounds i p q b none meets in
    mul-le-mul_left (count_of set i q) (within_fine k set bounds i x p q at.0 some at.1))) in
    omega (arith, same, most)

pub window_limit_fine : (k : ℕ) (set : SetDef) (bounds : ℕ → ℕ) (i x p : ℕ) → 0 < k
    → (window_row (in_cycles k set) i x p).limit (fine k bounds) ≤ (window_row set i x p).limit bounds
window_limit_fine k set bounds i x p some =
    let same : requests_in (in_cycles k set) (fine k bounds) i x p ≡ requests_in set bounds i x p =
    requests_in_cycles k set bounds (bounds i) x p some in
    elim (cases_Bool (lacks_window set bounds i p)) [
      | inl lacks ↦ omega (arith, same, lacking set bounds i x p lacks)
      | inr none ↦ omega (arith, same, met_fine k set bounds i x p some none)
    ]

pub windowed_rows_in : (k : ℕ) (set : SetDef) (bounds : ℕ → ℕ) (i : ℕ) → 0 < k
    → AreRescaled k bounds (windowed_rows set i) (windowed_rows (in_cycles k set) i)
windowed_rows_in k set bounds i some = appended k bounds (rows_of protocol.Dpcp set i) (rows_of protocol.Dpcp (in_cycles k set) i)
    (per_pair i (length set.resources) (window_row set i)) (per_pair i (length set.resources) (window_row (in_cycles k set) i))
    (rows_in protocol.Dpcp k set bounds i some)
    (each_pair k bounds i i (length set.resources) (window_row set i) (window_row (in_cycles k set) i) refl
    (λ x q a b. counted k bounds (λ c. ((c.task == x) && (c.resource == q)) && not (is_class Preemption c.class))
    (λ c. ((c.task == x) && (c.resource == q)) && not (is_class Preemption c.class)) _ _ some refl
    (window_limit_fine k set bounds i x q some)))

pub windowed_rescaled : (k : ℕ) (set : SetDef) (bounds : List ℕ) (i : ℕ) → 0 < k
    → IsRescaled k ((windowed_source set).program i bounds) ((windowed_source (in_cycles k set)).program i (times_each k bounds))
windowed_rescaled k set bounds i some = programs_rescaled k set bounds (columns_of protocol.Dpcp set i)
    (columns_of protocol.Dpcp (in_cycles k set) i) (windowed_rows set i) (windowed_rows (in_cycles k set) i) some
    (columns_scaled protocol.Dpcp k set i) (windowed_rows_in k set (slice_index bounds) i some)
