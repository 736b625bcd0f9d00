-- Fewer jobs are released in a window than can run in it. So a busy window has no more interference and requests than the window from a job's
-- release on.
use Rattle.std.proofs.Common.{ℕ, ◌+◌, ◌-◌, ◌*◌, ◌<◌, ◌≤◌, List, arith}
use Rattle.std.proofs.Math.Nat.{mul-le-mul_left, mul-le-mul_right}
use Rattle.std.specs.Prelude.{slice_index}
use Rattle.number_laws.specs.Sums.{sum_below, only_if}
use Rattle.number_laws.proofs.SumLaws.{sum_below-monotone}
use Rattle.number_laws.proofs.OnlyIfLaws.{only_if-rises}
use Rattle.sporadic_model.specs.SetDef.{SetDef, task_at, is_higher_local, jobs_within}
use Rattle.sporadic_model.specs.Users.{count_of}
use Rattle.program_sources.specs.Recurrence.{interference_of}
use Rattle.program_sources.proofs.RecurrenceLaws.{div_ceil_rises}
use Rattle.blocking_columns.specs.Columns.{have_one_processor}
use Rattle.blocking_columns.specs.Windows.{jobs_during, requests_during, requests_by_higher}
use Rattle.spin_charging.specs.SpinPrograms.{spinning_row}
use Rattle.busy_windows.specs.BusyWindows.{released_during, busy_interference, released_requests, busy_spinning_row}

pub less_interference : (set : SetDef) (r : List ℕ) (i : ℕ) → ((h : ℕ) → h < i → (task_at set h).cost ≤ slice_index r h)
    → busy_interference set r i ≤ interference_of (λ h. (task_at set h).cost) set r i
less_interference set r i costs = sum_below-monotone i
    (λ h. only_if (is_higher_local set i h) (released_during set (slice_index r i) h * (task_at set h).cost))
    (λ h. only_if (is_higher_local set i h) (counted h * (task_at set h).cost))
    (λ h l. only_if-rises (is_higher_local set i h) (released_during set (slice_index r i) h * (task_at set h).cost)
    (counted h * (task_at set h).cost) (λ on. mul-le-mul_right (task_at set h).cost (fewer h l))) where
      counted : ℕ → ℕ
      counted = λ h. jobs_within (slice_index r i) (slice_index r h + (task_at set h).jitter - (task_at set h).cost) (task_at set h).period

      fewer : (h : ℕ) → h < i → released_during set (slice_index r i) h ≤ counted h
      fewer h l = div_ceil_rises (slice_index r i + (task_at set h).jitter)
          (slice_index r i + (slice_index r h + (task_at set h).jitter - (task_at set h).cost)) (task_at set h).period
          (omega (arith, costs h l))

fewer_released : (set : SetDef) (bounds : ℕ → ℕ) (w h : ℕ) → released_during set w h ≤ jobs_during set bounds w h
fewer_released set bounds w h = div_ceil_rises (w + (task_at set h).jitter) (w + (bounds h + (task_at set h).jitter)) (task_at set h).period
    (omega arith)

fewer_requests : (set : SetDef) (bounds : ℕ → ℕ) (i q : ℕ)
    → released_requests set bounds i q ≤ requests_by_higher set bounds i (λ h. have_one_processor set h i) q
fewer_requests set bounds i q = sum_below-monotone i
    (λ h. only_if (have_one_processor set h i) (count_of set h q * released_during set (bounds i) h))
    (λ h. only_if (have_one_processor set h i) (requests_during set bounds (bounds i) h q))
    (λ h l. only_if-rises (have_one_processor set h i) (count_of set h q * released_during set (bounds i) h)
    (requests_during set bounds (bounds i) h q) (λ on. mul-le-mul_left (count_of set h q) (fewer_released set bounds (bounds i) h)))

pub less_limit : (set : SetDef) (bounds : ℕ → ℕ) (i k q : ℕ)
    → (busy_spinning_row set i k q).limit bounds ≤ (spinning_row set i k q).limit bounds
less_limit set bounds i k q = omega (arith, fewer_requests set bounds i q)
