-- In k times as many cycles, as many jobs of each task run, with as many requests. So interference takes k times as many cycles.
use Rattle.std.proofs.Common.{◌≡◌, ◌∙◌, ℕ, ◌+◌, ◌-◌, ◌*◌, ◌<◌, List, length, sym, arith, Bool, ◌==◌}
use Rattle.std.specs.Prelude.{slice_index}
use Rattle.std.specs.Int.{div_ceil}
use Rattle.std.proofs.Math.Nat.{mul-sub}
use Rattle.number_laws.specs.Sums.{sum_below, only_if}
use Rattle.number_laws.proofs.SumLaws.{sum_below-times}
use Rattle.sporadic_model.specs.SetDef.{SetDef, task_at, is_higher_local, jobs_within}
use Rattle.sporadic_model.specs.Homes.{home_in}
use Rattle.program_sources.specs.Recurrence.{interference_by, interference_of}
use Rattle.blocking_columns.specs.Windows.{jobs_during, requests_during, requests_by_higher, all_requests, requests_at}
use Rattle.clock_laws.specs.Cycles.{in_cycles, times_each}
use Rattle.clock_laws.proofs.Scaled.{div_ceil_scaled, only_times, each_at}
use Rattle.clock_laws.proofs.Sets.{period_in, jitter_in, count_in, higher_in}

-- Bounds, each multiplied by k.
abbrev pub fine : ℕ → (ℕ → ℕ) → ℕ → ℕ
fine k bounds x = k * bounds x

pub factor : (k w b c : ℕ) → k * w + (k * b + k * c) ≡ k * (w + (b + c))
factor k w b c = omega arith

pub jobs_in_cycles : (k : ℕ) (set : SetDef) (bounds : ℕ → ℕ) (w x : ℕ) → 0 < k
    → jobs_during (in_cycles k set) (fine k bounds) (k * w) x ≡ jobs_during set bounds w x
jobs_in_cycles k set bounds w x some = (λ j. div_ceil (k * w + (k * bounds x + jitter_in k set x j)) (period_in k set x j))
    ∙ ((λ j. div_ceil (factor k w (bounds x) (task_at set x).jitter j) (k * (task_at set x).period))
    ∙ div_ceil_scaled k (w + (bounds x + (task_at set x).jitter)) (task_at set x).period some)

pub requests_in_cycles : (k : ℕ) (set : SetDef) (bounds : ℕ → ℕ) (w x q : ℕ) → 0 < k
    → requests_during (in_cycles k set) (fine k bounds) (k * w) x q ≡ requests_during set bounds w x q
requests_in_cycles k set bounds w x q some = λ j. count_in k set x q j * jobs_in_cycles k set bounds w x some j

pub higher_requests_in : (k : ℕ) (set : SetDef) (bounds : ℕ → ℕ) (i : ℕ) (fine_test test : ℕ → Bool) (q : ℕ) → 0 < k → fine_test ≡ test
    → requests_by_higher (in_cycles k set) (fine k bounds) i fine_test q ≡ requests_by_higher set bounds i test q
higher_requests_in k set bounds i fine_test test q some same =
    λ j. sum_below i (λ h. only_if (same j h) (requests_in_cycles k set bounds (bounds i) h q some j))

pub all_requests_in : (k : ℕ) (set : SetDef) (i : ℕ) → all_requests (in_cycles k set) i ≡ all_requests set i
all_requests_in k set i = λ j. sum_below (length set.resources) (λ q. count_in k set i q j)

pub requests_at_in : (k : ℕ) (set : SetDef) (i m : ℕ) → requests_at (in_cycles k set) i m ≡ requests_at set i m
requests_at_in k set i m = λ j. sum_below (length set.resources) (λ q. only_if (home_in set q == m) (count_in k set i q j))

rest : (k b c g : ℕ) → k * b + k * c - k * g ≡ k * (b + c - g)
rest k b c g = let sum : k * b + k * c ≡ k * (b + c) = omega arith in (λ j. sum j - k * g) ∙ sym (mul-sub k (b + c) g)

-- What is counted for jobs of one higher task.
by_one : (k : ℕ) (g fine_g : ℕ → ℕ) (set : SetDef) (bounds : List ℕ) (i h : ℕ) → 0 < k → fine_g h ≡ k * g h
    → interference_by fine_g (in_cycles k set) (times_each k bounds) i h ≡ k * interference_by g set bounds i h
by_one k g fine_g set bounds i h some same =
    let jobs : jobs_within (slice_index (times_each k bounds) i)
    (slice_index (times_each k bounds) h + (task_at (in_cycles k set) h).jitter - fine_g h) (task_at (in_cycles k set) h).period
    ≡ jobs_within (slice_index bounds i) (slice_index bounds h + (task_at set h).jitter - g h) (task_at set h).period =
    (λ j. div_ceil (each_at k bounds i j + (each_at k bounds h j + jitter_in k set h j - same j)) (period_in k set h j))
    ∙ ((λ j. div_ceil (k * slice_index bounds i + rest k (slice_index bounds h) (task_at set h).jitter (g h) j) (k * (task_at set h).period))
    ∙ ((λ j. div_ceil (together (slice_index bounds i) (slice_index bounds h + (task_at set h).jitter - g h) j) (k * (task_at set h).period))
    ∙ div_ceil_scaled k (slice_index bounds i + (slice_index bounds h + (task_at set h).jitter - g h)) (task_at set h).period some)) in
    (λ j. jobs j * same j)
    ∙ times_later (jobs_within (slice_index bounds i) (slice_index bounds h + (task_at set h).jitter - g h) (task_at set h).period) (g h) where
      together : (a b : ℕ) → k * a + k * b ≡ k * (a + b)
      together a b = omega arith

      times_later : (m n : ℕ) → m * (k * n) ≡ k * (m * n)
      times_later m n = omega arith

-- And for all of them.
pub interference_scaled : (k : ℕ) (g fine_g : ℕ → ℕ) (set : SetDef) (bounds : List ℕ) (i : ℕ) → 0 < k → ((h : ℕ) → fine_g h ≡ k * g h)
    → interference_of fine_g (in_cycles k set) (times_each k bounds) i ≡ k * interference_of g set bounds i
interference_scaled k g fine_g set bounds i some same =
    (λ j. sum_below i (λ h. each h j)) ∙ sum_below-times i k (λ h. only_if (is_higher_local set i h) (interference_by g set bounds i h)) where
      each : (h : ℕ) → only_if (is_higher_local (in_cycles k set) i h) (interference_by fine_g (in_cycles k set) (times_each k bounds) i h)
          ≡ k * only_if (is_higher_local set i h) (interference_by g set bounds i h)
      each h = (λ j. only_if (higher_in k set j i h) (by_one k g fine_g set bounds i h some (same h) j))
          ∙ only_times (is_higher_local set i h) k (interference_by g set bounds i h)
