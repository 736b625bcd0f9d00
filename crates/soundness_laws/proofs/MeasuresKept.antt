-- What is measured of a schedule that keeps its bounds and values: responses within the bounds, blocking within the values.
use Rattle.std.proofs.Common.{◌≡◌, ℕ, zero, suc, ◌<◌, ◌≤◌, ◌==◌, ◌&&◌, Bool, true, false, List, length, refl, subst}
use Rattle.std.proofs.Common.{arith, inl, inr, Some, None}
use Rattle.std.specs.Prelude.{slice_index, IfSome, if◌then◌else◌}
use Rattle.std.proofs.lemmas.Bool.{cases_lt, and_parts, and_from, both_ways, eqb-true, le-leb, lt-ltb}
use Rattle.number_laws.specs.Sums.{only_if}
use Rattle.number_laws.proofs.CountLaws.{count_below-monotone}
use Rattle.schedule_model.specs.RowDef.{Trace}
use Rattle.schedule_model.specs.Phase.{is_finished, phase_of}
use Rattle.schedule_model.specs.Phase.Phase.{Finished}
use Rattle.schedule_model.specs.Activity.{task_of}
use Rattle.schedule_model.specs.BlockedTicks.{is_blocked}
use Rattle.schedule_model.specs.Measures.{greatest_below, has_finished, response_of, blocking_of, counts_for, finished_jobs, measures_of}
use Rattle.schedule_laws.proofs.Ticks.{finished_stays}
use Rattle.schedule_laws.proofs.ActiveJobs.{Active, active_is}
use Rattle.schedule_laws.proofs.KindsOfTicks.{Blocked, blocked_is}
use Rattle.schedule_laws.proofs.MeasureLaws.{finish_at_most, response_at_most}
use Rattle.soundness_laws.specs.Sound.{due_tick, is_in_window, KeepsBounds}

-- A job's response, or what it has taken so far, is at most its task's bound.
pub response_kept : (interferes : Trace → ℕ → ℕ → Bool) (w : Trace) (n : ℕ) (bounds values : List ℕ) (j : ℕ)
    → KeepsBounds interferes w n bounds values → j < length w.jobs → response_of w n j ≤ slice_index bounds (task_of w j)
unfolding response_of
response_kept interferes w n bounds values j kept l = elim (cases_lt n (due_tick w bounds j)) [
  | inl later ↦ omega (arith, finish_at_most w n j)
  | inr due ↦ response_at_most w n (slice_index bounds (task_of w j)) j (kept.finished j l (omega arith))
]

-- A blocked tick before n lies in the job's window.
pub blocked_inside : (interferes : Trace → ℕ → ℕ → Bool) (w : Trace) (n : ℕ) (bounds values : List ℕ) (t j : ℕ)
    → KeepsBounds interferes w n bounds values → j < length w.jobs → t < n → is_blocked interferes w t j ≡ true
    → is_in_window w bounds t j ≡ true
blocked_inside interferes w n bounds values t j kept l before blocked = elim (cases_lt t (due_tick w bounds j)) [
  | inl inside ↦ and_from _ _ (le-leb _ _ active.released) (lt-ltb _ _ inside)
  | inr past ↦
      let done : phase_of w t j ≡ Finished = finished_stays w (due_tick w bounds j) t j past (kept.finished j l (omega arith)) in
      let finished : is_finished (phase_of w t j) ≡ true = rw done refl in
      absurd (both_ways _ active.unfinished finished)
] where
  active : Active w t j
  active = let b : Blocked interferes w t j = blocked_is interferes w t j blocked in active_is w t j b.active

-- So all its blocked ticks are at most its task's value.
pub blocking_kept : (interferes : Trace → ℕ → ℕ → Bool) (w : Trace) (n : ℕ) (bounds values : List ℕ) (j : ℕ)
    → KeepsBounds interferes w n bounds values → j < length w.jobs → blocking_of interferes w n j ≤ slice_index values (task_of w j)
unfolding blocking_of
blocking_kept interferes w n bounds values j kept l =
    omega (
      arith,
      count_below-monotone n (λ t. is_blocked interferes w t j) (λ t. is_in_window w bounds t j && is_blocked interferes w t j)
          (λ t before h. and_from _ _ (blocked_inside interferes w n bounds values t j kept l before h) h),
      kept.blocked j l,
    )

greatest_below-at_most : (n c : ℕ) (f : ℕ → ℕ) → ((k : ℕ) → k < n → f k ≤ c) → greatest_below n f ≤ c
greatest_below-at_most zero c f h = omega arith
greatest_below-at_most (suc n) c f h =
    omega (arith, h n (omega arith), greatest_below-at_most n c f (λ k l. h k (omega arith)))

only_if-within : (b : Bool) (m c : ℕ) → (b ≡ true → m ≤ c) → only_if b m ≤ c
only_if-within true m c h = h refl
only_if-within false m c h = omega arith

some_within : (b : Bool) (m c : ℕ) → m ≤ c → IfSome (if b then None else Some m) (λ r. r ≤ c)
some_within true m c h = tt
some_within false m c h = h

pub measured_response : (interferes : Trace → ℕ → ℕ → Bool) (w : Trace) (n : ℕ) (bounds values : List ℕ) (x : ℕ)
    → KeepsBounds interferes w n bounds values → IfSome (measures_of interferes w n x).response (λ r. r ≤ slice_index bounds x)
unfolding measures_of counts_for
measured_response interferes w n bounds values x kept =
    some_within (finished_jobs w n x == 0) (greatest_below (length w.jobs) (λ j. only_if (counts_for w n x j) (response_of w n j)))
    (slice_index bounds x)
    (greatest_below-at_most (length w.jobs) (slice_index bounds x) (λ j. only_if (counts_for w n x j) (response_of w n j)) each) where
      each : (j : ℕ) → j < length w.jobs
          → only_if ((task_of w j == x) && has_finished w n j) (response_of w n j) ≤ slice_index bounds x
      each j l = only_if-within ((task_of w j == x) && has_finished w n j) (response_of w n j) (slice_index bounds x) (λ h.
          let parts : ((task_of w j == x) ≡ true) × (has_finished w n j ≡ true) = and_parts _ _ h in
          subst (λ y. response_of w n j ≤ slice_index bounds y) (eqb-true _ _ parts.0)
          (response_kept interferes w n bounds values j kept l))

pub measured_blocking : (interferes : Trace → ℕ → ℕ → Bool) (w : Trace) (n : ℕ) (bounds values : List ℕ) (x : ℕ)
    → KeepsBounds interferes w n bounds values → (measures_of interferes w n x).blocking ≤ slice_index values x
unfolding measures_of
measured_blocking interferes w n bounds values x kept =
    greatest_below-at_most (length w.jobs) (slice_index values x)
    (λ j. only_if (task_of w j == x) (blocking_of interferes w n j)) each where
      each : (j : ℕ) → j < length w.jobs → only_if (task_of w j == x) (blocking_of interferes w n j) ≤ slice_index values x
      each j l = only_if-within (task_of w j == x) (blocking_of interferes w n j) (slice_index values x) (λ h.
          subst (λ y. blocking_of interferes w n j ≤ slice_index values y) (eqb-true _ _ h)
          (blocking_kept interferes w n bounds values j kept l))
