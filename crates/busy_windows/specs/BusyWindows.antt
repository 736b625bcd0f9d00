-- A closer recurrence under spin locks, by busy windows. No law says that it is sound, and no command uses it. These definitions say what such
-- a law would have to show.
--
-- A busy window of task i begins when no job of i's processor that is as high as i, and was released before, is left. It ends when the next
-- such tick comes. If it is no longer than i's bound, at most one job of i is in it, since i's bound and jitter together are at most its
-- period. No job of a higher task of the processor that was released before the window runs in it, while the recurrence of spin locks counts
-- such jobs.
use Rattle.std.specs.Prelude.{◌≡◌, refl, ℕ, ◌+◌, ◌*◌, ◌<◌, ◌≤◌, ◌==◌, ◌&&◌, ◌||◌, not, Bool, true, false, nat_le, nat_lt, List}
use Rattle.std.specs.Prelude.{[], ◌∷◌, ◌++◌, length, slice_index}
use Rattle.std.specs.Option.{option_map_or}
use Rattle.number_laws.specs.Sums.{sum_below, flag, only_if}
use Rattle.number_laws.specs.Tests.{any_below, count_below}
use Rattle.program_form.specs.Certificate.{CertificateDef}
use Rattle.program_form.specs.Duals.{IsFeasibleDual, Covers, dual_value}
use Rattle.sporadic_model.specs.SetDef.{SetDef, TaskDef, task_at, is_higher_local, jobs_within, latest_bound}
use Rattle.sporadic_model.specs.Users.{count_of}
use Rattle.sporadic_model.specs.Accepted.{IsAccepted}
use Rattle.schedule_model.specs.JobDef.{job_of}
use Rattle.schedule_model.specs.RowDef.{Trace, running_on}
use Rattle.schedule_model.specs.Activity.{task_of, is_active}
use Rattle.schedule_model.specs.BlockedTicks.{is_shared_interference}
use Rattle.program_sources.specs.Recurrence.{SourceDef, interference_of}
use Rattle.program_sources.specs.Valid.{dual_at, value_at}
use Rattle.program_laws.specs.Programs.{source_with}
use Rattle.blocking_columns.specs.declared.columns.Class.TheVariants as class
use Rattle.blocking_columns.specs.ColumnDef.{is_class}
use Rattle.blocking_columns.specs.Columns.{have_one_processor}
use Rattle.fragments.specs.Constraints.{ConstraintDef, counting, per_pair}
use Rattle.direct_constraints.specs.Rows.{common_rows}
use Rattle.soundness_laws.specs.Sound.{IsLawfulSchedule, Sound}
use Rattle.spin_rules.specs.SpinRules.{spin_rule}
use Rattle.spin_charging.specs.SpinPrograms.{blocks_by_spinning, is_from, is_used_below, lower_request_row, own_spinning_row}

-- How many jobs of h can be released within w ticks? A job arrives by at most its jitter before its release.
abbrev pub released_during : SetDef → ℕ → ℕ → ℕ
released_during set w h = jobs_within w (task_at set h).jitter (task_at set h).period

-- The ticks that they run at most, of all higher tasks of i's processor, within i's bound.
abbrev pub busy_interference : SetDef → List ℕ → ℕ → ℕ
busy_interference set r i =
    sum_below i (λ h. only_if (is_higher_local set i h) (released_during set (slice_index r i) h * (task_at set h).cost))

abbrev with_numbers : ℕ → ℕ → ℕ → TaskDef
with_numbers period cost jitter =
    record { name = []; processor = 1; period = period; deadline = period; cost = cost; local = cost; jitter = jitter; requests = [] }

-- A higher task of cost 2 with this jitter, and a lower task of cost 4. Both are on processor 1, and their periods are 10 and 20.
abbrev two_tasks : ℕ → SetDef
two_tasks jitter = record { processors = 1; resources = []; tasks = with_numbers 10 2 jitter ∷ with_numbers 20 4 0 ∷ [] }

-- At the bounds 4 and 9 the recurrence of spin locks counts two jobs of the higher task, and this one counts one. With a jitter of 4 two can
-- be released in 7 ticks.
pub one_is_released : busy_interference (two_tasks 0) (4 ∷ 9 ∷ []) 1 ≡ 2
one_is_released = refl

pub two_are_counted : interference_of (λ h. (task_at (two_tasks 0) h).cost) (two_tasks 0) (4 ∷ 9 ∷ []) 1 ≡ 4
two_are_counted = refl

pub two_are_released : busy_interference (two_tasks 4) (2 ∷ 7 ∷ []) 1 ≡ 4
two_are_released = refl

-- How many requests of q do these jobs make?
abbrev pub released_requests : SetDef → (ℕ → ℕ) → ℕ → ℕ → ℕ
released_requests set bounds i q =
    sum_below i (λ h. only_if (have_one_processor set h i) (count_of set h q * released_during set (bounds i) h))

-- Spinning in a busy window: the row of spinning, where higher tasks make only these requests.
abbrev pub busy_spinning_row : SetDef → ℕ → ℕ → ℕ → ConstraintDef
busy_spinning_row set i k q = counting (λ c. is_from set k q c && not (is_class class.Preemption c.class))
    (λ bounds. count_of set i q + (released_requests set bounds i q + flag (is_used_below set i q)))

-- The rows of a program: as under spin locks, with this row of spinning.
abbrev pub busy_rows : SetDef → ℕ → List ConstraintDef
busy_rows set i = common_rows set i ++ (lower_request_row
    ∷ (per_pair set.processors (length set.resources) (λ k q. busy_spinning_row set i (k + 1) q)
    ++ per_pair set.processors (length set.resources) (λ k q. own_spinning_row set i (k + 1) q)))

abbrev pub busy_source : SetDef → SourceDef
busy_source set = source_with set (blocks_by_spinning set) (busy_rows set) (λ h. (task_at set h).cost)

-- Is the certificate valid by this recurrence: has it one bound and one dual for each task, and is each response time within its bound?
pub record IsValidWhenBusy (set : SetDef) (c : CertificateDef) : Type 0 where
  pub bound_each : length c.bounds ≡ length set.tasks
  pub dual_each : length c.duals ≡ length set.tasks
  pub within : (i : ℕ) → i < length set.tasks → slice_index c.bounds i ≤ latest_bound (task_at set i)
  pub feasible : (i : ℕ) → i < length set.tasks → IsFeasibleDual ((busy_source set).program i c.bounds) (dual_at c.duals i)
  pub enough : (i : ℕ) → i < length set.tasks
      → (task_at set i).cost + value_at (busy_source set) c i + busy_interference set c.bounds i ≤ slice_index c.bounds i

-- Is l a job of task i, or of a higher task of its processor?
abbrev pub is_as_high : Trace → ℕ → ℕ → Bool
is_as_high w i l = is_higher_local w.set i (task_of w l) || (task_of w l == i)

-- Is none of these jobs that was released before tick s left at s? Then a busy window of i may begin at s.
abbrev pub may_begin : Trace → ℕ → ℕ → Bool
may_begin w i s =
    not (any_below (length w.jobs) (λ l. (is_as_high w i l && nat_lt (job_of w.jobs l).release s) && is_active w s l))

-- Is one of them active at tick t? And does the processor run none of them then?
abbrev pub is_busy : Trace → ℕ → ℕ → Bool
is_busy w i t = any_below (length w.jobs) (λ l. is_as_high w i l && is_active w t l)

abbrev pub is_held_up : Trace → ℕ → ℕ → Bool
is_held_up w i t =
    is_busy w i t && not (option_map_or (is_as_high w i) (running_on (w.row t) (task_at w.set i).processor) false)

-- At how many ticks of the window of i's bound from tick s on is that so, in a schedule of n rows?
abbrev pub held_up_from : Trace → (ℕ → ℕ) → ℕ → ℕ → ℕ → ℕ
held_up_from w bound n i s =
    count_below n (λ t. (nat_le s t && nat_lt t (s + bound i)) && is_held_up w i t)

-- Do the windows that began earlier end in time? Each that would end by tick e, and within n rows, ends at such a tick of its own.
abbrev pub EndInTime : Trace → (ℕ → ℕ) → ℕ → ℕ → Type 0
EndInTime w bound n e = (x s : ℕ) → x < length w.set.tasks → may_begin w x s ≡ true → s + bound x < e → s + bound x ≤ n
    → (u : ℕ) × (s < u) × (u ≤ s + bound x) × (may_begin w x u ≡ true)

-- What is to be shown first: ticks of a busy window at which jobs as high as i are held up are paid for by the program of i. Some of them
-- are before the release of i's job, so charges have to be defined for a task and not for a job.
abbrev pub HoldUpsArePaid : SetDef → Type 0
HoldUpsArePaid set = (w : Trace) (bounds : List ℕ) (n i s den : ℕ) (num : ℕ → ℕ) → IsLawfulSchedule spin_rule set w n → i < length set.tasks
    → may_begin w i s ≡ true → EndInTime w (slice_index bounds) n (s + slice_index bounds i)
    → Covers ((busy_source set).program i bounds) den num
    → held_up_from w (slice_index bounds) n i s ≤ dual_value ((busy_source set).program i bounds) den num

-- And then: valid certificates are sound, as those of spin locks are.
abbrev pub BusyWindowsAreSound : Type 0
BusyWindowsAreSound = (set : SetDef) (c : CertificateDef) (values : List ℕ) → IsAccepted set → IsValidWhenBusy set c
    → length values ≡ length set.tasks → ((i : ℕ) → i < length set.tasks → slice_index values i ≡ value_at (busy_source set) c i)
    → Sound spin_rule is_shared_interference set c.bounds values
