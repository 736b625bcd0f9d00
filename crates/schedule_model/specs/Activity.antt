-- Which jobs may run, which wait, and since when.
use Rattle.std.specs.Prelude.{◌≡◌, ℕ, ◌<◌, ◌≤◌, ◌==◌, ◌&&◌, ◌||◌, not, Bool, true, false, nat_le, Option, length}
use Rattle.number_laws.specs.Tests.{all_below, first_below, found_below}
use Rattle.sporadic_model.specs.SetDef.{task_at}
use Rattle.schedule_model.specs.JobDef.{job_of}
use Rattle.schedule_model.specs.RowDef.{Trace, is_job, holder_in}
use Rattle.schedule_model.specs.Phase.{Phase, is_local, is_finished, is_asking, is_same_request, phase_of}
use Rattle.schedule_model.specs.Phase.Phase.{Asking}

-- The task of job j. A lower number is a higher task.
abbrev pub task_of : Trace → ℕ → ℕ
task_of w j = (job_of w.jobs j).task

-- The processor of job j's task.
abbrev pub processor_of : Trace → ℕ → ℕ
processor_of w j = (task_at w.set (task_of w j)).processor

-- Is job j pending at tick t: released, and not finished?
unfoldable pub is_pending : Trace → ℕ → ℕ → Bool
is_pending w t j = nat_le (job_of w.jobs j).release t && not (is_finished (phase_of w t j))

-- Is each earlier job of j's task finished at tick t?
unfoldable pub is_next : Trace → ℕ → ℕ → Bool
is_next w t j = all_below j (λ e. not (task_of w e == task_of w j) || is_finished (phase_of w t e))

-- Is job j active at tick t: pending, with each earlier job of its task finished?
unfoldable pub is_active : Trace → ℕ → ℕ → Bool
is_active w t j = is_pending w t j && is_next w t j

-- Is job j the active job of task x at tick t?
unfoldable pub is_active_job_of : Trace → ℕ → ℕ → ℕ → Bool
is_active_job_of w t x j = is_active w t j && (task_of w j == x)

-- Which job of task x is active at tick t? There is at most one.
unfoldable pub active_job_of : Trace → ℕ → ℕ → Option ℕ
active_job_of w t x = found_below (length w.jobs) (is_active_job_of w t x)

-- Is job j a requester of resource q at tick t: active, and in a request of q?
unfoldable pub is_requester : Trace → ℕ → ℕ → ℕ → Bool
is_requester w t q j = is_active w t j && is_asking q (phase_of w t j)

-- At which tick was the request issued that job j is in at tick t? It is the first tick at which that request was j's phase.
unfoldable pub issue_tick_of : Trace → ℕ → ℕ → ℕ
issue_tick_of w t j = first_below t (λ u. is_same_request (phase_of w u j) (phase_of w t j))

-- Let the resources have these holders. Does job j, in this phase, hold the resource that it requests?
abbrev pub holds_by : (ℕ → Option ℕ) → ℕ → Phase → Bool
holds_by holder j (Asking n q) = is_job j (holder q)
holds_by holder j _ = false

-- Is job j active and Local at tick t?
unfoldable pub is_active_local : Trace → ℕ → ℕ → Bool
is_active_local w t j = is_active w t j && is_local (phase_of w t j)

-- Is job j a ready holder at tick t: active, and in this row the holder of the resource that it requests?
unfoldable pub is_ready_holder : Trace → ℕ → ℕ → Bool
is_ready_holder w t j = is_active w t j && holds_by (holder_in (w.row t)) j (phase_of w t j)

-- Is job j ready at tick t: active, and Local or in this row the holder of the resource that it requests?
unfoldable pub is_ready : Trace → ℕ → ℕ → Bool
is_ready w t j = is_active_local w t j || is_ready_holder w t j

-- Is this true of each job of the tasks of processor k?
abbrev pub EachJobOf : Trace → ℕ → (ℕ → Type 0) → Type 0
EachJobOf w k P = (i : ℕ) → i < length w.jobs → processor_of w i ≡ k → P i

-- Is no active Local job on processor k of a higher task than job r?
abbrev pub NoLocalIsHigher : Trace → ℕ → ℕ → ℕ → Type 0
NoLocalIsHigher w t k r = EachJobOf w k (λ i. is_active_local w t i ≡ true → task_of w r ≤ task_of w i)
