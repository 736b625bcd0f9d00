-- What a machine answers about its tick.
use Rattle.std.specs.Prelude.{◌≡◌, refl, ℕ, ◌&&◌, ◌||◌, not, Bool, nat_lt, nat_le, if◌then◌else◌, List, length, Option}
use Rattle.std.specs.Prelude.{None, Some, slice_index_or}
use Rattle.sporadic_model.specs.SetDef.{task_at}
use Rattle.schedule_model.specs.JobDef.{SegmentDef, JobDef, job_of}
use Rattle.schedule_model.specs.RowDef.{Trace, is_job, held_before}
use Rattle.schedule_model.specs.Phase.{Phase, is_local, is_asking, asking, phase_of}
use Rattle.schedule_model.specs.Phase.Phase.{Local, Asking, Finished}
use Rattle.schedule_model.specs.Activity.{is_active, issue_tick_of, holds_by}
use Rattle.phase_machine.specs.declared.place.ScriptPlace.{ScriptPlace}
use Rattle.phase_machine.specs.MachineDef.{MachineDef, place_of, task_in, segment_in}

-- The phase in segment number n after this many of its ticks.
abbrev pub phase_in : ℕ → SegmentDef → ℕ → Phase
phase_in n s ticks = if nat_lt ticks s.local then Local else asking n s.request

pub local_at_first : phase_in 0 (record { local = 1; request = Some (4, 2) }) 0 ≡ Local
local_at_first = refl

pub then_a_request : phase_in 0 (record { local = 1; request = Some (4, 2) }) 1 ≡ Asking 0 4
then_a_request = refl

-- The phase of job j if its task is at this place. Jobs before the place's are finished, and later ones have executed nothing.
abbrev pub phase_at_place : List JobDef → ℕ → ScriptPlace → Phase
phase_at_place jobs j p =
    if nat_lt j p.job then Finished
    else (if nat_lt p.job j then Local else phase_in p.segment (segment_in jobs p.job p.segment) p.ticks)

unfoldable pub phase_now : MachineDef → ℕ → Phase
phase_now m j = phase_at_place m.list.jobs j (place_of m (task_in m.list.jobs j))

-- The active job of task x, if it has one.
abbrev pub current_in : List JobDef → ℕ → ScriptPlace → Option ℕ
current_in jobs tick p = if nat_lt p.job (length jobs) && nat_le (job_of jobs p.job).release tick then Some p.job else None

unfoldable pub current_now : MachineDef → ℕ → Option ℕ
current_now m x = current_in m.list.jobs m.tick (place_of m x)

-- Is job j active: the active job of its task?
unfoldable pub active_now : MachineDef → ℕ → Bool
active_now m j = is_job j (current_now m (task_in m.list.jobs j))

-- Who held resource q in the last row?
abbrev pub holder_now : MachineDef → ℕ → Option ℕ
holder_now m q = slice_index_or m.holders q None

-- With these holders: is a job ready that is active or not, and in this phase?
abbrev pub is_ready_by : (ℕ → Option ℕ) → ℕ → Bool → Phase → Bool
is_ready_by holder j active phase = active && (is_local phase || holds_by holder j phase)

-- Is job j ready by the holders of the last row: active, and Local or the holder of the resource that it requests?
unfoldable pub ready_now : MachineDef → ℕ → Bool
ready_now m j = is_ready_by (holder_now m) j (active_now m j) (phase_now m j)

-- Is it active and not ready?
unfoldable pub waiting_now : MachineDef → ℕ → Bool
waiting_now m j = active_now m j && not (ready_now m j)

-- Is job j a requester of resource q?
unfoldable pub requester_now : MachineDef → ℕ → ℕ → Bool
requester_now m q j = active_now m j && is_asking q (phase_now m j)

-- The issue tick of the request of a job in this phase, if it is in one.
abbrev pub issued_in : Phase → ℕ → Option ℕ
issued_in (Asking n q) tick = Some tick
issued_in _ tick = None

unfoldable pub issued_now : MachineDef → ℕ → Option ℕ
issued_now m j = issued_in (phase_now m j) (place_of m (task_in m.list.jobs j)).issued

-- The processor of job j's task.
abbrev pub processor_now : MachineDef → ℕ → ℕ
processor_now m j = (task_at m.list.set (task_in m.list.jobs j)).processor

-- Is job j Local? Or, if it is active, does it hold the resource that it requests, with these holders?
abbrev pub is_local_now : MachineDef → ℕ → Bool
is_local_now m j = is_local (phase_now m j)

abbrev pub holds_now : MachineDef → (ℕ → Option ℕ) → ℕ → Bool
holds_now m held j = holds_by held j (phase_now m j)

abbrev pub may_run_now : MachineDef → (ℕ → Option ℕ) → ℕ → Bool
may_run_now m held j = is_local_now m j || holds_now m held j

-- The same for a schedule at a tick, by the holders of the row before.
unfoldable pub is_ready_before : Trace → ℕ → ℕ → Bool
is_ready_before w t j = is_ready_by (held_before w t) j (is_active w t j) (phase_of w t j)

unfoldable pub is_waiting_before : Trace → ℕ → ℕ → Bool
is_waiting_before w t j = is_active w t j && not (is_ready_before w t j)

unfoldable pub issue_of : Trace → ℕ → ℕ → Option ℕ
issue_of w t j = issued_in (phase_of w t j) (issue_tick_of w t j)
