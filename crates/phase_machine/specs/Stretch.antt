-- How often can a machine take the same row before something changes: before the phase of a running job ends, or a job is released?
use Rattle.std.specs.Prelude.{◌≡◌, refl, ◌⊎◌, ℕ, ◌+◌, ◌-◌, ◌<◌, ◌≤◌, true, nat_lt, if◌then◌else◌, List, length, Some}
use Rattle.sporadic_model.specs.declared.limits.TheConstants.{MOST_TICKS}
use Rattle.schedule_model.specs.JobDef.{SegmentDef, JobDef, job_of, segment_ticks}
use Rattle.schedule_model.specs.RowDef.{RowDef, runs_in}
use Rattle.phase_machine.specs.declared.place.ScriptPlace.{ScriptPlace}
use Rattle.phase_machine.specs.MachineDef.{MachineDef, place_of, task_in, segment_in}

-- How many ticks are left of the phase of a job that has executed this many ticks of the segment?
abbrev pub left_in : SegmentDef → ℕ → ℕ
left_in s ticks = if nat_lt ticks s.local then s.local - ticks else segment_ticks s - ticks

pub two_local_ticks_left : left_in (record { local = 3; request = Some (4, 2) }) 1 ≡ 2
two_local_ticks_left = refl

pub one_tick_of_the_request_left : left_in (record { local = 3; request = Some (4, 2) }) 4 ≡ 1
one_tick_of_the_request_left = refl

-- The same for the job at a place, and for active job j.
abbrev pub left_at : List JobDef → ScriptPlace → ℕ
left_at jobs p = left_in (segment_in jobs p.job p.segment) p.ticks

unfoldable pub left_now : MachineDef → ℕ → ℕ
left_now m j = left_at m.list.jobs (place_of m (task_in m.list.jobs j))

-- Does something change once the row was taken n times: does the phase of a running job end then, or is a job released?
abbrev pub ChangesAfter : MachineDef → RowDef → ℕ → Type 0
ChangesAfter m row n =
    ((j : ℕ) × (runs_in row j ≡ true) × (left_now m j ≡ n))
    ⊎ ((j : ℕ) × (j < length m.list.jobs) × ((job_of m.list.jobs j).release ≡ m.tick + n))

-- Does nothing change before the row was taken n times?
abbrev pub IsQuiet : MachineDef → RowDef → ℕ → Type 0
IsQuiet m row n = (i : ℕ) → 0 < i → i < n → ChangesAfter m row i → ⊥

-- Is n how often the row can be taken until something changes, or 10^9 if nothing changes sooner?
pub record IsStretch (m : MachineDef) (row : RowDef) (n : ℕ) : Type 0 where
  pub some : 1 ≤ n
  pub most : n ≤ MOST_TICKS
  pub quiet : IsQuiet m row n
  pub changes : n < MOST_TICKS → ChangesAfter m row n
