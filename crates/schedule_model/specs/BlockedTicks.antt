-- What a tick is for an active job: the job executes, or higher tasks of its processor delay it (interference), or it is blocked.
use Rattle.std.specs.Prelude.{ℕ, ◌&&◌, not, Bool, false}
use Rattle.std.specs.Option.{option_map_or}
use Rattle.sporadic_model.specs.SetDef.{is_higher_local}
use Rattle.schedule_model.specs.RowDef.{Trace, is_job, runs_in, running_on}
use Rattle.schedule_model.specs.Phase.{is_local, phase_of}
use Rattle.schedule_model.specs.Activity.{task_of, processor_of, is_active}

-- Does job j execute at tick t?
unfoldable pub is_executing : Trace → ℕ → ℕ → Bool
is_executing w t j = is_active w t j && runs_in (w.row t) j

-- Is job j active at tick t and not running?
unfoldable pub is_delayed : Trace → ℕ → ℕ → Bool
is_delayed w t j = is_active w t j && not (runs_in (w.row t) j)

-- Does j's processor run a job of a higher task of that processor?
unfoldable pub runs_higher : Trace → ℕ → ℕ → Bool
runs_higher w t j = option_map_or (λ r. is_higher_local w.set (task_of w j) (task_of w r)) (running_on (w.row t) (processor_of w j)) false

-- Does j's processor run a Local job of a higher task of that processor?
unfoldable pub runs_higher_local : Trace → ℕ → ℕ → Bool
runs_higher_local w t j =
    option_map_or (λ r. is_higher_local w.set (task_of w j) (task_of w r) && is_local (phase_of w t r))
    (running_on (w.row t) (processor_of w j)) false

-- Is tick t interference for job j? Under shared memory any running job of a higher task of its processor interferes. Under DPCP only a
-- Local one does, since a request that runs there serves its resource.
unfoldable pub is_shared_interference : Trace → ℕ → ℕ → Bool
is_shared_interference w t j = is_delayed w t j && runs_higher w t j

unfoldable pub is_dpcp_interference : Trace → ℕ → ℕ → Bool
is_dpcp_interference w t j = is_delayed w t j && runs_higher_local w t j

-- Does job y make tick t interference for job j? It does if the tick is interference for j, and y runs on j's processor. The first argument
-- says which ticks are interference.
unfoldable pub is_interferer : (Trace → ℕ → ℕ → Bool) → Trace → ℕ → ℕ → ℕ → Bool
is_interferer interferes w t j y = interferes w t j && is_job y (running_on (w.row t) (processor_of w j))

-- Is job j blocked at tick t: active, not running, and the tick isn't interference? The first argument says which ticks are interference.
unfoldable pub is_blocked : (Trace → ℕ → ℕ → Bool) → Trace → ℕ → ℕ → Bool
is_blocked interferes w t j = is_delayed w t j && not (interferes w t j)
