-- Idle and Priority under spin locks as tests of a machine's state and the next row.
use Rattle.std.specs.Prelude.{ℕ, ◌==◌, ◌&&◌, ◌||◌, not, Bool, true, nat_le, Option, None, Some, is_some}
use Rattle.schedule_model.specs.RowDef.{RowDef, running_on, holder_in}
use Rattle.schedule_model.specs.declared.rule.Rule.{Rule}
use Rattle.phase_machine.specs.MachineDef.{MachineDef, task_in}
use Rattle.phase_machine.specs.Now.{processor_now, is_local_now, holds_now, may_run_now}
use Rattle.shared_rules.specs.RowTests.{each_current}
use Rattle.shared_rules.specs.RowTests.{passes_run, passes_keep, passes_grant, first_of}

-- Is job j in a request, if it is active? And with these holders, does it spin?
abbrev pub is_request_now : MachineDef → ℕ → Bool
is_request_now m j = not (is_local_now m j)

abbrev pub spins_now : MachineDef → (ℕ → Option ℕ) → ℕ → Bool
spins_now m held j = is_request_now m j && not (holds_now m held j)

-- Isn't it a spinner of processor k?
abbrev pub is_quiet : MachineDef → (ℕ → Option ℕ) → ℕ → ℕ → Bool
is_quiet m held k j = not ((processor_now m j == k) && spins_now m held j)

-- Does an active job of processor k's tasks spin?
unfoldable pub has_spinner_now : MachineDef → (ℕ → Option ℕ) → ℕ → Bool
has_spinner_now m held k = not (each_current m (is_quiet m held k))

-- Idle: if job j is ready, does its processor run something, or does a job there spin?
abbrev pub idle_passes : MachineDef → RowDef → ℕ → Bool
idle_passes m row j = not (may_run_now m (holder_in row) j)
    || (is_some (running_on row (processor_now m j)) || has_spinner_now m (holder_in row) (processor_now m j))

unfoldable pub passes_idle : MachineDef → RowDef → Bool
passes_idle m row = each_current m (idle_passes m row)

-- Priority: take what runs on job j's processor, if something does. If j is in a request, is it j? If j is Local, is it in a request, or no
-- lower than j?
abbrev pub may_run_beside : MachineDef → ℕ → Option ℕ → Bool
may_run_beside m j None = true
may_run_beside m j (Some r) = (not (is_request_now m j) || (r == j))
    && (not (is_local_now m j) || (is_request_now m r || nat_le (task_in m.list.jobs r) (task_in m.list.jobs j)))

abbrev pub priority_passes : MachineDef → RowDef → ℕ → Bool
priority_passes m row j = may_run_beside m j (running_on row (processor_now m j))

unfoldable pub passes_priority : MachineDef → RowDef → Bool
passes_priority m row = each_current m (priority_passes m row)

-- The first rule whose test fails, if grants go by these numbers.
abbrev pub first_failed : MachineDef → (ℕ → ℕ) → RowDef → Option Rule
first_failed m grant row =
    first_of (passes_run m row) (passes_keep m row) (passes_grant m grant row) (passes_idle m row) (passes_priority m row)
