-- The rules of a row as tests of a machine's state and the next row. The orders of grants and runs are given as numbers of jobs.
use Rattle.std.specs.Prelude.{ℕ, ◌+◌, ◌==◌, ◌&&◌, ◌||◌, not, Bool, true, false, nat_le, if◌then◌else◌, length, Option}
use Rattle.std.specs.Prelude.{None, Some, is_some, slice_index_or}
use Rattle.std.specs.Option.{option_map_or}
use Rattle.number_laws.specs.Tests.{all_below}
use Rattle.schedule_model.specs.RowDef.{RowDef, is_job, running_on, holder_in}
use Rattle.schedule_model.specs.Phase.{Phase}
use Rattle.schedule_model.specs.Phase.Phase.{Asking}
use Rattle.schedule_model.specs.declared.rule.Rule.{Rule}
use Rattle.schedule_model.specs.declared.rule.Rule.TheVariants as rule
use Rattle.phase_machine.specs.MachineDef.{MachineDef, task_in}
use Rattle.phase_machine.specs.Now.{phase_now, current_now, active_now, holder_now, requester_now}
use Rattle.phase_machine.specs.Now.{processor_now, is_local_now, holds_now, may_run_now}

-- Does the active job of each task pass?
abbrev pub current_passes : MachineDef → (ℕ → Bool) → ℕ → Bool
current_passes m p x = option_map_or p (current_now m x) true

unfoldable pub each_current : MachineDef → (ℕ → Bool) → Bool
each_current m p = all_below (length m.list.set.tasks) (current_passes m p)

-- Run: is the job that runs in column c, counted from 0, active and ready, and is it the column of the processor that the job runs on?
abbrev pub may_stand : MachineDef → (ℕ → ℕ) → RowDef → ℕ → ℕ → Bool
may_stand m column row c j = active_now m j && (may_run_now m (holder_in row) j && (column j == c + 1))

abbrev pub column_passes : MachineDef → (ℕ → ℕ) → RowDef → ℕ → Bool
column_passes m column row c = option_map_or (may_stand m column row c) (slice_index_or row.running c None) true

unfoldable pub each_stands : MachineDef → (ℕ → ℕ) → RowDef → Bool
each_stands m column row = all_below (length row.running) (column_passes m column row)

-- Run, if each job runs on its task's processor.
abbrev pub passes_run : MachineDef → RowDef → Bool
passes_run m row = each_stands m (processor_now m) row

-- Keep: does the holder of q in the last row hold it, if it still requests q?
abbrev pub stays_holder : MachineDef → RowDef → ℕ → ℕ → Bool
stays_holder m row q j = not (requester_now m q j) || is_job j (holder_in row q)

abbrev pub kept_passes : MachineDef → RowDef → ℕ → Bool
kept_passes m row q = option_map_or (stays_holder m row q) (holder_now m q) true

unfoldable pub passes_keep : MachineDef → RowDef → Bool
passes_keep m row = all_below (length m.list.set.resources) (kept_passes m row)

-- Grant: does the holder of q request it?
abbrev pub holder_passes : MachineDef → RowDef → ℕ → Bool
holder_passes m row q = option_map_or (requester_now m q) (holder_in row q) true

-- Grant: has the resource that job j requests a holder, an old one or one that goes no later than j?
abbrev pub goes_before : MachineDef → (ℕ → ℕ) → ℕ → ℕ → Option ℕ → Bool
goes_before m grant q j None = false
goes_before m grant q j (Some h) = is_job h (holder_now m q) || nat_le (grant h) (grant j)

abbrev pub is_served : MachineDef → (ℕ → ℕ) → RowDef → ℕ → Phase → Bool
is_served m grant row j (Asking n q) = goes_before m grant q j (holder_in row q)
is_served m grant row j _ = true

abbrev pub request_passes : MachineDef → (ℕ → ℕ) → RowDef → ℕ → Bool
request_passes m grant row j = is_served m grant row j (phase_now m j)

unfoldable pub passes_grant : MachineDef → (ℕ → ℕ) → RowDef → Bool
passes_grant m grant row = all_below (length m.list.set.resources) (holder_passes m row) && each_current m (request_passes m grant row)

-- Idle: does job j's processor run something, if j is ready?
abbrev pub idle_passes : MachineDef → RowDef → ℕ → Bool
idle_passes m row j = not (may_run_now m (holder_in row) j) || is_some (running_on row (processor_now m j))

unfoldable pub passes_idle : MachineDef → RowDef → Bool
passes_idle m row = each_current m (idle_passes m row)

-- Priority: does the job that runs on job j's processor go no later than j? Holders go before Local jobs.
abbrev pub runs_before : MachineDef → (ℕ → ℕ) → RowDef → ℕ → Option ℕ → Bool
runs_before m run row j None = true
runs_before m run row j (Some r) =
    (not (holds_now m (holder_in row) j) || (holds_now m (holder_in row) r && nat_le (run r) (run j)))
    && (not (is_local_now m j) || (holds_now m (holder_in row) r || nat_le (task_in m.list.jobs r) (task_in m.list.jobs j)))

abbrev pub priority_passes : MachineDef → (ℕ → ℕ) → RowDef → ℕ → Bool
priority_passes m run row j = runs_before m run row j (running_on row (processor_now m j))

unfoldable pub passes_priority : MachineDef → (ℕ → ℕ) → RowDef → Bool
passes_priority m run row = each_current m (priority_passes m run row)

-- The first rule whose test fails, given the answers of the tests of Run, Keep, Grant, Idle and Priority.
abbrev pub first_of : Bool → Bool → Bool → Bool → Bool → Option Rule
first_of run keep grant idle priority =
    if not run then Some rule.Run
    else (if not keep then Some rule.Keep
    else (if not grant then Some rule.Grant
    else (if not idle then Some rule.Idle
    else (if not priority then Some rule.Priority else None))))

-- The same for a test of each rule; and the test of each rule that five answers make.
abbrev pub first_failing : (Rule → Bool) → Option Rule
first_failing passes = first_of (passes rule.Run) (passes rule.Keep) (passes rule.Grant) (passes rule.Idle) (passes rule.Priority)

abbrev pub by_rule : Bool → Bool → Bool → Bool → Bool → Rule → Bool
by_rule run keep grant idle priority rule.Run = run
by_rule run keep grant idle priority rule.Keep = keep
by_rule run keep grant idle priority rule.Grant = grant
by_rule run keep grant idle priority rule.Idle = idle
by_rule run keep grant idle priority rule.Priority = priority

abbrev pub first_failed : MachineDef → (ℕ → ℕ) → (ℕ → ℕ) → RowDef → Option Rule
first_failed m grant run row =
    first_of (passes_run m row) (passes_keep m row) (passes_grant m grant row) (passes_idle m row) (passes_priority m run row)
