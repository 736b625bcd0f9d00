-- Which jobs interfere with some job, and which ticks are interference by a task?
use Rattle.std.specs.Prelude.{ℕ, ◌==◌, ◌&&◌, Bool, false, length}
use Rattle.std.specs.Option.{option_map_or}
use Rattle.number_laws.specs.Tests.{any_below}
use Rattle.schedule_model.specs.RowDef.{Trace, running_on}
use Rattle.schedule_model.specs.Activity.{task_of, processor_of}
use Rattle.schedule_model.specs.BlockedTicks.{is_interferer}

-- Does job y make tick t interference for some job of the list?
unfoldable pub interferes_with_some : (Trace → ℕ → ℕ → Bool) → Trace → ℕ → ℕ → Bool
interferes_with_some interferes w t y = any_below (length w.jobs) (λ j. is_interferer interferes w t j y)

-- Does a job of task h make tick t interference for job j?
unfoldable pub is_interference_of : (Trace → ℕ → ℕ → Bool) → Trace → ℕ → ℕ → ℕ → Bool
is_interference_of interferes w t j h =
    interferes w t j && option_map_or (λ y. task_of w y == h) (running_on (w.row t) (processor_of w j)) false
