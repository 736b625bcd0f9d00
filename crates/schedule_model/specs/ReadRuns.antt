-- The runs of a list of runs of equal rows, by their number.
use Rattle.std.specs.Prelude.{ℕ, List, slice_index_or}
use Rattle.schedule_model.specs.RowDef.{RunDef, idle_row}

-- What a look-up past the end gives: a run of no ticks.
abbrev pub no_run : RunDef
no_run = record { ticks = 0; row = idle_row }

-- Run number i.
abbrev pub run_of : List RunDef → ℕ → RunDef
run_of runs i = slice_index_or runs i no_run
