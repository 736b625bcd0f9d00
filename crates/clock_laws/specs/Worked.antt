-- Worked examples: a program whose value is not a whole number of ticks, and a schedule whose rows are cycles.
use Rattle.std.specs.Prelude.{List, [], ◌∷◌, None, Some}
use Rattle.program_form.specs.Program.{ProgramDef}
use Rattle.schedule_model.specs.JobDef.{JobsDef}
use Rattle.schedule_model.specs.RowDef.{RunDef, Trace, trace_in}
use Rattle.schedule_model.proofs.WorkedFiles.{job, then_request, local_only, run}
use Rattle.soundness_laws.specs.Worked.{two_tasks}
use Rattle.clock_laws.specs.Cycles.{in_cycles}

-- The program of seven rows, where a tick has three cycles. The costs are three times as great. So are all numbers of the two rows of
-- time, which are the fourth and the fifth. The rows that count stay as they are.
abbrev pub seven_rows_in_cycles : ProgramDef
seven_rows_in_cycles = record {
  costs = 9 ∷ 6 ∷ 6 ∷ [];
  rows = (1 ∷ 0 ∷ 0 ∷ []) ∷ (0 ∷ 1 ∷ 0 ∷ []) ∷ (0 ∷ 0 ∷ 1 ∷ []) ∷ (9 ∷ 6 ∷ 0 ∷ []) ∷ (0 ∷ 0 ∷ 6 ∷ []) ∷ (1 ∷ 0 ∷ 1 ∷ [])
      ∷ (0 ∷ 1 ∷ 0 ∷ []) ∷ [];
  limits = 1 ∷ 1 ∷ 1 ∷ 12 ∷ 9 ∷ 1 ∷ 1 ∷ [];
}

-- The set of two tasks, with two cycles in a tick, and a job of each task. Both jobs ask for the resource after one cycle.
abbrev pub jobs_on_clock : JobsDef
jobs_on_clock = record {
  set = in_cycles 2 two_tasks;
  jobs = job 0 0 (then_request 1 0 2 ∷ local_only 3 ∷ []) ∷ job 1 0 (then_request 1 0 4 ∷ local_only 3 ∷ []) ∷ [];
}

-- The second job is served first, for its four cycles. So the first one is blocked for as long as its value says, and ends at cycle 10.
abbrev pub rows_on_clock : List RunDef
rows_on_clock =
    run 1 (Some 0 ∷ Some 1 ∷ []) (None ∷ [])
    ∷ run 4 (None ∷ Some 1 ∷ []) (Some 1 ∷ [])
    ∷ run 2 (Some 0 ∷ Some 1 ∷ []) (Some 0 ∷ [])
    ∷ run 1 (Some 0 ∷ Some 1 ∷ []) (None ∷ [])
    ∷ run 2 (Some 0 ∷ None ∷ []) (None ∷ [])
    ∷ []

abbrev pub trace_on_clock : Trace
trace_on_clock = trace_in jobs_on_clock rows_on_clock
