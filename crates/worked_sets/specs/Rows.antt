-- The task set of rows of numbers.
use Rattle.std.specs.Prelude.{ℕ, ◌+◌, List, [], ◌∷◌, ◌++◌, Option, map, codes, decimal}
use Rattle.sporadic_model.specs.SetDef.{RequestDef, TaskDef, ResourceDef, SetDef}
use Rattle.worked_sets.specs.declared.rows.EntryRow.{EntryRow}
use Rattle.worked_sets.specs.declared.rows.TaskRow.{TaskRow}
use Rattle.worked_sets.specs.declared.rows.SetRow.{SetRow}

-- Resources are named r0, r1, .., and tasks t0, t1, ..
abbrev pub resource_name : ℕ → List ℕ
resource_name q = codes "r" ++ decimal q

abbrev pub task_name : ℕ → List ℕ
task_name x = codes "t" ++ decimal x

-- The entry of a row: it requests the resource of that number.
abbrev pub entry_in : EntryRow → RequestDef
entry_in row = record { resource = resource_name row.resource; count = row.count; length = row.length }

-- Task number x of a row: its numbers are the row's, and its deadline is its period.
abbrev pub task_in : ℕ → TaskRow → TaskDef
task_in x row = record {
  name = task_name x;
  processor = row.processor;
  period = row.period;
  deadline = row.period;
  cost = row.cost;
  local = row.local;
  jitter = row.jitter;
  requests = map entry_in row.entries.now;
}

-- The tasks of rows, the first of which has number x.
abbrev pub tasks_from : ℕ → List TaskRow → List TaskDef
tasks_from x [] = []
tasks_from x (row ∷ rows) = task_in x row ∷ tasks_from (x + 1) rows

-- The resources with these homes, the first of which has number q.
abbrev pub resources_from : ℕ → List (Option ℕ) → List ResourceDef
resources_from q [] = []
resources_from q (home ∷ homes) = record { name = resource_name q; home = home } ∷ resources_from (q + 1) homes

-- The set of a row.
abbrev pub set_in : SetRow → SetDef
set_in row = record {
  processors = row.processors;
  resources = resources_from 0 row.homes.now;
  tasks = tasks_from 0 row.tasks.now;
}
