-- The task sets of a study, as functions of the generator's state and of the step. A greater step makes greater loads.
use Rattle.std.specs.Prelude.{ℕ, zero, suc, ◌+◌, ◌*◌, ◌/◌, ◌%◌, ◌==◌, Bool, nat_lt, if◌then◌else◌, List, [], ◌∷◌, ◌++◌}
use Rattle.std.specs.Prelude.{take, drop, codes, decimal, slice_index, Some}
use Rattle.std.specs.List.{filter, flat_map, position_or_len}
use Rattle.sporadic_model.specs.SetDef.{RequestDef, TaskDef, ResourceDef, SetDef}
use Rattle.study_gen.specs.Generator.{next_state, picked}

-- The periods that tasks may have, in ticks.
abbrev pub periods : List ℕ
periods = 10000 ∷ 20000 ∷ 25000 ∷ 40000 ∷ 50000 ∷ 100000 ∷ 200000 ∷ 1000000 ∷ []

-- Three resources, with their homes on the first three processors.
abbrev pub resources : List ResourceDef
resources = record { name = codes "r1"; home = Some 1 } ∷ record { name = codes "r2"; home = Some 2 }
    ∷ record { name = codes "r3"; home = Some 3 } ∷ []

-- Has a task an entry for the resource whose draws begin at this state? One in four has.
abbrev pub is_asked : ℕ → Bool
is_asked s = picked s 0 3 == 0

-- The entry for a resource of this name, if there is one: a count, and a length in ticks.
abbrev pub entry_at : List ℕ → ℕ → List RequestDef
entry_at name s = if is_asked s
    then record {
      resource = name;
      count = picked (next_state s) 1 2;
      length = picked (next_state (next_state s)) 1 100;
    } ∷ []
    else []

-- The state after the draws of a resource.
abbrev pub behind_entry : ℕ → ℕ
behind_entry s = if is_asked s then next_state (next_state (next_state s)) else next_state s

-- The entries for the three resources.
abbrev pub entries_at : ℕ → List RequestDef
entries_at s = entry_at (codes "r1") s ++ (entry_at (codes "r2") (behind_entry s) ++ entry_at (codes "r3") (behind_entry (behind_entry s)))

-- Task number j, whose draws begin at this state: its period, its load in thousandths, then its entries.
abbrev pub period_at : ℕ → ℕ
period_at s = slice_index periods (picked s 0 7)

abbrev pub cost_at : ℕ → ℕ → ℕ
cost_at step s = period_at s * picked (next_state s) (25 * step) (75 * step) / 1000

abbrev pub task_drawn : ℕ → ℕ → ℕ → TaskDef
task_drawn step j s = record {
  name = codes "g" ++ decimal j;
  processor = j % 4 + 1;
  period = period_at s;
  deadline = period_at s;
  cost = cost_at step s;
  local = cost_at step s;
  jitter = 0;
  requests = entries_at (next_state (next_state s));
}

-- The state after the draws of a task.
abbrev pub behind_task : ℕ → ℕ
behind_task s = behind_entry (behind_entry (behind_entry (next_state (next_state s))))

-- The state after the draws of the first j tasks of a set.
abbrev pub behind_tasks : ℕ → ℕ → ℕ
behind_tasks s zero = s
behind_tasks s (suc j) = behind_task (behind_tasks s j)

-- The first j tasks of a set, in the order in which they are drawn.
abbrev pub tasks_drawn : ℕ → ℕ → ℕ → List TaskDef
tasks_drawn step s zero = []
tasks_drawn step s (suc j) = tasks_drawn step s j ++ task_drawn step j (behind_tasks s j) ∷ []

-- Tasks in the order of their periods. Tasks of one period keep their order.
abbrev pub in_period_order : List TaskDef → List TaskDef
in_period_order tasks = flat_map (λ p. filter (λ t. t.period == p) tasks) periods

-- Tasks with one more, which is put before the first of a longer period.
abbrev pub with_task_in_place : List TaskDef → TaskDef → List TaskDef
with_task_in_place tasks t =
    take (position_or_len (λ x. nat_lt t.period x.period) tasks) tasks ++ t
    ∷ drop (position_or_len (λ x. nat_lt t.period x.period) tasks) tasks

-- The set of a step that is made at a state: eight tasks on four processors.
abbrev pub set_made : ℕ → ℕ → SetDef
set_made step s = record { processors = 4; resources = resources; tasks = in_period_order (tasks_drawn step s 8) }

-- The state after that set.
abbrev pub behind_set : ℕ → ℕ
behind_set s = behind_tasks s 8
