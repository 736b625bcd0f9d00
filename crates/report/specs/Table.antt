-- The table of a task set: a header, a line for each task, and the load of each processor.
use Rattle.std.specs.Prelude.{ℕ, ◌+◌, ◌*◌, ◌/◌, ◌==◌, List, ◌++◌, length, codes, decimal}
use Rattle.number_laws.specs.Sums.{sum_below, only_if, collect_below}
use Rattle.sporadic_model.specs.SetDef.{SetDef, TaskDef, task_at}
use Rattle.text_pieces.specs.Columns.{left, right}

-- The words above a task's columns, and the header of the table.
abbrev pub task_words : List ℕ
task_words = left 32 (codes "task") ++ (right 3 (codes "cpu") ++ (right 11 (codes "period") ++ (right 11 (codes "deadline")
    ++ (right 11 (codes "cost") ++ right 11 (codes "local")))))

abbrev pub header : List ℕ
header = task_words ++ codes "\n"

-- A task's period, deadline, cost and local limit, each on the right of 11 places.
abbrev pub ticks_columns : TaskDef → List ℕ
ticks_columns t = right 11 (decimal t.period)
    ++ (right 11 (decimal t.deadline) ++ (right 11 (decimal t.cost) ++ right 11 (decimal t.local)))

-- A task's columns: its name on the left of 32 places, its processor on the right of 3, and its ticks. And its line.
abbrev pub task_columns : TaskDef → List ℕ
task_columns t = left 32 t.name ++ (right 3 (decimal t.processor) ++ ticks_columns t)

abbrev pub task_line : TaskDef → List ℕ
task_line t = task_columns t ++ codes "\n"

-- The load of a processor in millionths: the sum of the greatest part of its time that each of its tasks takes, each rounded down.
abbrev pub load_of : SetDef → ℕ → ℕ
load_of set k = sum_below (length set.tasks)
    (λ x. only_if ((task_at set x).processor == k) ((task_at set x).cost * 1000000 / (task_at set x).period))

-- The line of a processor's load.
abbrev pub load_line : SetDef → ℕ → List ℕ
load_line set k = codes "load " ++ (decimal k ++ (codes " " ++ (decimal (load_of set k) ++ codes "\n")))

-- The lines of all processors. Processors are numbered from 1.
abbrev pub load_lines : SetDef → List ℕ
load_lines set = collect_below set.processors (λ k. load_line set (k + 1))

-- The whole table.
abbrev pub table_text : SetDef → List ℕ
table_text set = header ++ (collect_below (length set.tasks) (λ x. task_line (task_at set x)) ++ load_lines set)
