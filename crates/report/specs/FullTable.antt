-- The table of a task set with what a certificate proves of each task.
use Rattle.std.specs.Prelude.{ℕ, ◌-◌, List, ◌++◌, length, slice_index, codes, decimal}
use Rattle.number_laws.specs.Sums.{collect_below}
use Rattle.sporadic_model.specs.SetDef.{SetDef, TaskDef, task_at, latest_bound}
use Rattle.text_pieces.specs.Columns.{right}
use Rattle.report.specs.Table.{task_words, task_columns, load_lines}

-- Three more columns: the bound, the value of the dual, and how far the bound is below the latest one.
abbrev pub full_header : List ℕ
full_header = task_words ++ (right 11 (codes "bound") ++ (right 11 (codes "blocking") ++ (right 11 (codes "slack") ++ codes "\n")))

abbrev pub proved_columns : TaskDef → ℕ → ℕ → List ℕ
proved_columns t bound value = right 11 (decimal bound) ++ (right 11 (decimal value) ++ right 11 (decimal (latest_bound t - bound)))

-- A task's line, with its bound and the value of its dual.
abbrev pub full_line : TaskDef → ℕ → ℕ → List ℕ
full_line t bound value = task_columns t ++ (proved_columns t bound value ++ codes "\n")

-- The lines of all tasks, and the whole table.
abbrev pub full_lines : SetDef → List ℕ → (ℕ → ℕ) → List ℕ
full_lines set bounds value = collect_below (length set.tasks) (λ x. full_line (task_at set x) (slice_index bounds x) (value x))

abbrev pub full_text : SetDef → List ℕ → (ℕ → ℕ) → List ℕ
full_text set bounds value = full_header ++ (full_lines set bounds value ++ load_lines set)
