-- The texts of answers. Each line ends with one line end.
use Rattle.std.specs.Prelude.{ℕ, ◌+◌, List, [], ◌++◌, length, codes, decimal, slice_index, slice_index_or, Option, None, Some}
use Rattle.number_laws.specs.Sums.{collect_below}
use Rattle.sporadic_model.specs.SetDef.{SetDef, task_at}
use Rattle.schedule_model.specs.Measures.{MeasuresDef}
use Rattle.schedule_model.specs.declared.rule.Rule.{Rule}
use Rattle.schedule_model.specs.declared.rule.Rule.TheVariants as rule
use Rattle.schedule_answers.specs.declared.audited.TaskFigures.{TaskFigures}
use Rattle.schedule_answers.specs.declared.checked.Invalid.{Invalid}
use Rattle.schedule_answers.specs.declared.checked.Invalid.TheVariants as invalid

-- An input of this word that is refused for this reason.
abbrev pub refused_text : List ℕ → List ℕ → List ℕ
refused_text word reason = codes "refused " ++ (word ++ (codes " " ++ (reason ++ codes "\n")))

-- An input of this word that could not be read.
abbrev pub fault_text : List ℕ → List ℕ
fault_text word = codes "fault read " ++ (word ++ codes "\n")

-- Words that have none of the forms.
abbrev pub no_form_text : List ℕ
no_form_text = codes "refused words\n"

-- A set that isn't shown: the task, the value that is above its latest bound, and that bound.
abbrev pub not_shown_text : List ℕ → ℕ → ℕ → List ℕ
not_shown_text name value latest =
    codes "not shown " ++ (name ++ (codes " " ++ (decimal value ++ (codes " " ++ (decimal latest ++ codes "\n")))))

-- A set with this task, whose program forms a fraction that is too wide.
abbrev pub wide_text : List ℕ → List ℕ
wide_text name = codes "wide " ++ (name ++ codes "\n")

-- Programs that need more units than the allowance.
abbrev pub allowance_text : List ℕ
allowance_text = codes "allowance\n"

-- The greatest response of a task's finished jobs, or a dash if none finished.
abbrev pub response_text : Option ℕ → List ℕ
response_text None = codes "-"
response_text (Some ticks) = decimal ticks

-- How many of a task's jobs finished, their greatest response, and its greatest blocking.
abbrev pub measures_text : MeasuresDef → List ℕ
measures_text m = decimal m.finished ++ (codes " " ++ (response_text m.response ++ (codes " " ++ decimal m.blocking)))

-- A task's line: its name, and what is measured of it.
abbrev pub measures_line : List ℕ → MeasuresDef → List ℕ
measures_line name m = name ++ (codes " " ++ (measures_text m ++ codes "\n"))

-- The lines of all tasks, with these measures.
abbrev pub measures_lines : SetDef → (ℕ → MeasuresDef) → List ℕ
measures_lines set measures = collect_below (length set.tasks) (λ x. measures_line (task_at set x).name (measures x))

-- A schedule of this many ticks that keeps the rules, and what is measured of each task.
abbrev pub lawful_text : SetDef → ℕ → (ℕ → MeasuresDef) → List ℕ
lawful_text set ticks measures = codes "lawful " ++ (decimal ticks ++ (codes "\n" ++ measures_lines set measures))

abbrev pub rule_text : Rule → List ℕ
rule_text rule.Run = codes "run"
rule_text rule.Keep = codes "keep"
rule_text rule.Grant = codes "grant"
rule_text rule.Idle = codes "idle"
rule_text rule.Priority = codes "priority"

-- A schedule whose row at this tick breaks this rule.
abbrev pub broken_text : ℕ → Rule → List ℕ
broken_text tick r = codes "broken " ++ (decimal tick ++ (codes " " ++ (rule_text r ++ codes "\n")))

-- How many sets are schedulable under each protocol.
abbrev pub counts_text : List ℕ → List ℕ
counts_text row = decimal (slice_index row 0) ++ (codes " " ++ (decimal (slice_index row 1) ++ (codes " " ++ decimal (slice_index row 2))))

-- The line of step number i of a study, counted from 0: how many of its sets are schedulable under each protocol.
abbrev pub step_line : ℕ → List ℕ → List ℕ
step_line i row = decimal (i + 1) ++ (codes " " ++ (counts_text row ++ codes "\n"))

-- A study: the counts of its eight steps, and how many analyses stopped.
abbrev pub study_text : List (List ℕ) → ℕ → List ℕ
study_text rows stopped = codes "step mpcp fmlp+ dpcp\n"
    ++ (collect_below 8 (λ i. step_line i (slice_index_or rows i [])) ++ (codes "stopped " ++ (decimal stopped ++ codes "\n")))

-- A space and a number.
abbrev pub behind_space : ℕ → List ℕ
behind_space n = codes " " ++ decimal n

-- Two pairs of a measure and its bound: the greatest response of a task's jobs, and their greatest blocking.
abbrev pub bounded_text : TaskFigures → List ℕ
bounded_text f = response_text f.response ++ (behind_space f.bound ++ (behind_space f.blocking ++ behind_space f.value))

-- The ticks of each class.
abbrev pub classes_text : TaskFigures → List ℕ
classes_text f = behind_space f.direct ++ (behind_space f.indirect ++ behind_space f.preemption)

-- The figures of a task.
abbrev pub figures_text : TaskFigures → List ℕ
figures_text f = bounded_text f ++ classes_text f

-- A task's line: its name, and its figures.
abbrev pub figures_line : List ℕ → TaskFigures → List ℕ
figures_line name f = name ++ (codes " " ++ (figures_text f ++ codes "\n"))

-- The lines of all tasks, with these figures.
abbrev pub figures_lines : SetDef → (ℕ → TaskFigures) → List ℕ
figures_lines set figures = collect_below (length set.tasks) (λ x. figures_line (task_at set x).name (figures x))

-- A schedule of this many ticks that keeps the rules and the bounds, and the figures of each task.
abbrev pub kept_text : SetDef → ℕ → (ℕ → TaskFigures) → List ℕ
kept_text set ticks figures = codes "kept " ++ (decimal ticks ++ (codes "\n" ++ figures_lines set figures))

-- A certificate that is valid.
abbrev pub valid_text : List ℕ
valid_text = codes "valid\n"

-- A certificate that is of a set of other bytes.
abbrev pub other_set_text : List ℕ
other_set_text = codes "invalid otherset\n"

-- The text after the word of a test that a task fails: the task's name.
abbrev pub failing_task : SetDef → ℕ → List ℕ
failing_task set i = codes " " ++ ((task_at set i).name ++ codes "\n")

-- A certificate that isn't valid: the first test that fails, and the task that fails it. Columns are counted from 1 in the text.
abbrev pub invalid_text : SetDef → Invalid → List ℕ
invalid_text set invalid.Size = codes "invalid size\n"
invalid_text set (invalid.Bound i) = codes "invalid bound" ++ failing_task set i.0
invalid_text set (invalid.DualSize i) = codes "invalid dualsize" ++ failing_task set i.0
invalid_text set (invalid.Cover i k) =
    codes "invalid cover " ++ ((task_at set i.0).name ++ (codes " " ++ (decimal (k + 1) ++ codes "\n")))
invalid_text set (invalid.Small i) = codes "invalid small" ++ failing_task set i.0
invalid_text set invalid.Memory = []
