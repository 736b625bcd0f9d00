-- What contracts see of an answer on a task.
use Rattle.std.specs.Prelude.{None}
use Rattle.schedule_model.specs.Measures.{MeasuresDef}
use Rattle.schedule_answers.specs.declared.judged.TaskMeasure.{TaskMeasure}
use Rattle.schedule_answers.specs.declared.audited.TaskFigures.{TaskFigures}

-- What a contract sees of the measures of a task.
abbrev pub measure_seen : TaskMeasure → MeasuresDef
measure_seen m = record { finished = m.finished; response = m.response; blocking = m.blocking }

-- What a look-up past the end gives, of measures and of figures.
abbrev pub no_measure : TaskMeasure
no_measure = record { finished = 0; response = None; blocking = 0 }

abbrev pub no_figures : TaskFigures
no_figures = record { response = None; bound = 0; blocking = 0; value = 0; direct = 0; indirect = 0; preemption = 0 }
