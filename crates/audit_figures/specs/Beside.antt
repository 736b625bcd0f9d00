-- The figures of a task, put together from its parts.
use Rattle.std.specs.Prelude.{ℕ}
use Rattle.schedule_answers.specs.declared.judged.TaskMeasure.{TaskMeasure}
use Rattle.audit_figures.specs.declared.sums.ClassSums.{ClassSums}
use Rattle.schedule_answers.specs.declared.audited.TaskFigures.{TaskFigures}

abbrev pub figures_from : TaskMeasure → ℕ → ℕ → ClassSums → TaskFigures
figures_from measure bound value sums = record {
  response = measure.response;
  bound = bound;
  blocking = measure.blocking;
  value = value;
  direct = sums.direct;
  indirect = sums.indirect;
  preemption = sums.preemption;
}
