use Rattle.std.proofs.Common.{◌≡◌, ℕ, ◌<◌, length, get_or}
use Rattle.std.specs.Prelude.{slice_index}
use Rattle.schedule_answers.specs.TaskAnswers.{no_measure}
use Rattle.audit_figures.specs.Sums.{sums_at}
use Rattle.schedule_answers.specs.TaskAnswers.{no_figures}
use Rattle.audit_figures.specs.Beside.{figures_from}
use Rattle.audit_figures.proofs.beside.put_together.Given as goal

abbrev pub invariant-loop-x : goal.invariant-loop-x
invariant-loop-x l = record {
  size : length l.figures.items ≡ l.x;
  each : (x : ℕ) → x < l.x → get_or l.figures.items x no_figures
      ≡ figures_from (get_or l.measures x no_measure) (slice_index l.bounds x) (slice_index l.values x) (sums_at l.sums x);
}
