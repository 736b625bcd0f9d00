use Rattle.std.proofs.Common.{◌≡◌, ◌++◌}
use Rattle.std.specs.Prelude.{slice_index_or}
use Rattle.number_laws.specs.Sums.{collect_below}
use Rattle.sporadic_model.specs.SetDef.{task_at}
use Rattle.schedule_answers.specs.TaskAnswers.{no_figures}
use Rattle.reply_texts.specs.Texts.{figures_line}
use Rattle.reply_texts.proofs.texts.push_all_figures.Given as goal

-- the lines of the tasks so far are written
abbrev pub invariant-loop-x : goal.invariant-loop-x
invariant-loop-x l = l.text.items ≡ l.initial.text.items
    ++ collect_below l.x (λ x. figures_line (task_at l.set x).name (slice_index_or l.figures x no_figures))
