use Rattle.std.specs.Prelude.{slice_index_or}
use Rattle.sporadic_model.specs.SetDef.{task_at}
use Rattle.schedule_answers.specs.TaskAnswers.{no_figures}
use Rattle.reply_texts.specs.Texts.{figures_line}
use Rattle.text_pieces.proofs.Lines.{lines_more}
use Rattle.reply_texts.proofs.texts.push_all_figures.Goals as goal

pub loop-x-preserved : goal.loop-x-preserved
loop-x-preserved c =
    lines_more (λ x. figures_line (task_at c.args.set.now x).name (slice_index_or c.args.figures.now x no_figures))
    c.args.text.now.items c.loop-x.text.items c.push_figures_line.new.text.items c.loop-x.x
    c.loop-x.invariant c.in_ok-push_figures_line.ensures
