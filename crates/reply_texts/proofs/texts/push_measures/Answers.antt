use Rattle.std.specs.Prelude.{slice_index_or}
use Rattle.sporadic_model.specs.SetDef.{task_at}
use Rattle.schedule_answers.specs.TaskAnswers.{measure_seen, no_measure}
use Rattle.reply_texts.specs.Texts.{measures_line}
use Rattle.text_pieces.proofs.Lines.{lines_more}
use Rattle.reply_texts.proofs.texts.push_measures.Goals as goal

pub loop-x-preserved : goal.loop-x-preserved
loop-x-preserved c = lines_more
    (λ x.
    measures_line (task_at c.args.set.now x).name (measure_seen (slice_index_or c.args.measures.now x no_measure)))
    c.args.text.now.items c.loop-x.text.items c.push_task.new.text.items c.loop-x.x
    c.loop-x.invariant c.in_ok-push_task.ensures
