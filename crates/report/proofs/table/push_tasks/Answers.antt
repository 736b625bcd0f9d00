use Rattle.sporadic_model.specs.SetDef.{task_at}
use Rattle.report.specs.Table.{task_line}
use Rattle.text_pieces.proofs.Lines.{lines_more}
use Rattle.report.proofs.table.push_tasks.Goals as goal

pub loop-x-preserved : goal.loop-x-preserved
loop-x-preserved c = lines_more (λ x. task_line (task_at c.args.set.now x)) c.args.text.now.items c.loop-x.text.items
    c.push_task.new.text.items c.loop-x.x
    c.loop-x.invariant c.in_ok-push_task.ensures
