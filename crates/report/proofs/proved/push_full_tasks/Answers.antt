use Rattle.std.proofs.Common.{slice_index}
use Rattle.sporadic_model.specs.SetDef.{task_at}
use Rattle.report.specs.FullTable.{full_line}
use Rattle.text_pieces.proofs.Lines.{lines_more}
use Rattle.report.proofs.proved.push_full_tasks.Goals as goal

pub loop-x-preserved : goal.loop-x-preserved
loop-x-preserved c =
    lines_more
    (λ x. full_line (task_at c.args.set.now x) (slice_index c.args.bounds.now x) (slice_index c.args.values.now x))
    c.args.text.now.items
    c.loop-x.text.items c.push_full_task.new.text.items c.loop-x.x c.loop-x.invariant c.in_ok-push_full_task.ensures
