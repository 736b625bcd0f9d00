use Rattle.std.proofs.Common.{[]}
use Rattle.std.specs.Prelude.{slice_index_or}
use Rattle.reply_texts.specs.Texts.{step_line}
use Rattle.text_pieces.proofs.Lines.{lines_more}
use Rattle.reply_texts.proofs.study.push_steps.Goals as goal

pub loop-i-preserved : goal.loop-i-preserved
loop-i-preserved c = lines_more (λ i. step_line i (slice_index_or c.args.rows.now i [])) c.args.text.now.items
    c.loop-i.text.items c.push_step.new.text.items c.loop-i.i
    c.loop-i.invariant c.in_ok-push_step.ensures
