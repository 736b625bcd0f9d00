use Rattle.std.proofs.Common.{sym, ap, subst, inr, refl}
use Rattle.command_words.specs.Words.{Form, Study}
use Rattle.run_plans.specs.Commands.{IsStudyAnswer, plan_of}
use Rattle.command_words.specs.FormSeen.{form_seen}
use Rattle.command_inputs.specs.Known.{Shown, shown}
use Rattle.run_plans.specs.Outcome.{IsReplyOf}
use Rattle.command_inputs.specs.Halts.{Answered}
use Rattle.run_plans.proofs.ReplyLaws.{answered_also}
use Rattle.block_top.proofs.commands.command_reply.Goals as goal

pub returns-in-Study-clause-reply : goal.returns-in-Study-clause-reply
returns-in-Study-clause-reply g c =
    let shelf : Shown = shown (g.S.Shelf.seen c.args.shelf.now) (g.S.Shelf.seen c.args.shelf.now) in
    subst (λ (f : Form). Answered c.study_counts.result (IsReplyOf shelf (plan_of f))) (sym (ap form_seen c.in-Study.is))
    (answered_also (IsStudyAnswer c.in-Study.seed c.in-Study.sets)
    (IsReplyOf shelf (plan_of (Study c.in-Study.seed c.in-Study.sets))) (λ a is. inr (is, refl))
    c.study_counts.result c.study_counts.ensures)
