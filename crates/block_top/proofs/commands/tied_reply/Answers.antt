use Rattle.std.proofs.Common.{sym, subst}
use Rattle.command_words.specs.declared.words.TiedWork.{TiedWork}
use Rattle.command_words.specs.FormSeen.{tied_form}
use Rattle.run_plans.specs.Commands.{analysis_of, check_of, full_table_of, with_certificate, confirming, upgrading, auditing, plan_of}
use Rattle.run_plans.specs.Refuting.{refutation_of}
use Rattle.run_plans.specs.Settling.{settlement_of}
use Rattle.run_plans.specs.Replies.{AnswersPlan}
use Rattle.run_plans.proofs.ReplyLaws.{replied_tied, replied_tied_work}
use Rattle.block_top.proofs.commands.tied_reply.Goals as goal

pub returns-in-Analyse-clause-reply : goal.returns-in-Analyse-clause-reply
returns-in-Analyse-clause-reply g c =
    subst (λ (w : TiedWork). AnswersPlan c.analysis.result (g.S.Shelf.seen c.args.shelf.now) (g.S.Shelf.seen c.get_tied_set.new.shelf)
    (plan_of (tied_form c.args.protocol c.args.name.now w))) (sym c.in-Analyse.is)
    (replied_tied_work (g.S.Shelf.seen c.args.shelf.now) (g.S.Shelf.seen c.get_tied_set.new.shelf) c.args.protocol c.args.name.now
    (λ digest tasks. analysis_of c.args.protocol digest tasks c.in-Analyse.allowance)
    (c.in_ok-set.set, c.in_ok-set.digest) c.analysis.result c.get_tied_set.ensures.keeps c.in_ok-set.ensures.got
    c.analysis.ensures)

pub returns-in-Refute-clause-reply : goal.returns-in-Refute-clause-reply
returns-in-Refute-clause-reply g c =
    subst (λ (w : TiedWork). AnswersPlan c.refutation.result (g.S.Shelf.seen c.args.shelf.now) (g.S.Shelf.seen c.get_tied_set.new.shelf)
    (plan_of (tied_form c.args.protocol c.args.name.now w))) (sym c.in-Refute.is)
    (replied_tied_work (g.S.Shelf.seen c.args.shelf.now) (g.S.Shelf.seen c.get_tied_set.new.shelf) c.args.protocol c.args.name.now
    (λ digest tasks. refutation_of c.args.protocol digest tasks c.in-Refute.allowance)
    (c.in_ok-set.set, c.in_ok-set.digest) c.refutation.result c.get_tied_set.ensures.keeps c.in_ok-set.ensures.got
    c.refutation.ensures)

pub returns-in-Settle-clause-reply : goal.returns-in-Settle-clause-reply
returns-in-Settle-clause-reply g c =
    subst (λ (w : TiedWork). AnswersPlan c.settlement.result (g.S.Shelf.seen c.args.shelf.now) (g.S.Shelf.seen c.get_tied_set.new.shelf)
    (plan_of (tied_form c.args.protocol c.args.name.now w))) (sym c.in-Settle.is)
    (replied_tied_work (g.S.Shelf.seen c.args.shelf.now) (g.S.Shelf.seen c.get_tied_set.new.shelf) c.args.protocol c.args.name.now
    (λ digest tasks. settlement_of c.args.protocol digest tasks c.in-Settle.allowance)
    (c.in_ok-set.set, c.in_ok-set.digest) c.settlement.result c.get_tied_set.ensures.keeps c.in_ok-set.ensures.got
    c.settlement.ensures)

pub returns-in-Check-clause-reply : goal.returns-in-Check-clause-reply
returns-in-Check-clause-reply g c =
    subst (λ (w : TiedWork). AnswersPlan c.judgement_reply.result (g.S.Shelf.seen c.args.shelf.now) (g.S.Shelf.seen c.judgement_reply.new.shelf)
    (plan_of (tied_form c.args.protocol c.args.name.now w))) (sym c.in-Check.is)
    (replied_tied (g.S.Shelf.seen c.args.shelf.now) (g.S.Shelf.seen c.get_tied_set.new.shelf) (g.S.Shelf.seen c.judgement_reply.new.shelf) c.args.protocol c.args.name.now
    (λ digest tasks. with_certificate c.args.protocol c.in-Check.certificate.now (check_of c.args.protocol digest tasks))
    (c.in_ok-set.set, c.in_ok-set.digest) c.judgement_reply.result c.get_tied_set.ensures.keeps c.in_ok-set.ensures.got
    (λ digest tasks works. works) c.judgement_reply.ensures.reply)

pub returns-in-Confirm-clause-reply : goal.returns-in-Confirm-clause-reply
returns-in-Confirm-clause-reply g c =
    subst (λ (w : TiedWork). AnswersPlan c.confirmation_reply.result (g.S.Shelf.seen c.args.shelf.now) (g.S.Shelf.seen c.confirmation_reply.new.shelf)
    (plan_of (tied_form c.args.protocol c.args.name.now w))) (sym c.in-Confirm.is)
    (replied_tied (g.S.Shelf.seen c.args.shelf.now) (g.S.Shelf.seen c.get_tied_set.new.shelf) (g.S.Shelf.seen c.confirmation_reply.new.shelf) c.args.protocol c.args.name.now
    (λ digest tasks. confirming c.args.protocol c.in-Confirm.refusal.now digest tasks)
    (c.in_ok-set.set, c.in_ok-set.digest) c.confirmation_reply.result c.get_tied_set.ensures.keeps c.in_ok-set.ensures.got
    (λ digest tasks works. works) c.confirmation_reply.ensures.reply)

pub returns-in-Upgrade-clause-reply : goal.returns-in-Upgrade-clause-reply
returns-in-Upgrade-clause-reply g c =
    subst (λ (w : TiedWork). AnswersPlan c.upgraded_reply.result (g.S.Shelf.seen c.args.shelf.now) (g.S.Shelf.seen c.upgraded_reply.new.shelf)
    (plan_of (tied_form c.args.protocol c.args.name.now w))) (sym c.in-Upgrade.is)
    (replied_tied (g.S.Shelf.seen c.args.shelf.now) (g.S.Shelf.seen c.get_tied_set.new.shelf) (g.S.Shelf.seen c.upgraded_reply.new.shelf) c.args.protocol c.args.name.now
    (λ digest tasks. upgrading c.args.protocol c.in-Upgrade.certificate.now digest tasks)
    (c.in_ok-set.set, c.in_ok-set.digest) c.upgraded_reply.result c.get_tied_set.ensures.keeps c.in_ok-set.ensures.got
    (λ digest tasks works. works) c.upgraded_reply.ensures.reply)

pub returns-in-FullReport-clause-reply : goal.returns-in-FullReport-clause-reply
returns-in-FullReport-clause-reply g c =
    subst (λ (w : TiedWork). AnswersPlan c.proved_table_reply.result (g.S.Shelf.seen c.args.shelf.now) (g.S.Shelf.seen c.proved_table_reply.new.shelf)
    (plan_of (tied_form c.args.protocol c.args.name.now w))) (sym c.in-FullReport.is)
    (replied_tied (g.S.Shelf.seen c.args.shelf.now) (g.S.Shelf.seen c.get_tied_set.new.shelf) (g.S.Shelf.seen c.proved_table_reply.new.shelf) c.args.protocol c.args.name.now
    (λ digest tasks. with_certificate c.args.protocol c.in-FullReport.certificate.now (full_table_of c.args.protocol digest tasks))
    (c.in_ok-set.set, c.in_ok-set.digest) c.proved_table_reply.result c.get_tied_set.ensures.keeps c.in_ok-set.ensures.got
    (λ digest tasks works. works) c.proved_table_reply.ensures.reply)

pub returns-clause-reply : goal.returns-clause-reply
returns-clause-reply g c =
    subst (λ (w : TiedWork). AnswersPlan c.audited_reply.result (g.S.Shelf.seen c.args.shelf.now) (g.S.Shelf.seen c.audited_reply.new.shelf)
    (plan_of (tied_form c.args.protocol c.args.name.now w))) (sym c.in-Audit.is)
    (replied_tied (g.S.Shelf.seen c.args.shelf.now) (g.S.Shelf.seen c.get_tied_set.new.shelf) (g.S.Shelf.seen c.audited_reply.new.shelf) c.args.protocol c.args.name.now
    (λ digest tasks. auditing c.args.protocol c.in-Audit.inputs.certificate.now c.in-Audit.inputs.jobs.now c.in-Audit.inputs.rows.now digest tasks)
    (c.in_ok-set.set, c.in_ok-set.digest) c.audited_reply.result c.get_tied_set.ensures.keeps c.in_ok-set.ensures.got
    (λ digest tasks works. works) c.audited_reply.ensures.reply)
