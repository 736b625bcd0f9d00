use Rattle.std.proofs.Common.{length, sym, ◌∙◌, arith}
use Rattle.number_laws.proofs.TestLaws.{all_below-fails_from}
use Rattle.schedule_model.specs.Seen.{row_seen}
use Rattle.shared_rules.specs.RowTests.{holder_passes}
use Rattle.shared_rules.proofs.Loops.{all_next}
use Rattle.shared_rules.proofs.judging.holders_pass.Goals as goal

pub returns-then-not-holder_passes : goal.returns-then-not-holder_passes
returns-then-not-holder_passes c =
    sym (all_below-fails_from (length c.args.machine.now.list.set.resources)
    (holder_passes c.args.machine.now (row_seen c.args.row.now)) c.loop-q.q (omega arith)
    (sym c.holder_passes.ensures ∙ c.if-not-holder_passes.true))

pub loop-q-preserved : goal.loop-q-preserved
loop-q-preserved c = all_next c.loop-q.q (holder_passes c.args.machine.now (row_seen c.args.row.now)) c.loop-q.invariant
    (sym c.holder_passes.ensures ∙ c.if-not-holder_passes.false)
