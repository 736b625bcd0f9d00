use Rattle.std.proofs.Common.{length, sym, ◌∙◌, arith}
use Rattle.number_laws.proofs.TestLaws.{all_below-fails_from}
use Rattle.shared_rules.specs.RowTests.{current_passes, each_current}
use Rattle.shared_rules.proofs.Loops.{all_next}
use Rattle.shared_rules.proofs.walking.each_passes.Goals as goal

pub returns-then-not-current_passes : goal.returns-then-not-current_passes
unfolding each_current
returns-then-not-current_passes g c =
    sym (all_below-fails_from (length c.args.machine.now.list.set.tasks)
    (current_passes c.args.machine.now (g.T.JobTest.passes c.args.test.now c.args.machine.now)) c.loop-x.x (omega arith)
    (sym c.current_passes.ensures ∙ c.if-not-current_passes.true))

pub loop-x-preserved : goal.loop-x-preserved
loop-x-preserved g c = all_next c.loop-x.x
    (current_passes c.args.machine.now (g.T.JobTest.passes c.args.test.now c.args.machine.now)) c.loop-x.invariant
    (sym c.current_passes.ensures ∙ c.if-not-current_passes.false)
