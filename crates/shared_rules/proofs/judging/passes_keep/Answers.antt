use Rattle.std.proofs.Common.{length, sym, ◌∙◌, arith}
use Rattle.number_laws.proofs.TestLaws.{all_below-fails_from}
use Rattle.schedule_model.specs.Seen.{row_seen}
use Rattle.shared_rules.specs.RowTests.{kept_passes, passes_keep}
use Rattle.shared_rules.proofs.Loops.{all_next}
use Rattle.shared_rules.proofs.judging.passes_keep.Goals as goal

pub returns-then-not-kept_passes : goal.returns-then-not-kept_passes
unfolding passes_keep
returns-then-not-kept_passes c =
    sym (all_below-fails_from (length c.args.machine.now.list.set.resources)
    (kept_passes c.args.machine.now (row_seen c.args.row.now)) c.loop-q.q (omega arith)
    (sym c.kept_passes.ensures ∙ c.if-not-kept_passes.true))

pub loop-q-preserved : goal.loop-q-preserved
loop-q-preserved c = all_next c.loop-q.q (kept_passes c.args.machine.now (row_seen c.args.row.now)) c.loop-q.invariant
    (sym c.kept_passes.ensures ∙ c.if-not-kept_passes.false)
