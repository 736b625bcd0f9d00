use Rattle.std.proofs.Common.{length, sym, ◌∙◌, arith}
use Rattle.std.proofs.lemmas.List.{length-map}
use Rattle.number_laws.proofs.TestLaws.{all_below-fails_from}
use Rattle.schedule_model.specs.Seen.{row_seen, place_seen}
use Rattle.shared_rules.specs.RowTests.{column_passes, each_stands}
use Rattle.shared_rules.proofs.Loops.{all_next}
use Rattle.shared_rules.proofs.judging.each_stands.Goals as goal

pub returns-then-not-column_passes : goal.returns-then-not-column_passes
unfolding each_stands
returns-then-not-column_passes g c =
    sym (all_below-fails_from (length (row_seen c.args.row.now).running)
    (column_passes c.args.machine.now (g.C.Columns.column c.args.columns.now c.args.machine.now) (row_seen c.args.row.now)) c.loop-c.c
    (omega (arith, length-map c.args.row.now.running.items place_seen))
    (sym c.column_passes.ensures ∙ c.if-not-column_passes.true))

pub loop-c-preserved : goal.loop-c-preserved
loop-c-preserved g c = all_next c.loop-c.c
    (column_passes c.args.machine.now (g.C.Columns.column c.args.columns.now c.args.machine.now) (row_seen c.args.row.now))
    c.loop-c.invariant (sym c.column_passes.ensures ∙ c.if-not-column_passes.false)
