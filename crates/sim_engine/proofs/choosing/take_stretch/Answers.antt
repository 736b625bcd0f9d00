use Rattle.std.proofs.Common.{arith}
use Rattle.std.proofs.lemmas.Result.{on_ok_weaker}
use Rattle.schedule_model.specs.RowDef.{row_in}
use Rattle.schedule_model.specs.Seen.{row_seen, run_seen}
use Rattle.sim_engine.specs.Writing.{all_runs}
use Rattle.sim_engine.proofs.WrittenRows.{can_end, stretch_more}
use Rattle.sim_engine.proofs.choosing.take_stretch.Goals as goal

pub next_rows-ticks-requires-clause-reached : goal.next_rows-ticks-requires-clause-reached
next_rows-ticks-requires-clause-reached g c = (row_in (all_runs c.args.rows.now (run_seen c.args.last.now)), c.requires.under_way.chosen)

pub add_rows-requires-clause-ends : goal.add_rows-requires-clause-ends
add_rows-requires-clause-ends g c =
    can_end (g.P.BlockingProtocol.chooses c.args.protocol.now) c.args.machine.now c.args.rows.now
    (run_seen c.args.last.now) c.requires.under_way (omega (arith, c.requires.can.early, c.requires.can.most))

pub returns-clause-under_way : goal.returns-clause-under_way
returns-clause-under_way g c =
    on_ok_weaker c.add_rows.result
    (stretch_more (g.P.BlockingProtocol.chooses c.args.protocol.now) c.args.machine.now c.next_rows-ticks.new.machine
    c.args.rows.now c.add_rows.new.rows (run_seen c.args.last.now)
    (run_seen c.add_rows.new.last) (row_seen c.next_rows-ticks.new.row) c.next_rows-ticks.result
    c.next_rows-ticks.ensures.some (g.met.P.Judge.choice_reads c.args.protocol.now)
    c.requires.under_way c.next_rows-ticks.ensures.list c.next_rows-ticks.ensures.tick c.next_rows-ticks.ensures.chosen
    c.next_rows-ticks.ensures.fits)
    c.add_rows.ensures
