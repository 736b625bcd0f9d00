use Rattle.std.specs.Prelude.{slice_index}
use Rattle.schedule_model.specs.RowDef.{row_in}
use Rattle.phase_machine.specs.MachineDef.{under}
use Rattle.charge.specs.Tally.{IsTally, ticks_with}
use Rattle.charge.proofs.counting.charge_ticks.Given as goal

abbrev pub invariant-loop-x : goal.invariant-loop-x
invariant-loop-x g l =
    IsTally l.ticks (ticks_with (g.P.ChargedProtocol.charges l.protocol) (under l.machine (row_in (g.R.RowReader.rows l.rows).runs))
    (slice_index l.bounds) l.machine.tick l.more l.x)
