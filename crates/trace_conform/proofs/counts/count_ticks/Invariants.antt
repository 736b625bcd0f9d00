use Rattle.std.proofs.Common.{◌≡◌, length}
use Rattle.schedule_model.specs.RowDef.{row_in}
use Rattle.trace_conform.proofs.CountedTicks.{CountedBelow}
use Rattle.trace_conform.proofs.counts.count_ticks.Given as goal

abbrev pub invariant-loop-x : goal.invariant-loop-x
invariant-loop-x g l = record {
  size : length l.counts ≡ length l.initial.counts;
  below : CountedBelow (g.P.BlockingProtocol.interferes l.protocol) l.machine (row_in (g.R.RowReader.rows l.rows).runs) l.ticks l.x l.initial.counts l.counts;
}
