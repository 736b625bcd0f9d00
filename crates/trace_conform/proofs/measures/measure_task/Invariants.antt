use Rattle.std.proofs.Common.{◌≡◌, ◌≤◌}
use Rattle.number_laws.specs.Tests.{count_below}
use Rattle.schedule_model.specs.Measures.{greatest_below}
use Rattle.trace_conform.specs.Measured.{counts_now, response_now, blocking_now}
use Rattle.trace_conform.proofs.measures.measure_task.Given as goal

abbrev pub invariant-loop-j : goal.invariant-loop-j
invariant-loop-j l = record {
  finished : l.finished ≡ count_below l.j (counts_now l.machine l.x.0);
  most : l.finished ≤ l.j;
  response : l.response ≡ greatest_below l.j (response_now l.machine l.counts l.x.0);
  blocking : l.blocking ≡ greatest_below l.j (blocking_now l.machine l.counts l.x.0);
}
