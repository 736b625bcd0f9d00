use Rattle.std.proofs.Common.{◌<◌}
use Rattle.exchange_runs.specs.Run.{Reached}
use Rattle.simplex.specs.Tables.{table_of, HasSize}
use Rattle.simplex.proofs.run.Given as goal

abbrev pub invariant-loop-exchanges : goal.invariant-loop-exchanges
invariant-loop-exchanges l = record {
  size : HasSize l.program l.rows.items l.basis.items;
  left : 0 < l.units → l.exchanges < l.units;
  reached : Reached l.program l.exchanges (table_of l.rows.items l.basis.items);
}
