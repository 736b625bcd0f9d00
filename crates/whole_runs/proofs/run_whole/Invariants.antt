use Rattle.std.proofs.Common.{◌<◌}
use Rattle.exchange_runs.specs.SmallRuns.{SmallReached}
use Rattle.whole_runs.specs.Choice.{IsFrom}
use Rattle.whole_runs.specs.Stepping.{table_of, IsTableau}
use Rattle.whole_runs.proofs.run_whole.Given as goal

abbrev pub invariant-loop-exchanges : goal.invariant-loop-exchanges
invariant-loop-exchanges l = record {
  tableau : IsTableau l.program l.tableau;
  earlier : IsFrom l.program l.tableau.rows.items l.tableau.stands.items l.from;
  left : 0 < l.units → l.exchanges < l.units;
  reached : SmallReached l.program l.exchanges (table_of l.program l.tableau);
}
