use Rattle.std.proofs.Common.{◌<◌}
use Rattle.free_search.specs.Tables.{IsAfter}
use Rattle.free_search.proofs.search.Given as goal

abbrev pub invariant-loop-exchanges : goal.invariant-loop-exchanges
invariant-loop-exchanges l = record {
  after : IsAfter l.program l.exchanges l.tableau;
  left : 0 < l.units → l.exchanges < l.units;
}
