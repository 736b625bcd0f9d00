use Rattle.whole_runs.specs.Takings.{AreTakenTo}
use Rattle.whole_runs.proofs.exchange.take_all.Given as goal

abbrev pub invariant-loop-j : goal.invariant-loop-j
invariant-loop-j l = AreTakenTo l.j l.program l.initial.rows l.rows l.lines.column.items l.k l.r l.lines.pivot
