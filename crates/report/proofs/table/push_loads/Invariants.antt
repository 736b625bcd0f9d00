use Rattle.std.proofs.Common.{◌≡◌, ◌+◌, ◌++◌}
use Rattle.number_laws.specs.Sums.{collect_below}
use Rattle.report.specs.Table.{load_line}
use Rattle.report.proofs.table.push_loads.Given as goal

abbrev pub invariant-loop-k : goal.invariant-loop-k
invariant-loop-k l = l.text.items ≡ l.initial.text.items ++ collect_below l.k (λ k. load_line l.set (k + 1))
