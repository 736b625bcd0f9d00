use Rattle.std.proofs.Common.{◌≡◌, ℕ, ◌<◌, ◌≤◌, List, length}
use Rattle.std.specs.Prelude.{IfSome}
use Rattle.exchange_runs.specs.Table.{variables}
use Rattle.whole_runs.specs.States.{stand_at, table_seen}
use Rattle.whole_runs.specs.Columns.{IsColumn}
use Rattle.whole_runs.specs.Choice.{IsLeastSoFar}
use Rattle.whole_runs.specs.declared.stands.Stand.{Stand}
use Rattle.whole_runs.specs.declared.stands.Stand.TheVariants.{Outside}
use Rattle.whole_runs.proofs.Choosing.{IsSplit}
use Rattle.whole_runs.proofs.choice.least_ratio.Given as goal

-- the rows below `from` are done
abbrev pub invariant-loop-j : goal.invariant-loop-j
invariant-loop-j l =
    (from : ℕ) × (IsSplit l.column l.j from) × (from ≤ length l.basis) × (IfSome l.best (λ b. b.row < from))
    × ((e k : ℕ) (stands : List Stand) → IsColumn l.program l.rows k l.column → e < variables l.program → stand_at stands e ≡ Outside k
    → IsLeastSoFar (variables l.program) (table_seen l.program l.rows l.basis stands) e from l.best)
