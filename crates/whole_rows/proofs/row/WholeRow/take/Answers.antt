use Rattle.std.proofs.Common.{◌≡◌}
use Rattle.whole_rows.specs.Steps.{IsLeftRow}
use Rattle.whole_rows.proofs.row.WholeRow.take.Goals as goal
use Rattle.whole_rows.proofs.row.WholeRow.take.Goals.{in-Short-2, in-Dense-2}

pub returns-in-Some-clause-left : goal.returns-in-Some-clause-left
returns-in-Some-clause-left c divided is =
    let own : c.in-Short.row ≡ c.args.self.now = rw c.in-Short.is at c.self.view_is in
    let left : IsLeftRow c.in-Short.row c.args.k divided c.in-Some.left = (rw c.in-Some.is at c.in_ok-left-in-Short.ensures).1 divided is in
    elim c.match-self-2.branch [
      | in-Short-2 w ↦ rw (w.self-is, ← own) left
      | in-Dense-2 w ↦ rw (w.self-is, ← own) left
    ]

pub returns-in_ok-taken-in-None-clause-left : goal.returns-in_ok-taken-in-None-clause-left
returns-in_ok-taken-in-None-clause-left c divided is =
    let own : c.in-Short.row ≡ c.args.self.now = rw c.in-Short.is at c.self.view_is in
    rw (← own, ← c.in_ok-dense-in-None.ensures) (c.in_ok-taken-in-None.ensures.left divided is)
