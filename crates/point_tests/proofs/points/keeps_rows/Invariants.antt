use Rattle.std.proofs.Common.{ℕ, ◌<◌}
use Rattle.refusal_confirm.specs.Tests.{KeepsRow}
use Rattle.point_tests.specs.Worth.{point_over}
use Rattle.point_tests.proofs.points.keeps_rows.Given as goal

-- the rows so far are kept
abbrev pub invariant-loop-row : goal.invariant-loop-row
invariant-loop-row l = (r : ℕ) → r < l.row → KeepsRow l.program (point_over l.den l.num) r
