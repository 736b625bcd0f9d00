use Rattle.std.proofs.Common.{◌≡◌, ◌<◌, ℕ, length, take, drop, None}
use Rattle.trace_csv.specs.LinesTaken.{reason_at}
use Rattle.trace_csv.proofs.lines.take_lines.Given as goal

abbrev pub invariant-lines : goal.invariant-lines
invariant-lines g l = record {
  taken : g.T.LineTaker.has l.form (take l.line l.fn.lines) l.taker;
  earlier : (j : ℕ) → j < l.line → reason_at (g.F.LineForm.reason l.form) l.fn.lines j ≡ None;
  left : drop l.line l.fn.lines ≡ l.lines;
}

abbrev pub decreases-lines : goal.decreases-lines
decreases-lines g l = length l.lines
