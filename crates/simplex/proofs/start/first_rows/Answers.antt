use Rattle.std.proofs.Common.{arith}
use Rattle.simplex.proofs.Ending.{rows_more}
use Rattle.simplex.proofs.start.first_rows.Goals as goal

pub loop-i-preserved : goal.loop-i-preserved
loop-i-preserved c = record {
  len = omega (arith, c.in_ok-push.ensures.len, c.loop-i.invariant.len);
  first = rw c.in_ok-push.ensures.items
      (rows_more c.args.program.now c.loop-i.rows.items c.in_ok-first_row.field-0 c.loop-i.i
      (omega (arith, c.loop-i.rows.ok.0, c.loop-i.invariant.len))
      c.loop-i.invariant.first c.in_ok-first_row.ensures);
}
