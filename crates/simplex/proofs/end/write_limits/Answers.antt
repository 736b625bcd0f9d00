use Rattle.std.proofs.Common.{◌≡◌, ◌≢◌, ◌<◌, length, length-set, sym, ap, ◌∙◌, refl, arith}
use Rattle.exchange_runs.specs.Table.{Table}
use Rattle.fraction128.specs.Scaling.{fraction_at}
use Rattle.simplex.specs.Rows.{RowDef, cell_at}
use Rattle.simplex.specs.Tables.{table_of}
use Rattle.simplex.proofs.Cells.{row_read}
use Rattle.exchange_runs.proofs.Loops.{value_more}
use Rattle.simplex.proofs.Ending.{value_written}
use Rattle.simplex.proofs.end.write_limits.Goals as goal
use Rattle.simplex.proofs.end.write_limits.Goals.{then-column-values, else-column-values}

pub loop-i-preserved : goal.loop-i-preserved
loop-i-preserved c v l =
    let within : c.loop-i.i < length c.args.rows.now = omega (arith, c.requires.enough, c.loop-i-test.true) in
    let t : Table = table_of c.args.rows.now c.args.basis.now in
    elim c.if-column-values.branch [
      | then-column-values w ↦
          let here : v < length c.loop-i.values = rw (w.values-is, length-set c.loop-i.values (t.basic c.loop-i.i) w.cell.result) at l in
          let is : w.cell.result ≡ t.cell c.loop-i.i c.args.place
          = w.cell.ensures.value
          ∙ ap (λ (row : RowDef). cell_at row c.args.place)
          (sym (row_read c.args.rows.now c.loop-i.i w.index-rows-i.result within w.index-rows-i.is)) in
          rw w.values-is
          (value_written c.args.place t c.loop-i.i (t.basic c.loop-i.i) v c.loop-i.values w.cell.result
          w.if-column-values.true refl is here c.loop-i.invariant)
      | else-column-values w ↦
          let here : v < length c.loop-i.values = rw w.values-is at l in
          let other : t.basic c.loop-i.i ≢ v = omega (arith, w.if-column-values.false) in
          rw w.values-is (value_more c.args.place t c.loop-i.i v (fraction_at c.loop-i.values v) other (c.loop-i.invariant v here))
    ]
