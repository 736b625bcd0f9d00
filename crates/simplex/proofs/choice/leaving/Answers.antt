use Rattle.std.proofs.Common.{◌≡◌, ◌<◌, length, sym, ap, ◌∙◌, refl, arith}
use Rattle.std.proofs.lemmas.Result.{err_from_is_err_and}
use Rattle.std.proofs.lemmas.Bool.{false≢true}
use Rattle.exchange_runs.specs.Table.{Table}
use Rattle.simplex.specs.Rows.{RowDef, cell_at}
use Rattle.simplex.specs.Tables.{table_of}
use Rattle.simplex.proofs.Cells.{row_read}
use Rattle.simplex.proofs.Ratios.{no_more, ratio_read, has_read, so_far_within, wide_ratio}
use Rattle.simplex.proofs.choice.leaving.Goals as goal
use Rattle.simplex.proofs.choice.leaving.Goals.{then-is_above_zero+in_ok-ratio, else-is_above_zero}

pub better_or_first-requires : goal.better_or_first-requires
better_or_first-requires c = record {
  earlier = so_far_within c.args.place (table_of c.args.rows.now c.args.basis.now) c.args.e c.loop-i.i c.loop-i.best c.loop-i.invariant;
  within = c.loop-i-test.true;
}

pub returns-in_err-ratio : goal.returns-in_err-ratio
returns-in_err-ratio c =
    let stop = err_from_is_err_and c.from_residual.result c.from_residual.ensures.1 in
    let t : Table = table_of c.args.rows.now c.args.basis.now in
    let i = c.loop-i.i in
    let again = c.index-rows-i-then-is_above_zero in
    let within : c.loop-i.i < length c.args.rows.now = omega (arith, c.requires, c.loop-i-test.true) in
    let cell : c.cell-cell.result ≡ t.cell c.loop-i.i c.args.e
    = c.cell-cell.ensures.value
    ∙ ap (λ (row : RowDef). cell_at row c.args.e) (sym (row_read c.args.rows.now i c.index-rows-i.result within c.index-rows-i.is)) in
    let bound : c.cell.result ≡ t.cell c.loop-i.i c.args.place
    = c.cell.ensures.value
    ∙ ap (λ (row : RowDef). cell_at row c.args.place) (sym (row_read c.args.rows.now i again.result within again.is)) in
    rw stop.1
    (wide_ratio c.args.place t c.args.e i (length c.args.basis.now) c.cell.result c.cell-cell.result bound cell c.loop-i-test.true
    (has_read t c.args.e i c.cell-cell.result cell (c.if-is_above_zero.ensures.0 refl)) c.in_err-ratio.ensures)

pub loop-i-preserved : goal.loop-i-preserved
loop-i-preserved c =
    let t : Table = table_of c.args.rows.now c.args.basis.now in
    let i = c.loop-i.i in
    let within : c.loop-i.i < length c.args.rows.now = omega (arith, c.requires, c.loop-i-test.true) in
    let cell : c.cell-cell.result ≡ t.cell c.loop-i.i c.args.e
    = c.cell-cell.ensures.value
    ∙ ap (λ (row : RowDef). cell_at row c.args.e) (sym (row_read c.args.rows.now i c.index-rows-i.result within c.index-rows-i.is)) in
    elim c.if-is_above_zero.branch [
      | then-is_above_zero+in_ok-ratio w ↦
          let bound : w.cell.result ≡ t.cell c.loop-i.i c.args.place
          = w.cell.ensures.value
          ∙ ap (λ (row : RowDef). cell_at row c.args.place)
          (sym (row_read c.args.rows.now i w.index-rows-i-then-is_above_zero.result within w.index-rows-i-then-is_above_zero.is)) in
          rw w.best-is
          (w.better_or_first.ensures t c.args.place c.args.e (λ k. refl) c.loop-i.invariant
          (has_read t c.args.e i c.cell-cell.result cell (w.if-is_above_zero.ensures.0 refl))
          (ratio_read c.args.place t c.args.e i w.cell.result c.cell-cell.result w.in_ok-ratio.ratio bound cell
          w.in_ok-ratio.ensures.0 w.in_ok-ratio.ensures.1))
      | else-is_above_zero w ↦
          rw w.best-is
          (no_more c.args.place t c.args.e i c.loop-i.best c.loop-i.invariant
          (λ h. absurd (false≢true (w.if-is_above_zero.ensures.1 (rw cell h.above)))))
    ]
