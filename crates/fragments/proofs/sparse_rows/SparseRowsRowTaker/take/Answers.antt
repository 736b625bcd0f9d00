use Rattle.std.proofs.Common.{◌≡◌, ◌<◌, length, slice_index_or, ◌∙◌, ap, arith}
use Rattle.std.proofs.lemmas.List.{length-map, get_or_default}
use Rattle.blocking_columns.specs.declared.columns.Fragment.{Fragment}
use Rattle.blocking_columns.specs.ColumnDef.{column_seen}
use Rattle.fragments.proofs.Nonzero.{row_continued, row_ended}
use Rattle.fragments.proofs.sparse_rows.SparseRowsRowTaker.take.Goals as goal

pub loop-place-preserved : goal.loop-place-preserved
loop-place-preserved g c few =
    let row = g.K.RowKind.row_of c.args.kind.now c.args.set.now c.args.i.0 in
    let columns = c.args.columns.now in
    let place = c.loop-place.place in
    let within : place < length columns = omega (arith, c.loop-place-test.true, c.requires.row.stretch.within) in
    let is : (d : Fragment) → c.coefficient-number.result ≡ row.coefficient (column_seen (slice_index_or columns place d)) = λ d.
    c.coefficient-number.ensures ∙ ap (λ (x : Fragment). row.coefficient (column_seen x)) (get_or_default columns place _ d within) in
    row_continued c.args.self.now c.loop-place.self c.add_nonzero.new.rows row columns place c.args.limit c.coefficient-number.result is
    (c.loop-place.invariant few) (c.in_ok-add_nonzero.ensures.row (omega (arith, within, few))) c.in_ok-add_nonzero.ensures.limits

pub returns : goal.returns
returns g c few =
    row_ended c.args.self.now c.loop-place.self (g.K.RowKind.row_of c.args.kind.now c.args.set.now c.args.i.0) c.args.columns.now
    c.args.stretch.0 c.args.stretch.1 c.loop-place.place c.args.limit c.args._bounds.now c.requires.row.stretch (omega arith)
    (omega (arith, c.requires.row.stretch.order, c.requires.row.stretch.within)) c.requires.limit c.requires.there
    (c.loop-place.invariant (omega (arith, few, length-map c.args.columns.now column_seen)))
