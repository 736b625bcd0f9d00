use Rattle.std.proofs.Common.{◌≡◌, ◌&&◌, ◌==◌, map, refl, arith}
use Rattle.blocking_columns.specs.ColumnDef.{column_seen}
use Rattle.fragments.specs.RowStretch.{IsRowOver}
use Rattle.fragments.proofs.RowStretches.{row_over_requests}
use Rattle.closer_mpcp_laws.specs.CloserMpcpRows.{resource_holding_row}
use Rattle.mpcp_window_laws.specs.WaitRows.{held_in_waits}
use Rattle.closer_mpcp.proofs.NoIndirect.{none_indirect}
use Rattle.closer_mpcp.proofs.rows.ResourceHoldingRowsPerRequest.add.Goals as goal

pub returns-then-not-has_indirect : goal.returns-then-not-has_indirect
returns-then-not-has_indirect g c =
    let set = c.args.set.now in
    let i = c.args.i.0 in
    let x = c.args.x.0 in
    let q = c.args.q.0 in
    let cs = c.args.columns.now in
    let row = resource_holding_row set (held_in_waits set i) i x q in
    let over : IsRowOver set i row (λ column. (column.task ≡ x) × (column.resource ≡ q)) cs c.args.stretch.0 c.args.stretch.1 =
    row_over_requests row c.requires.columns (omega (arith, c.resources-resources.ensures.most, c.resources-resources.ensures.value))
    (λ column other. rw other refl) in
    g.met.T.RowTaker.missing c.args.taker.now (map column_seen cs) row c.args.bounds.now
    (none_indirect (λ column. (column.task == x) && (column.resource == q)) row.limit cs c.args.stretch.0 c.args.stretch.1 over.stretch
    (c.has_indirect.ensures c.if-not-has_indirect.true))

pub add_row_limited-requires-clause-row : goal.add_row_limited-requires-clause-row
add_row_limited-requires-clause-row g c =
    row_over_requests (resource_holding_row c.args.set.now (held_in_waits c.args.set.now c.args.i.0) c.args.i.0 c.args.x.0 c.args.q.0) c.requires.columns
    (omega (arith, c.resources-resources.ensures.most, c.resources-resources.ensures.value)) (λ column other. rw other refl)
