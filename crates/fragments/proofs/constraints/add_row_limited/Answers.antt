use Rattle.std.proofs.Common.{◌≡◌, false, map, nat_lt, sym, ◌∙◌}
use Rattle.sporadic_model.proofs.Mapped.{list_any-map}
use Rattle.blocking_columns.specs.ColumnDef.{column_seen}
use Rattle.fragments.specs.Constraints.{holds_some}
use Rattle.fragments.proofs.constraints.add_row_limited.Goals as goal

pub take-requires-clause-there : goal.take-requires-clause-there
take-requires-clause-there g c =
    let row = g.K.RowKind.row_of c.args.kind.now c.args.set.now c.args.i.0 in
    list_any-map column_seen (λ k. nat_lt 0 (row.coefficient k)) c.args.columns.now ∙ (sym c.holds.ensures ∙ c.if-holds.true)

pub returns-else-holds : goal.returns-else-holds
returns-else-holds g c =
    let row = g.K.RowKind.row_of c.args.kind.now c.args.set.now c.args.i.0 in
    let none : holds_some (map column_seen c.args.columns.now) row ≡ false = list_any-map column_seen
    (λ k. nat_lt 0 (row.coefficient k)) c.args.columns.now ∙ (sym c.holds.ensures ∙ c.if-holds.false) in
    g.met.T.RowTaker.missing c.args.taker.now (map column_seen c.args.columns.now) row c.args.bounds.now none
