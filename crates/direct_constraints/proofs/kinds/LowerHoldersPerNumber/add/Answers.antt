use Rattle.std.proofs.Common.{◌∙◌, map, sym, arith}
use Rattle.blocking_columns.specs.ColumnDef.{column_seen}
use Rattle.fragments.proofs.RowStretches.{row_over_lower}
use Rattle.direct_constraints.specs.Rows.{lower_holder_row}
use Rattle.direct_constraints.proofs.AskedColumns.{no_lower_holders, lower_holders_alone}
use Rattle.direct_constraints.proofs.kinds.LowerHoldersPerNumber.add.Goals as goal

pub returns-then-not-uses : goal.returns-then-not-uses
returns-then-not-uses g c =
    let set = c.args.set.now in
    g.met.T.RowTaker.missing c.args.taker.now (map column_seen c.args.columns.now) (lower_holder_row set c.args.i.0 c.args.number)
    c.args.bounds.now
    (no_lower_holders set c.args.i.0 c.args.number (sym c.uses.ensures ∙ c.if-not-uses.true) c.args.columns.now c.requires.fits.1)

pub add_row_within-requires-clause-row : goal.add_row_within-requires-clause-row
add_row_within-requires-clause-row g c =
    let set = c.args.set.now in
    let i = c.args.i.0 in
    let q = c.args.number in
    row_over_lower set i c.args.columns.now (lower_holder_row set i q) c.args.self.now.from c.requires.at.task c.requires.at.known
    (omega (arith, c.resources-resources.ensures.most, c.resources-resources.ensures.value)) c.requires.fits.2
    (lower_holders_alone set i q)
