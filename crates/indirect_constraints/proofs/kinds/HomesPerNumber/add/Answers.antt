use Rattle.std.proofs.Common.{◌+◌, ◌∙◌, map, sym, arith}
use Rattle.blocking_columns.specs.ColumnDef.{column_seen}
use Rattle.fragments.proofs.RowStretches.{row_over_lower}
use Rattle.indirect_constraints.specs.Rows.{home_row}
use Rattle.indirect_constraints.proofs.AskedAtHome.{no_home, home_alone}
use Rattle.indirect_constraints.proofs.kinds.HomesPerNumber.add.Goals as goal

pub returns-then-asked-eq0 : goal.returns-then-asked-eq0
returns-then-asked-eq0 g c =
    let set = c.args.set.now in
    let k = c.args.number + 1 in
    g.met.T.RowTaker.missing c.args.taker.now (map column_seen c.args.columns.now) (home_row set c.args.i.0 k) c.args.bounds.now
    (no_home set c.args.i.0 k (sym c.requests_at-asked.ensures ∙ c.if-asked-eq0.true) c.args.columns.now c.requires.fits.1)

pub add_row_limited-requires-clause-row : goal.add_row_limited-requires-clause-row
add_row_limited-requires-clause-row g c =
    let set = c.args.set.now in
    let i = c.args.i.0 in
    let k = c.args.number + 1 in
    row_over_lower set i c.args.columns.now (home_row set i k) c.args.self.now.from c.requires.at.task c.requires.at.known
    (omega (arith, c.resources-resources.ensures.most, c.resources-resources.ensures.value)) c.requires.fits.2 (home_alone set i k)
