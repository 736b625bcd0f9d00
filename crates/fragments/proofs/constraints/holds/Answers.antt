use Rattle.std.proofs.Common.{sym, arith}
use Rattle.fragments.proofs.Zeros.{none_above}
use Rattle.fragments.proofs.constraints.holds.Goals as goal

pub returns : goal.returns
returns g c = sym (none_above (g.K.RowKind.row_of c.args.kind.now c.args.set.now c.args.i.0) c.args.columns.now
    c.args.stretch.1 c.loop-place.place (omega arith) c.loop-place.invariant c.requires.row.stretch.behind)
