use Rattle.std.proofs.Common.{arith}
use Rattle.fragments.proofs.RowStretches.{row_over_requests}
use Rattle.fragments.proofs.single_rows.EachRequestPerRequest.add.Goals as goal

pub add_row_limited-requires-clause-row : goal.add_row_limited-requires-clause-row
add_row_limited-requires-clause-row g c =
    let set = c.args.set.now in
    let i = c.args.i.0 in
    let x = c.args.x.0 in
    let q = c.args.q.0 in
    let kind = c.args.self.now.0 in
    row_over_requests (g.K.RequestRow.row_of kind set i x q) c.requires.columns
    (omega (arith, c.resources-resources.ensures.most, c.resources-resources.ensures.value)) (g.met.K.RequestRow.alone kind set i x q)
