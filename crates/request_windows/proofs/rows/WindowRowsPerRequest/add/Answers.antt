use Rattle.std.proofs.Common.{refl, arith}
use Rattle.fragments.proofs.RowStretches.{row_over_requests}
use Rattle.window_laws.specs.WindowRows.{window_row}
use Rattle.request_windows.proofs.rows.WindowRowsPerRequest.add.Goals as goal

pub add_row_limited-requires-clause-row : goal.add_row_limited-requires-clause-row
add_row_limited-requires-clause-row g c =
    row_over_requests (window_row c.args.set.now c.args.i.0 c.args.x.0 c.args.q.0) c.requires.columns
    (omega (arith, c.resources-resources.ensures.most, c.resources-resources.ensures.value)) (λ column other. rw other refl)
