use Rattle.std.proofs.Common.{refl, arith}
use Rattle.fragments.proofs.RowStretches.{row_over_requests}
use Rattle.mpcp_window_laws.specs.WaitRows.{direct_wait_row}
use Rattle.closer_mpcp.proofs.wait_rows.DirectWaitRowsPerRequest.add.Goals as goal

pub add_row_limited-requires-clause-row : goal.add_row_limited-requires-clause-row
add_row_limited-requires-clause-row g c =
    row_over_requests (direct_wait_row c.args.set.now c.args.i.0 c.args.x.0 c.args.q.0) c.requires.columns
    (omega (arith, c.resources-resources.ensures.most, c.resources-resources.ensures.value)) (λ column other. rw other refl)
