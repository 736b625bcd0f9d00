use Rattle.std.proofs.Common.{refl}
use Rattle.blocking_columns.proofs.HomeCounts.{beside_read}
use Rattle.blocking_columns.proofs.homes.asks_beside.Goals as goal

pub returns : goal.returns
returns c = beside_read c.args.set.now c.args.i.0 c.args.q.0 c.home.result _ c.uses.result c.args.counts.now c.requires.resource
    c.requires.counts c.home.ensures c.uses.ensures (λ asks. rw asks refl) (λ apart. rw apart refl)
