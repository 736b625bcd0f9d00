use Rattle.std.proofs.Common.{refl}
use Rattle.blocking_columns.proofs.HomeCounts.{mark_read}
use Rattle.blocking_columns.proofs.homes.mark.Goals as goal

pub returns : goal.returns
returns c = mark_read c.args.set.now c.args.i.0 c.args.q.0 c.home-there.result _ c.uses-asked.result _ _ c.args.counts.now
    c.requires.counted.resource c.requires.counted.counts c.home-there.ensures c.uses-asked.ensures (λ asks. rw asks refl) (λ apart. rw apart refl)
    (rw (c.home-there.ensures, c.requires.processor) refl) (rw c.ceiling_place.ensures refl)
