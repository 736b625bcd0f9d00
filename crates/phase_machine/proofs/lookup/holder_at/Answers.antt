use Rattle.std.proofs.Common.{length, arith}
use Rattle.std.proofs.lemmas.List.{length-map}
use Rattle.schedule_model.specs.Seen.{place_seen}
use Rattle.phase_machine.proofs.Named.{read_below}
use Rattle.phase_machine.proofs.lookup.holder_at.Goals as goal

pub returns-clause-within : goal.returns-clause-within
returns-clause-within c =
    read_below c.args.row.now.holders.items c.args.q.0 (length c.args.machine.now.list.jobs) c.index.result.now
    (omega
    (arith, c.requires.resource, c.requires.fits.sized.resources, length-map c.args.row.now.holders.items place_seen))
    c.index.ensures (λ j e. c.requires.fits.holders c.args.q.0 j e)
