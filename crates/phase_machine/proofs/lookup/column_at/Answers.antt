use Rattle.std.proofs.Common.{length, suc, arith}
use Rattle.std.proofs.lemmas.List.{length-map}
use Rattle.schedule_model.specs.Seen.{place_seen}
use Rattle.phase_machine.proofs.Named.{read_below}
use Rattle.phase_machine.proofs.lookup.column_at.Goals as goal

pub returns-clause-within : goal.returns-clause-within
returns-clause-within c =
    read_below c.args.row.now.running.items c.args.c (length c.args.machine.now.list.jobs) c.index.result.now
    (omega (arith, c.requires.column, length-map c.args.row.now.running.items place_seen))
    c.index.ensures (λ j e. c.requires.fits.running (suc c.args.c) j e)
