use Rattle.schedule_model.specs.Seen.{row_seen}
use Rattle.dflp_protocol.proofs.Chosen.{choice_made}
use Rattle.dflp_protocol.proofs.choosing.choose.Goals as goal

pub returns-clause-chosen : goal.returns-clause-chosen
returns-clause-chosen c = λ rows shows e.
    choice_made c.args.machine.now rows (row_seen c.choose_ordered.new.row) shows e
    c.choose_ordered.ensures.sized c.choose_ordered.ensures.granted c.choose_ordered.ensures.placed
