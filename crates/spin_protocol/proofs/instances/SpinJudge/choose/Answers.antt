use Rattle.schedule_model.specs.Seen.{row_seen}
use Rattle.spin_protocol.proofs.SpinChosen.{spin_choice_made}
use Rattle.spin_protocol.proofs.instances.SpinJudge.choose.Goals as goal

pub returns-clause-chosen : goal.returns-clause-chosen
returns-clause-chosen c = λ rows shows e keeps.
    spin_choice_made c.args.machine.now rows (row_seen c.choose_row.new.row) shows e keeps
    c.choose_row.ensures.sized c.choose_row.ensures.granted c.choose_row.ensures.placed
