use Rattle.std.proofs.Common.{sym}
use Rattle.schedule_model.specs.Seen.{row_seen}
use Rattle.spin_protocol.proofs.SpinVerdict.{judged_none, judged_some}
use Rattle.spin_protocol.proofs.instances.SpinJudge.judge.Goals as goal

pub returns-in-Some : goal.returns-in-Some
returns-in-Some c = λ rows shows e.
    judged_some c.args.machine.now rows (row_seen c.args.row.now) c.in-Some.rule shows c.requires.fits e (sym c.in-Some.ensures)

pub returns-in-None : goal.returns-in-None
returns-in-None c = λ rows shows e.
    judged_none c.args.machine.now rows (row_seen c.args.row.now) shows c.requires.fits e (sym c.in-None.ensures)
