use Rattle.std.proofs.Common.{sym}
use Rattle.schedule_model.specs.Seen.{row_seen}
use Rattle.dpcp_rules.proofs.Verdict.{judged_none, judged_some}
use Rattle.dpcp_rules.proofs.judging.judge.Goals as goal

pub returns-in-Some : goal.returns-in-Some
returns-in-Some c = λ rows shows e.
    judged_some c.args.machine.now rows (row_seen c.args.row.now) c.tables_of-tables.result.first.keys c.tables_of-tables.result.bars.keys c.in-Some.rule
    (record {
      shows = shows;
      accepted = c.tables_of-tables.ensures.accepted;
      homes = c.requires.suits;
      waiting = c.tables_of-tables.ensures.first;
      kept = c.tables_of-tables.ensures.bars;
    })
    c.requires.fits e (sym c.in-Some.ensures)

pub returns-in-None : goal.returns-in-None
returns-in-None c = λ rows shows e.
    judged_none c.args.machine.now rows (row_seen c.args.row.now) c.tables_of-tables.result.first.keys c.tables_of-tables.result.bars.keys
    (record {
      shows = shows;
      accepted = c.tables_of-tables.ensures.accepted;
      homes = c.requires.suits;
      waiting = c.tables_of-tables.ensures.first;
      kept = c.tables_of-tables.ensures.bars;
    })
    c.requires.fits e (sym c.in-None.ensures)
