use Rattle.schedule_model.specs.Seen.{row_seen}
use Rattle.dpcp_rules.proofs.Written.{choice_made}
use Rattle.dpcp_rules.proofs.choosing.choose.Goals as goal

pub returns : goal.returns
returns c = record {
  sized = c.choose_row.ensures.sized;
  chosen = λ rows shows e.
      choice_made c.args.machine.now rows (row_seen c.choose_row.new.row) c.tables_of-tables.result.first.keys
      c.tables_of-tables.result.bars.keys
      (record {
        shows = shows;
        accepted = c.tables_of-tables.ensures.accepted;
        homes = c.requires.suits;
        waiting = c.tables_of-tables.ensures.first;
        kept = c.tables_of-tables.ensures.bars;
      })
      e c.choose_row.ensures.sized c.choose_row.ensures.granted c.choose_row.ensures.placed;
}
