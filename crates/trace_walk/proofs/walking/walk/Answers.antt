use Rattle.std.proofs.Common.{rules, sym, subst}
use Rattle.schedule_model.specs.JobDef.{JobsDef}
use Rattle.schedule_model.specs.RowDef.{row_in}
use Rattle.trace_walk.proofs.Reaching.{reached_first}
use Rattle.trace_walk.proofs.walking.walk.Goals as goal

pub walk_all-requires : goal.walk_all-requires
walk_all-requires g c = record {
  on = record {
    suits = subst (λ (list : JobsDef). g.P.BlockingProtocol.suits c.args.protocol.now list.set) (sym c.in_ok-machine.ensures.list)
        c.requires.suits;
    keeper = subst (λ (list : JobsDef). g.K.Keeper.fits c.args.keeper.now list.set) (sym c.in_ok-machine.ensures.list) c.requires.keeper;
    reached = reached_first (g.P.BlockingProtocol.keeps c.args.protocol.now) (g.K.Keeper.kept c.args.keeper.now c.args.protocol.now)
        (row_in (g.R.RowReader.rows c.args.rows.now).runs) c.in_ok-machine.machine c.args.jobs.now c.args.notes.now
        (c.in_ok-machine.ensures.shows (row_in (g.R.RowReader.rows c.args.rows.now).runs)) c.in_ok-machine.ensures.list
        c.in_ok-machine.ensures.tick c.requires.first;
  };
  first = c.requires.start;
  before = search rules;
}
