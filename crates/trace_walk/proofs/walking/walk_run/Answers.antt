use Rattle.std.proofs.Common.{◌≡◌, ◌∙◌, ℕ, ◌+◌, ◌≤◌, List, true, sym, ap, subst, arith}
use Rattle.schedule_model.specs.JobDef.{JobsDef}
use Rattle.schedule_model.specs.RowDef.{RunDef, row_in}
use Rattle.schedule_model.specs.Fitting.{is_fitting}
use Rattle.trace_walk.specs.Runs.{StandsFor, ticks_before}
use Rattle.trace_walk.proofs.RunLaws.{run_stands, ticks_within}
use Rattle.trace_walk.proofs.walking.walk_run.Goals as goal

pub walk_stretch-requires : goal.walk_stretch-requires
walk_stretch-requires g c =
    let runs : List RunDef = (g.R.RowReader.rows c.args.rows.now).runs in
    let i : ℕ = g.R.RowReader.at c.args.rows.now in
    let from : ticks_before runs i ≤ c.loop-left.machine.tick = omega (arith, c.loop-left.invariant.from, c.requires.before.tick) in
    let tick : c.loop-left.machine.tick ≡ c.loop-left.machine.tick + 0 = omega arith in
    let stands : StandsFor runs i c.loop-left.machine.tick c.loop-left.left =
    λ k l. run_stands runs i c.loop-left.machine.tick c.loop-left.left k c.requires.within from c.loop-left.invariant.tick l in
    record {
      on = record {
        suits = subst (λ (list : JobsDef). g.P.BlockingProtocol.suits c.args.protocol.now list.set) (sym c.loop-left.invariant.list)
            c.requires.on.suits;
        keeper = subst (λ (list : JobsDef). g.K.Keeper.fits c.args.keeper.now list.set) (sym c.loop-left.invariant.list)
            c.requires.on.keeper;
        reached = c.loop-left.invariant.reached;
      };
      run = record {
        at = record {
          within = c.requires.within;
          fits = subst (λ (list : JobsDef). is_fitting (g.R.RowReader.rows c.args.rows.now) list ≡ true) (sym c.loop-left.invariant.list)
              c.requires.before.fits;
          here = ap (row_in runs) tick ∙ stands 0 c.loop-left-test.true;
        };
        stands = stands;
        some = omega (arith, c.loop-left-test.true);
        early = omega (arith, c.loop-left.invariant.tick, ticks_within runs (i + 1), c.requires.before.most);
      };
    }
