use Rattle.std.proofs.Common.{◌≡◌, ◌∙◌, ◌+◌, ◌<◌, ◌≤◌, ℕ, sym, ap, arith}
use Rattle.schedule_model.specs.RowDef.{RowDef, row_in}
use Rattle.schedule_model.specs.Fitting.{RowsDef}
use Rattle.schedule_model.specs.Seen.{row_seen}
use Rattle.schedule_model.specs.ReadRuns.{run_of}
use Rattle.schedule_laws.specs.Steady.{IsSteady}
use Rattle.phase_machine.specs.MachineDef.{MachineDef, under}
use Rattle.phase_machine.specs.Taking.{IsRowFor}
use Rattle.phase_machine.proofs.Stretches.{quiet_sooner}
use Rattle.trace_walk.proofs.RunLaws.{row_fits}
use Rattle.trace_walk.proofs.Stretches.{row_stands, row_can}
use Rattle.trace_walk.proofs.Reaching.{reached_on}
use Rattle.trace_walk.proofs.walking.walk_stretch.Goals as goal

pub steady-requires : goal.steady-requires
steady-requires g c =
    let all : RowsDef = g.R.RowReader.rows c.args.rows.now in
    let i : ℕ = g.R.RowReader.at c.args.rows.now in
    let rows : ℕ → RowDef = row_in all.runs in
    let row : RowDef = row_seen c.run.result.now.row in
    let is : row ≡ (run_of all.runs i).row = ap (λ r. r.row) c.run.ensures in
    let m : MachineDef = c.args.machine.now in
    let here : rows m.tick ≡ row = c.requires.run.at.here ∙ sym is in
    let fits : IsRowFor m.list row = rw is (row_fits all m.list i c.requires.run.at.fits c.requires.run.at.within) in
    record {
      row = row_can (g.P.BlockingProtocol.interferes c.args.protocol.now) rows m row here c.requires.on.reached.shows fits
          (g.P.BlockingProtocol.sound_row c.args.protocol.now (under m rows) m.tick c.requires.on.suits
          (c.in-Ok.ensures rows c.requires.on.reached.shows here));
    }

pub take-requires-clause-stretch : goal.take-requires-clause-stretch
take-requires-clause-stretch g c =
    let all : RowsDef = g.R.RowReader.rows c.args.rows.now in
    let i : ℕ = g.R.RowReader.at c.args.rows.now in
    let rows : ℕ → RowDef = row_in all.runs in
    let row : RowDef = row_seen c.run.result.now.row in
    let is : row ≡ (run_of all.runs i).row = ap (λ r. r.row) c.run.ensures in
    let m : MachineDef = c.args.machine.now in
    let n : ℕ = c.span-ticks.result in
    let here : rows m.tick ≡ row = c.requires.run.at.here ∙ sym is in
    let fits : IsRowFor m.list row = rw is (row_fits all m.list i c.requires.run.at.fits c.requires.run.at.within) in
    record {
      at = c.requires.run.at;
      shows = c.requires.on.reached.shows;
      can = row_stands (g.P.BlockingProtocol.interferes c.args.protocol.now) rows m row here fits
          (g.P.BlockingProtocol.sound_row c.args.protocol.now (under m rows) m.tick c.requires.on.suits
          (c.in-Ok.ensures rows c.requires.on.reached.shows here));
      lawful = c.in-Ok.ensures rows c.requires.on.reached.shows here;
      steady = c.steady.ensures.steady rows n c.requires.on.reached.shows (omega (arith, c.span-ticks.ensures.most, c.min.ensures))
          (λ k l. c.requires.run.stands k (omega (arith, l, c.span-ticks.ensures.most, c.min.ensures)) ∙ sym is);
      some = c.span-ticks.ensures.some (omega (arith, c.min.ensures, c.steady.ensures.value.some, c.requires.run.some));
      early = omega (arith, c.span-ticks.ensures.most, c.min.ensures, c.requires.run.early);
    }

pub advance_by-requires-clause-row : goal.advance_by-requires-clause-row
advance_by-requires-clause-row g c =
    let all : RowsDef = g.R.RowReader.rows c.args.rows.now in
    let i : ℕ = g.R.RowReader.at c.args.rows.now in
    let rows : ℕ → RowDef = row_in all.runs in
    let row : RowDef = row_seen c.run.result.now.row in
    let is : row ≡ (run_of all.runs i).row = ap (λ r. r.row) c.run.ensures in
    let m : MachineDef = c.args.machine.now in
    let here : rows m.tick ≡ row = c.requires.run.at.here ∙ sym is in
    let fits : IsRowFor m.list row = rw is (row_fits all m.list i c.requires.run.at.fits c.requires.run.at.within) in
    row_can (g.P.BlockingProtocol.interferes c.args.protocol.now) rows m row here c.requires.on.reached.shows fits
    (g.P.BlockingProtocol.sound_row c.args.protocol.now (under m rows) m.tick c.requires.on.suits
    (c.in-Ok.ensures rows c.requires.on.reached.shows here))

pub advance_by-requires-clause-quiet : goal.advance_by-requires-clause-quiet
advance_by-requires-clause-quiet g c =
    quiet_sooner c.args.machine.now (row_seen c.run.result.now.row) c.steady.result c.span-ticks.result
    c.steady.ensures.value.quiet (omega (arith, c.span-ticks.ensures.most, c.min.ensures))

pub returns : goal.returns
returns g c =
    let all : RowsDef = g.R.RowReader.rows c.args.rows.now in
    let i : ℕ = g.R.RowReader.at c.args.rows.now in
    let rows : ℕ → RowDef = row_in all.runs in
    let row : RowDef = row_seen c.run.result.now.row in
    let is : row ≡ (run_of all.runs i).row = ap (λ r. r.row) c.run.ensures in
    let m : MachineDef = c.args.machine.now in
    let n : ℕ = c.span-ticks.result in
    let here : rows m.tick ≡ row = c.requires.run.at.here ∙ sym is in
    let some : 1 ≤ n = c.span-ticks.ensures.some (omega (arith, c.min.ensures, c.steady.ensures.value.some, c.requires.run.some)) in
    let most : n ≤ c.args.left = omega (arith, c.span-ticks.ensures.most, c.min.ensures) in
    let same : (k : ℕ) → k < n → rows (m.tick + k) ≡ row = λ k l. c.requires.run.stands k (omega (arith, l, most)) ∙ sym is in
    let steady : IsSteady (under m rows) m.tick n = c.steady.ensures.steady rows n c.requires.on.reached.shows
    (omega (arith, c.span-ticks.ensures.most, c.min.ensures)) same in
    record {
      list = c.advance_by.ensures.list;
      walked = (
        some,
        most,
        c.advance_by.ensures.tick,
        reached_on (g.P.BlockingProtocol.keeps c.args.protocol.now) (g.K.Keeper.kept c.args.keeper.now c.args.protocol.now) rows m
            c.advance_by.new.self n c.args.notes.now c.take.new.notes c.requires.on.reached
            c.advance_by.ensures.list c.advance_by.ensures.tick (c.advance_by.ensures.shows rows c.requires.on.reached.shows same)
            (λ k l. (g.met.P.Judge.stays_lawful c.args.protocol.now (under m rows) m.tick n c.requires.on.suits
            c.requires.on.reached.shows.machine.lawful steady (c.in-Ok.ensures rows c.requires.on.reached.shows here) k l).lawful)
            c.in_ok-take.ensures,
      );
    }
