use Rattle.std.proofs.Common.{◌≡◌, ◌+◌, ◌≤◌, ◌∙◌, ap, arith}
use Rattle.schedule_model.specs.Seen.{row_seen}
use Rattle.schedule_laws.specs.Steady.{IsSteady}
use Rattle.phase_machine.specs.MachineDef.{under}
use Rattle.phase_machine.specs.Taking.{CanTake}
use Rattle.phase_machine.proofs.Stretches.{quiet_sooner}
use Rattle.sim_engine.proofs.ChosenRows.{picked_taken, chosen_on}
use Rattle.sim_engine.proofs.choosing.next_rows.Goals as goal

pub steady-requires : goal.steady-requires
steady-requires g c = record {
  row = picked_taken (g.P.BlockingProtocol.chooses c.args.protocol.now) (g.P.BlockingProtocol.keeps c.args.protocol.now)
      (g.P.BlockingProtocol.interferes c.args.protocol.now)
      c.args.machine.now (row_seen c.choose.new.row) (record {
        reads = g.met.P.Judge.choice_reads c.args.protocol.now;
        kept = λ rows t here. g.P.BlockingProtocol.chosen_keeps c.args.protocol.now (under c.args.machine.now rows) t c.requires.can.suits here;
        sound = λ rows t keeps. g.P.BlockingProtocol.sound_row c.args.protocol.now (under c.args.machine.now rows) t c.requires.can.suits keeps;
        sized = c.choose.ensures.sized;
        picks = c.choose.ensures.chosen;
      }) c.requires.reached.0 c.requires.reached.1;
}

pub advance_by-requires-clause-row : goal.advance_by-requires-clause-row
advance_by-requires-clause-row g c =
    picked_taken (g.P.BlockingProtocol.chooses c.args.protocol.now) (g.P.BlockingProtocol.keeps c.args.protocol.now)
    (g.P.BlockingProtocol.interferes c.args.protocol.now)
    c.args.machine.now (row_seen c.choose.new.row) (record {
      reads = g.met.P.Judge.choice_reads c.args.protocol.now;
      kept = λ rows t here. g.P.BlockingProtocol.chosen_keeps c.args.protocol.now (under c.args.machine.now rows) t c.requires.can.suits here;
      sound = λ rows t keeps. g.P.BlockingProtocol.sound_row c.args.protocol.now (under c.args.machine.now rows) t c.requires.can.suits keeps;
      sized = c.choose.ensures.sized;
      picks = c.choose.ensures.chosen;
    }) c.requires.reached.0 c.requires.reached.1

pub advance_by-requires-clause-quiet : goal.advance_by-requires-clause-quiet
advance_by-requires-clause-quiet g c =
    quiet_sooner c.args.machine.now (row_seen c.choose.new.row) c.steady.result c.min-ticks.result
    c.steady.ensures.value.quiet (omega (arith, c.min-ticks.ensures))

pub returns : goal.returns
returns g c =
    let some : 1 ≤ c.min-ticks.result =
    omega (arith, c.min-ticks.ensures, c.steady.ensures.value.some, c.tick.ensures.value, c.requires.can.early) in
    let can : CanTake c.args.machine.now (row_seen c.choose.new.row) =
    picked_taken (g.P.BlockingProtocol.chooses c.args.protocol.now) (g.P.BlockingProtocol.keeps c.args.protocol.now)
    (g.P.BlockingProtocol.interferes c.args.protocol.now)
    c.args.machine.now (row_seen c.choose.new.row) (record {
      reads = g.met.P.Judge.choice_reads c.args.protocol.now;
      kept = λ rows t here. g.P.BlockingProtocol.chosen_keeps c.args.protocol.now (under c.args.machine.now rows) t c.requires.can.suits here;
      sound = λ rows t keeps. g.P.BlockingProtocol.sound_row c.args.protocol.now (under c.args.machine.now rows) t c.requires.can.suits keeps;
      sized = c.choose.ensures.sized;
      picks = c.choose.ensures.chosen;
    }) c.requires.reached.0 c.requires.reached.1 in
    record {
      list = c.advance_by.ensures.list;
      some = some;
      tick = c.advance_by.ensures.tick;
      within = omega (arith, c.advance_by.ensures.tick, c.min-ticks.ensures, c.tick.ensures.value, c.requires.can.early);
      fits = can.fits;
      chosen = λ rows far same.
          let start : c.args.machine.now.tick ≡ c.args.machine.now.tick + 0 = omega arith in
          let here : rows c.args.machine.now.tick ≡ row_seen c.choose.new.row = ap rows start ∙ same 0 some in
          let first : g.P.BlockingProtocol.chooses c.args.protocol.now (under c.args.machine.now rows) c.args.machine.now.tick =
          c.choose.ensures.chosen rows far.shows here (λ t l. g.P.BlockingProtocol.chosen_keeps c.args.protocol.now
          (under c.args.machine.now rows) t c.requires.can.suits (far.chosen t l)) in
          let steady : IsSteady (under c.args.machine.now rows) c.args.machine.now.tick c.min-ticks.result =
          c.steady.ensures.steady rows c.min-ticks.result far.shows (omega (arith, c.min-ticks.ensures)) same in
          chosen_on (g.P.BlockingProtocol.chooses c.args.protocol.now) c.args.machine.now c.advance_by.new.self rows
          c.min-ticks.result c.advance_by.ensures.list c.advance_by.ensures.tick far
          (λ i l. (g.met.P.Judge.stays_lawful c.args.protocol.now (under c.args.machine.now rows) c.args.machine.now.tick
          c.min-ticks.result c.requires.can.suits far.shows.machine.lawful steady
          (g.P.BlockingProtocol.chosen_keeps c.args.protocol.now (under c.args.machine.now rows) c.args.machine.now.tick
          c.requires.can.suits first) i l).chosen first)
          (c.advance_by.ensures.shows rows far.shows same);
    }
