use Rattle.std.proofs.Common.{◌∙◌, ◌+◌, sym, subst}
use Rattle.std.proofs.lemmas.List.{with_items_is}
use Rattle.schedule_model.specs.RowDef.{Trace, row_in}
use Rattle.phase_machine.specs.MachineDef.{under}
use Rattle.trace_conform.specs.Counts.{AreCounts}
use Rattle.trace_conform.proofs.FirstCounts.{room_left}
use Rattle.trace_conform.proofs.CountedTicks.{counts_on}
use Rattle.trace_conform.proofs.counting.JobCounterKeeper.take.Goals as goal

pub count_ticks-requires : goal.count_ticks-requires
count_ticks-requires g c =
    let w : Trace = under c.args.machine.now (row_in (g.R.RowReader.rows c.args.rows.now).runs) in
    let counts : AreCounts (g.P.BlockingProtocol.interferes c.args.protocol.now) w c.args.machine.now.tick c.deref_mut.result.now =
    subst (λ counts. AreCounts (g.P.BlockingProtocol.interferes c.args.protocol.now) w c.args.machine.now.tick counts)
    (sym c.deref_mut.ensures.value) c.requires.kept in
    record {
      suits = c.requires.suits;
      row = record { at = c.requires.stretch.at; shows = c.requires.stretch.shows; lawful = c.requires.stretch.lawful };
      size = counts.size;
      room = λ j l. room_left (g.P.BlockingProtocol.interferes c.args.protocol.now) w c.args.machine.now.tick c.args.ticks
          c.deref_mut.result.now j counts l c.requires.stretch.early;
    }

pub returns : goal.returns
returns g c =
    let w : Trace = under c.args.machine.now (row_in (g.R.RowReader.rows c.args.rows.now).runs) in
    let counts : AreCounts (g.P.BlockingProtocol.interferes c.args.protocol.now) w c.args.machine.now.tick c.deref_mut.result.now =
    subst (λ counts. AreCounts (g.P.BlockingProtocol.interferes c.args.protocol.now) w c.args.machine.now.tick counts)
    (sym c.deref_mut.ensures.value) c.requires.kept in
    subst (λ counts. AreCounts (g.P.BlockingProtocol.interferes c.args.protocol.now) w (c.args.machine.now.tick + c.args.ticks) counts)
    (sym (with_items_is c.args.notes.now c.count_ticks.new.counts (c.count_ticks.ensures.size ∙ c.deref_mut.ensures.len)))
    (counts_on (g.P.BlockingProtocol.interferes c.args.protocol.now) w c.args.machine.now.tick c.args.ticks
    c.deref_mut.result.now c.count_ticks.new.counts c.requires.stretch.some c.requires.stretch.can c.requires.stretch.steady
    (λ i j l. (g.met.P.Judge.stays_lawful c.args.protocol.now w c.args.machine.now.tick c.args.ticks c.requires.suits
    c.requires.stretch.shows.machine.lawful c.requires.stretch.steady c.requires.stretch.lawful i l).blocked j)
    counts c.count_ticks.ensures)
