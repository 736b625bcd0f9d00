use Rattle.std.proofs.Common.{ℕ, map, refl, sym, subst}
use Rattle.std.specs.Prelude.{slice_index}
use Rattle.schedule_model.specs.RowDef.{Trace, trace_in, ticks_of}
use Rattle.trace_conform.specs.Counts.{AreCounts}
use Rattle.schedule_answers.specs.Conforming.{AreMeasures}
use Rattle.charge.specs.Table.{item_seen, IsChargeTable}
use Rattle.audit_figures.proofs.Lawful.{items_listed}
use Rattle.audit_figures.proofs.auditing.walked_figures.Goals as goal

pub walk-requires-clause-first : goal.walk-requires-clause-first
walk-requires-clause-first g c =
    let w : Trace = trace_in c.args.jobs.now (g.R.RowReader.rows c.args.rows.now).runs in (
      c.in_ok-counts.ensures (g.P.BlockingProtocol.interferes c.args.protocol.now) w (sym c.len.ensures.value),
      c.new.ensures (g.P.ChargedProtocol.charges c.args.protocol.now) w (slice_index c.args.bounds.now),
    )

pub figures-requires : goal.figures-requires
figures-requires g c =
    let w : Trace = trace_in c.args.jobs.now (g.R.RowReader.rows c.args.rows.now).runs in
    let n : ℕ = ticks_of (g.R.RowReader.rows c.args.rows.now).runs in
    let counts : AreCounts (g.P.BlockingProtocol.interferes c.args.protocol.now) w c.in_ok-machine.machine.tick c.deref.result.now =
    subst (λ counts. AreCounts (g.P.BlockingProtocol.interferes c.args.protocol.now) w c.in_ok-machine.machine.tick counts)
    (sym c.deref.ensures.value)
    (subst (λ (t : ℕ). AreCounts (g.P.BlockingProtocol.interferes c.args.protocol.now) w t c.walk.new.notes.0.items)
    (sym c.in_ok-machine.ensures.tick) c.in_ok-machine.ensures.are_kept.0) in
    let measures : AreMeasures (g.P.BlockingProtocol.interferes c.args.protocol.now) w c.in_ok-machine.machine.tick
    c.in_ok-measured.measured =
    c.in_ok-measured.ensures (g.P.BlockingProtocol.interferes c.args.protocol.now) w c.in_ok-machine.ensures.list
    c.in_ok-machine.ensures.shows counts in
    record {
      measured = measures.size;
      bounds = c.requires.given.bounded.one_each;
      values = c.requires.given.values;
      listed =
          items_listed (g.P.ChargedProtocol.charges c.args.protocol.now) (g.P.BlockingProtocol.interferes c.args.protocol.now) w
          (slice_index c.args.bounds.now) n c.in_ok-table.table.charges.items
          (c.in_ok-table.ensures c.args.protocol.now w (slice_index c.args.bounds.now) n c.requires.rows.suits
          c.keeps_its_rules.ensures.lawful c.in_ok-machine.ensures.lawful c.in_ok-machine.ensures.are_kept.1);
    }

pub returns : goal.returns
returns g c =
    let w : Trace = trace_in c.args.jobs.now (g.R.RowReader.rows c.args.rows.now).runs in
    let n : ℕ = ticks_of (g.R.RowReader.rows c.args.rows.now).runs in
    let counts : AreCounts (g.P.BlockingProtocol.interferes c.args.protocol.now) w c.in_ok-machine.machine.tick c.deref.result.now =
    subst (λ counts. AreCounts (g.P.BlockingProtocol.interferes c.args.protocol.now) w c.in_ok-machine.machine.tick counts)
    (sym c.deref.ensures.value)
    (subst (λ (t : ℕ). AreCounts (g.P.BlockingProtocol.interferes c.args.protocol.now) w t c.walk.new.notes.0.items)
    (sym c.in_ok-machine.ensures.tick) c.in_ok-machine.ensures.are_kept.0) in
    let measures : AreMeasures (g.P.BlockingProtocol.interferes c.args.protocol.now) w n c.in_ok-measured.measured =
    subst (λ (t : ℕ). AreMeasures (g.P.BlockingProtocol.interferes c.args.protocol.now) w t c.in_ok-measured.measured)
    c.in_ok-machine.ensures.tick
    (c.in_ok-measured.ensures (g.P.BlockingProtocol.interferes c.args.protocol.now) w c.in_ok-machine.ensures.list
    c.in_ok-machine.ensures.shows counts) in
    let table : IsChargeTable (g.P.ChargedProtocol.charges c.args.protocol.now) (g.P.BlockingProtocol.interferes c.args.protocol.now) w
    (slice_index c.args.bounds.now) n (map item_seen c.in_ok-table.table.charges.items) =
    c.in_ok-table.ensures c.args.protocol.now w (slice_index c.args.bounds.now) n c.requires.rows.suits
    c.keeps_its_rules.ensures.lawful c.in_ok-machine.ensures.lawful c.in_ok-machine.ensures.are_kept.1 in (
      c.in_ok-machine.ensures.lawful,
      c.in_ok-figures.ensures (g.P.ChargedProtocol.charges c.args.protocol.now) (g.P.BlockingProtocol.interferes c.args.protocol.now) w n
          refl c.keeps_its_rules-2.ensures.most
          (λ t j charge is. g.met.P.ChargedProtocol.charges_only c.args.protocol.now w t j charge is) measures table,
    )
