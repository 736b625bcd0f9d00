use Rattle.std.proofs.Common.{ℕ, sym, subst}
use Rattle.schedule_model.specs.RowDef.{Trace, trace_in}
use Rattle.trace_conform.specs.Counts.{AreCounts}
use Rattle.schedule_answers.specs.Conforming.{AreMeasures}
use Rattle.trace_conform.proofs.conforming.conform_rows_with.Goals as goal

pub walk-requires-clause-first : goal.walk-requires-clause-first
walk-requires-clause-first g c =
    c.in_ok-counts.ensures (g.P.BlockingProtocol.interferes c.args.protocol.now) (trace_in c.args.jobs.now (g.R.RowReader.rows c.args.rows.now).runs)
    (sym c.len.ensures.value)

pub returns : goal.returns
returns g c =
    let w : Trace = trace_in c.args.jobs.now (g.R.RowReader.rows c.args.rows.now).runs in
    let counts : AreCounts (g.P.BlockingProtocol.interferes c.args.protocol.now) w c.in_ok-machine.machine.tick c.deref.result.now =
    subst (λ counts. AreCounts (g.P.BlockingProtocol.interferes c.args.protocol.now) w c.in_ok-machine.machine.tick counts)
    (sym c.deref.ensures.value)
    (subst (λ (t : ℕ). AreCounts (g.P.BlockingProtocol.interferes c.args.protocol.now) w t c.walk.new.notes.items)
    (sym c.in_ok-machine.ensures.tick) c.in_ok-machine.ensures.are_kept) in (
      c.in_ok-machine.ensures.lawful,
      subst (λ (t : ℕ). AreMeasures (g.P.BlockingProtocol.interferes c.args.protocol.now) w t c.in_ok-measures_of.field-0)
          c.in_ok-machine.ensures.tick
          (c.in_ok-measures_of.ensures (g.P.BlockingProtocol.interferes c.args.protocol.now) w c.in_ok-machine.ensures.list
          c.in_ok-machine.ensures.shows counts),
    )
