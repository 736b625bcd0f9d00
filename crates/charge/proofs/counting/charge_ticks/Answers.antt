use Rattle.std.proofs.Common.{◌∙◌, ◌+◌, ap, arith}
use Rattle.std.specs.Prelude.{slice_index}
use Rattle.number_laws.specs.Sums.{only_if}
use Rattle.schedule_model.specs.RowDef.{Trace, row_in}
use Rattle.schedule_laws.proofs.KindsOfTicks.{Blocked, blocked_is}
use Rattle.phase_machine.specs.MachineDef.{under}
use Rattle.charge.specs.Tally.{is_place, ticks_before, ticks_with}
use Rattle.charge.proofs.TallyLaws.{OfActive, tally_agree, count_is, count_first, count_more, count_all, count_most}
use Rattle.charge.proofs.counting.charge_ticks.Goals as goal

pub loop-x-init : goal.loop-x-init
loop-x-init g c =
    let w : Trace = under c.args.machine.now (row_in (g.R.RowReader.rows c.args.rows.now).runs) in
    tally_agree c.args.ticks.now
    (ticks_before (g.P.ChargedProtocol.charges c.args.protocol.now) w (slice_index c.args.bounds.now)
    c.args.machine.now.tick) _
    (λ p. count_first (g.P.ChargedProtocol.charges c.args.protocol.now) w (slice_index c.args.bounds.now) c.args.machine.now.tick
    c.args.more p)
    c.requires.counted

pub add_named-requires : goal.add_named-requires
add_named-requires g c =
    let w : Trace = under c.args.machine.now (row_in (g.R.RowReader.rows c.args.rows.now).runs) in record {
      some = c.requires.next.some;
      most = omega (arith, c.requires.next.early);
      room = λ p.
          omega (
            arith,
            c.requires.next.early,
            count_is c.loop-x.ticks
                (ticks_with (g.P.ChargedProtocol.charges c.args.protocol.now) w (slice_index c.args.bounds.now)
                c.args.machine.now.tick c.args.more c.loop-x.x) p
                c.loop-x.invariant,
            count_most (g.P.ChargedProtocol.charges c.args.protocol.now) w (slice_index c.args.bounds.now) c.args.machine.now.tick
                c.args.more
                c.loop-x.x p,
          );
    }

pub loop-x-preserved : goal.loop-x-preserved
loop-x-preserved g c =
    let w : Trace = under c.args.machine.now (row_in (g.R.RowReader.rows c.args.rows.now).runs) in
    let only : OfActive (g.P.ChargedProtocol.charges c.args.protocol.now) w c.args.machine.now.tick =
    λ k charge e. let b : Blocked (g.P.BlockingProtocol.interferes c.args.protocol.now) w c.args.machine.now.tick k =
    blocked_is (g.P.BlockingProtocol.interferes c.args.protocol.now) w c.args.machine.now.tick k
    (g.met.P.ChargedProtocol.charges_only c.args.protocol.now w c.args.machine.now.tick k charge e) in b.active in
    tally_agree c.add_named.new.ticks _ _
    (λ p. ap (λ o. ticks_with (g.P.ChargedProtocol.charges c.args.protocol.now) w (slice_index c.args.bounds.now)
    c.args.machine.now.tick c.args.more c.loop-x.x p
    + only_if (is_place p o) c.args.more) c.place_in.ensures
    ∙ count_more (g.P.ChargedProtocol.charges c.args.protocol.now) c.args.machine.now (row_in (g.R.RowReader.rows c.args.rows.now).runs)
    (slice_index c.args.bounds.now) c.args.more
    c.loop-x.x p c.requires.at.row.shows only (omega (arith, c.loop-x-test.true, c.tasks_of-x-end.ensures.value)))
    (c.in_ok-add_named.ensures _ c.loop-x.invariant)

pub returns : goal.returns
returns g c =
    let w : Trace = under c.args.machine.now (row_in (g.R.RowReader.rows c.args.rows.now).runs) in
    let only : OfActive (g.P.ChargedProtocol.charges c.args.protocol.now) w c.args.machine.now.tick =
    λ k charge e. let b : Blocked (g.P.BlockingProtocol.interferes c.args.protocol.now) w c.args.machine.now.tick k =
    blocked_is (g.P.BlockingProtocol.interferes c.args.protocol.now) w c.args.machine.now.tick k
    (g.met.P.ChargedProtocol.charges_only c.args.protocol.now w c.args.machine.now.tick k charge e) in b.active in
    tally_agree c.loop-x.ticks _ _
    (λ p. count_all (g.P.ChargedProtocol.charges c.args.protocol.now) c.args.machine.now (row_in (g.R.RowReader.rows c.args.rows.now).runs)
    (slice_index c.args.bounds.now) c.args.more
    c.loop-x.x p c.requires.at.row.shows only c.requires.next.alike (omega (arith, c.loop-x-test.false, c.tasks_of-x-end.ensures.value)))
    c.loop-x.invariant
