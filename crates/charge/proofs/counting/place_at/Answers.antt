use Rattle.std.proofs.Common.{◌≡◌, ◌∙◌, ℕ, true, sym, ap, arith, Some}
use Rattle.std.specs.Prelude.{nat_lt, slice_index}
use Rattle.std.proofs.lemmas.Bool.{lt-ltb}
use Rattle.schedule_model.specs.RowDef.{RowDef, row_in}
use Rattle.schedule_model.specs.Seen.{row_seen}
use Rattle.phase_machine.specs.MachineDef.{MachineDef, under}
use Rattle.phase_machine.proofs.Facts.{phase_shown}
use Rattle.charge_laws.specs.Charges.{Charge}
use Rattle.charge_laws.specs.Windows.{bound_end}
use Rattle.trace_walk.proofs.RunLaws.{row_fits}
use Rattle.charged_protocols.specs.Seen.{charge_seen}
use Rattle.charge.proofs.TallyLaws.{placed}
use Rattle.charge.proofs.counting.place_at.Goals as goal

pub charged-requires-clause-fits : goal.charged-requires-clause-fits
charged-requires-clause-fits g c =
    rw (ap (λ r. r.row) c.run.ensures)
    (row_fits (g.R.RowReader.rows c.args.rows.now) c.args.machine.now.list (g.R.RowReader.at c.args.rows.now) c.requires.at.row.at.fits c.requires.at.row.at.within)

pub returns-in-Some : goal.returns-in-Some
returns-in-Some g c =
    let rows : ℕ → RowDef = row_in (g.R.RowReader.rows c.args.rows.now).runs in
    let m : MachineDef = c.args.machine.now in
    let here : rows m.tick ≡ row_seen c.run.result.now.row = c.requires.at.row.at.here ∙ sym (ap (λ r. r.row) c.run.ensures) in
    let charge : Charge = record { job = c.in-Some.y.0; class = c.in-Some.class } in
    let is_it : g.P.ChargedProtocol.charges c.args.protocol.now (under m rows) m.tick c.args.j.0 ≡ Some charge =
    sym (c.charged.ensures.value rows c.requires.at.row.shows here c.requires.at.row.lawful) ∙ ap charge_seen c.in-Some.is in
    let within : nat_lt m.tick (bound_end (under m rows) (slice_index c.args.bounds.now) c.args.j.0) ≡ true =
    lt-ltb _ _ (omega (arith, c.if-tick-end_of.false, c.tick.ensures.value, c.end_of.ensures)) in
    c.place_of.ensures
    ∙ placed (g.P.ChargedProtocol.charges c.args.protocol.now) (under m rows) (slice_index c.args.bounds.now) m.tick c.args.j.0 charge
    within is_it (phase_shown m rows c.in-Some.y.0 c.requires.at.row.shows c.in-Some.ensures.listed)
