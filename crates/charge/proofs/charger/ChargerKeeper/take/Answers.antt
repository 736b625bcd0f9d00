use Rattle.std.proofs.Common.{◌≡◌, ◌∙◌, ◌+◌, ℕ}
use Rattle.std.specs.Prelude.{slice_index}
use Rattle.schedule_model.specs.RowDef.{RowDef, Trace, row_in}
use Rattle.schedule_model.specs.Seen.{place_seen}
use Rattle.schedule_laws.proofs.KindsOfTicks.{Blocked, blocked_is}
use Rattle.phase_machine.specs.MachineDef.{MachineDef, under}
use Rattle.charge.specs.Ledgers.{has_passed_before, first_passed_before}
use Rattle.charge.proofs.TallyLaws.{OfActive}
use Rattle.charge.proofs.CountedAlike.{counted_alike, ends_elsewhere}
use Rattle.charge.proofs.PassedNext.{passed_on}
use Rattle.charge.proofs.charger.ChargerKeeper.take.Goals as goal

pub charge_ticks-requires-clause-next : goal.charge_ticks-requires-clause-next
charge_ticks-requires-clause-next g c =
    let rows : ℕ → RowDef = row_in (g.R.RowReader.rows c.args.rows.now).runs in
    let m : MachineDef = c.args.machine.now in
    let w : Trace = under m rows in
    let only : OfActive (g.P.ChargedProtocol.charges c.args.protocol.now) w m.tick =
    λ k charge e. let b : Blocked (g.P.BlockingProtocol.interferes c.args.protocol.now) w m.tick k =
    blocked_is (g.P.BlockingProtocol.interferes c.args.protocol.now) w m.tick k
    (g.met.P.ChargedProtocol.charges_only c.args.protocol.now w m.tick k charge e) in b.active in
    record {
      some = c.requires.stretch.some;
      early = c.requires.stretch.early;
      alike =
          counted_alike (g.P.ChargedProtocol.charges c.args.protocol.now) m rows c.args.self.now.bounds.now c.args.ticks
          c.requires.stretch.shows only c.requires.stretch.steady
          (g.met.P.ChargedProtocol.stays_charged c.args.protocol.now w m.tick c.args.ticks c.requires.suits
          c.requires.stretch.shows.machine.lawful c.requires.stretch.steady c.requires.stretch.lawful)
          c.requires.spans;
    }

pub returns : goal.returns
returns g c =
    let rows : ℕ → RowDef = row_in (g.R.RowReader.rows c.args.rows.now).runs in
    let m : MachineDef = c.args.machine.now in
    let w : Trace = under m rows in
    let passed : place_seen c.first_of_due-notes.result
    ≡ first_passed_before w (slice_index c.args.self.now.bounds.now) (m.tick + c.args.ticks) =
    c.first_of_due-notes.ensures (has_passed_before w (slice_index c.args.self.now.bounds.now) m.tick) c.requires.kept.passed
    ∙ passed_on m rows c.args.self.now.bounds.now c.args.ticks c.requires.stretch.shows c.requires.stretch.some c.requires.fits.bounds
    (ends_elsewhere m rows c.args.self.now.bounds.now c.args.ticks c.requires.stretch.shows c.requires.stretch.steady c.requires.spans) in
    record { counted = c.in_ok-charge_ticks.ensures; passed = passed }
