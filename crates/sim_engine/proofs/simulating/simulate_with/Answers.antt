use Rattle.std.proofs.Common.{◌≡◌, ◌∙◌, sym, subst, arith}
use Rattle.schedule_model.specs.JobDef.{JobsDef}
use Rattle.schedule_model.specs.RowDef.{RowDef, idle_row, trace_in}
use Rattle.schedule_model.specs.Chosen.{IsSized}
use Rattle.schedule_model.specs.Seen.{row_seen, run_seen}
use Rattle.phase_machine.specs.Taking.{IsRowFor}
use Rattle.sim_engine.specs.Simulated.{IsSimulated}
use Rattle.sim_engine.proofs.WrittenRows.{can_end, first_run, simulated, fits_jobs}
use Rattle.sim_engine.proofs.simulating.simulate_with.Goals as goal

pub next_rows-first-requires-clause-reached : goal.next_rows-first-requires-clause-reached
next_rows-first-requires-clause-reached g c = (
  λ t. idle_row,
  record { shows = c.in_ok-machine.ensures.shows (λ t. idle_row); chosen = λ t l. absurd (omega (arith, l, c.in_ok-machine.ensures.tick)) },
)

pub loop-alloc-init : goal.loop-alloc-init
loop-alloc-init g c =
    let list : c.next_rows-first.new.machine.list ≡ c.args.jobs.now = c.next_rows-first.ensures.list ∙ c.in_ok-machine.ensures.list in
    let row : RowDef = row_seen c.next_rows-first.new.row in
    let fits : IsRowFor c.args.jobs.now row =
    subst (λ (l : JobsDef). IsRowFor l row) c.in_ok-machine.ensures.list c.next_rows-first.ensures.fits in
    record {
      list = list;
      within = c.next_rows-first.ensures.within;
      sized = subst (λ (l : JobsDef). IsSized l.set row) (sym list) fits.sized;
      under_way = first_run (g.P.BlockingProtocol.chooses c.args.protocol.now) c.in_ok-machine.machine
          c.next_rows-first.new.machine c.args.jobs.now c.new-rows.result row
          (row_seen c.in_ok-copy_of.field-0) c.next_rows-first.result c.next_rows-first.ensures.some
          c.in_ok-machine.ensures.tick list c.next_rows-first.ensures.tick fits
          c.new-rows.ensures.value c.in_ok-copy_of.ensures c.next_rows-first.ensures.chosen
          (λ rows. record {
            shows = c.in_ok-machine.ensures.shows rows;
            chosen = λ t l. absurd (omega (arith, l, c.in_ok-machine.ensures.tick));
          });
    }

pub push_run-requires : goal.push_run-requires
push_run-requires g c =
    can_end (g.P.BlockingProtocol.chooses c.args.protocol.now) c.loop-alloc.machine c.loop-alloc.rows
    (run_seen c.loop-alloc.last) c.loop-alloc.invariant.under_way
    (omega (arith, c.loop-alloc.invariant.within, c.requires.most))

pub returns-clause-simulated : goal.returns-clause-simulated
returns-clause-simulated g c =
    simulated (g.P.BlockingProtocol.chooses c.args.protocol.now) c.loop-alloc.machine c.args.jobs.now c.args.ticks
    c.loop-alloc.rows c.push_run.new.rows (run_seen c.loop-alloc.last) c.loop-alloc.invariant.under_way
    c.loop-alloc.invariant.list
    (omega (arith, c.loop-alloc.invariant.within, c.loop-alloc-test.false, c.tick.ensures.value))
    c.in_ok-push_run.ensures

pub returns-clause-keeps : goal.returns-clause-keeps
returns-clause-keeps g c =
    let s : IsSimulated (g.P.BlockingProtocol.chooses c.args.protocol.now) c.args.jobs.now c.args.ticks c.push_run.new.rows.runs =
    simulated (g.P.BlockingProtocol.chooses c.args.protocol.now) c.loop-alloc.machine c.args.jobs.now c.args.ticks
    c.loop-alloc.rows c.push_run.new.rows (run_seen c.loop-alloc.last) c.loop-alloc.invariant.under_way
    c.loop-alloc.invariant.list
    (omega (arith, c.loop-alloc.invariant.within, c.loop-alloc-test.false, c.tick.ensures.value))
    c.in_ok-push_run.ensures in
    λ t l r. g.P.BlockingProtocol.chosen_keeps c.args.protocol.now (trace_in c.args.jobs.now c.push_run.new.rows.runs) t
    c.requires.suits (s.chosen t l) r

pub returns-clause-unbroken : goal.returns-clause-unbroken
returns-clause-unbroken g c =
    let s : IsSimulated (g.P.BlockingProtocol.chooses c.args.protocol.now) c.args.jobs.now c.args.ticks c.push_run.new.rows.runs =
    simulated (g.P.BlockingProtocol.chooses c.args.protocol.now) c.loop-alloc.machine c.args.jobs.now c.args.ticks
    c.loop-alloc.rows c.push_run.new.rows (run_seen c.loop-alloc.last) c.loop-alloc.invariant.under_way
    c.loop-alloc.invariant.list
    (omega (arith, c.loop-alloc.invariant.within, c.loop-alloc-test.false, c.tick.ensures.value))
    c.in_ok-push_run.ensures in
    λ t r first. first.breaks.broken
    (g.P.BlockingProtocol.chosen_keeps c.args.protocol.now (trace_in c.args.jobs.now c.push_run.new.rows.runs) t
    c.requires.suits (s.chosen t (omega (arith, first.within, s.ticks))) r)

pub returns-clause-fits : goal.returns-clause-fits
returns-clause-fits g c =
    fits_jobs (g.P.BlockingProtocol.chooses c.args.protocol.now) c.loop-alloc.machine c.args.jobs.now c.loop-alloc.rows
    c.push_run.new.rows (run_seen c.loop-alloc.last) c.loop-alloc.invariant.under_way
    c.loop-alloc.invariant.list c.in_ok-push_run.ensures
