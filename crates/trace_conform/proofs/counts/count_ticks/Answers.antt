use Rattle.std.proofs.Common.{◌≡◌, ◌∙◌, true, sym, ap, arith, Some}
use Rattle.schedule_model.specs.RowDef.{row_in}
use Rattle.schedule_model.specs.Activity.{is_active}
use Rattle.schedule_model.specs.Seen.{place_seen}
use Rattle.phase_machine.specs.MachineDef.{under, task_in}
use Rattle.phase_machine.specs.Now.{current_now}
use Rattle.phase_machine.proofs.Facts.{current_shown}
use Rattle.trace_conform.specs.Counts.{count_at}
use Rattle.trace_conform.proofs.CountedTicks.{none_more, one_more, all_counted}
use Rattle.trace_conform.proofs.counts.count_ticks.Goals.{in-Some, in_default}
use Rattle.trace_conform.proofs.counts.count_ticks.Goals as goal

pub count_job-requires : goal.count_job-requires
count_job-requires g c =
    let e : current_now c.args.machine.now c.loop-x.x ≡ Some c.in-Some.j.0 = sym c.current.ensures.value ∙ ap place_seen c.in-Some.is in
    let own : (is_active (under c.args.machine.now (row_in (g.R.RowReader.rows c.args.rows.now).runs)) c.args.machine.now.tick c.in-Some.j.0
    ≡ true) × (task_in c.args.machine.now.list.jobs c.in-Some.j.0 ≡ c.loop-x.x) =
    current_shown c.args.machine.now (row_in (g.R.RowReader.rows c.args.rows.now).runs) c.loop-x.x c.in-Some.j.0 c.requires.row.shows
    (omega (arith, c.loop-x-test.true, c.tasks_of-x-end.ensures)) e in
    let same : (count_at c.loop-x.counts c.in-Some.j.0).blocked ≡ (count_at c.args.counts.now c.in-Some.j.0).blocked =
    ap (λ n. n.blocked) (c.loop-x.invariant.below.rest c.in-Some.j.0 (omega (arith, own.1))) in
    record {
      job = record {
        suits = c.requires.suits;
        row = c.requires.row;
        listed = c.in-Some.ensures.within;
        room = omega (arith, same, c.requires.room c.in-Some.j.0 c.in-Some.ensures.within);
      };
      size = c.loop-x.invariant.size ∙ c.requires.size;
    }

pub loop-x-preserved : goal.loop-x-preserved
loop-x-preserved g c = elim c.match-current.branch [
  | in-Some w ↦ record {
    size = c.match-current.auto.counts ∙ c.loop-x.invariant.size;
    below = rw w.counts-is (one_more (g.P.BlockingProtocol.interferes c.args.protocol.now) c.args.machine.now
        (row_in (g.R.RowReader.rows c.args.rows.now).runs) c.args.ticks c.loop-x.x w.in-Some.j.0 c.args.counts.now
        c.loop-x.counts w.count_job.new.counts c.requires.row.shows
        (omega (arith, c.loop-x-test.true, c.tasks_of-x-end.ensures))
        (sym c.current.ensures.value ∙ ap place_seen w.in-Some.is)
        c.loop-x.invariant.below w.count_job.ensures.own w.count_job.ensures.others);
  }
  | in_default w ↦ record {
    size = c.match-current.auto.counts ∙ c.loop-x.invariant.size;
    below = rw w.counts-is (none_more (g.P.BlockingProtocol.interferes c.args.protocol.now) c.args.machine.now
        (row_in (g.R.RowReader.rows c.args.rows.now).runs) c.args.ticks c.loop-x.x c.args.counts.now c.loop-x.counts
        c.requires.row.shows (sym c.current.ensures.value ∙ ap place_seen w.in_default.is) c.loop-x.invariant.below);
  }
]

pub returns : goal.returns
returns g c =
    all_counted (g.P.BlockingProtocol.interferes c.args.protocol.now) c.args.machine.now (row_in (g.R.RowReader.rows c.args.rows.now).runs)
    c.args.ticks c.loop-x.x c.args.counts.now c.loop-x.counts c.requires.row.shows
    (omega (arith, c.loop-x-test.false, c.tasks_of-x-end.ensures)) c.loop-x.invariant.size c.loop-x.invariant.below
