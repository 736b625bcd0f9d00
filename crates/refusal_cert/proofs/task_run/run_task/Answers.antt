use Rattle.std.proofs.Common.{map}
use Rattle.program_sources.specs.Recurrence.{SourceDef, source_at}
use Rattle.refusal_laws.specs.Seen.{step_seen}
use Rattle.refusal_cert.proofs.RunLaws.{solution_not_below, point_run, point_stopped}
use Rattle.refusal_cert.proofs.task_run.run_task.Goals as goal

pub write_step-requires : goal.write_step-requires
write_step-requires g c =
    let f : SourceDef = source_at (g.P.ProgramSource.source c.args.protocol.now) c.args.set.now in
    rw (c.deref.ensures.value) (solution_not_below (f.program c.args.i.0 c.args.bounds.now) c.in-Ok.run'.solution c.in-Ok.ensures.1)

pub returns-in-Ok-write_step : goal.returns-in-Ok-write_step
returns-in-Ok-write_step g c =
    let f : SourceDef = source_at (g.P.ProgramSource.source c.args.protocol.now) c.args.set.now in
    point_run f c.args.bounds.now c.args.i.0 c.args.left c.in-Ok.run' (map step_seen c.args.steps.now.items)
    (map step_seen c.write_step.new.steps.items) c.in-Ok.ensures (rw (c.deref.ensures.value) at c.in-Ok-write_step.ensures)

pub returns-in-Err-write_step : goal.returns-in-Err-write_step
returns-in-Err-write_step g c =
    let f : SourceDef = source_at (g.P.ProgramSource.source c.args.protocol.now) c.args.set.now in
    point_stopped f c.args.bounds.now c.args.i.0 c.args.left c.in-Ok.run' c.in-Err-write_step.stop (map step_seen c.args.steps.now.items)
    (map step_seen c.write_step.new.steps.items) c.in-Ok.ensures (rw (c.deref.ensures.value) at c.in-Err-write_step.ensures)
