use Rattle.std.proofs.Common.{◌≡◌, ℕ, ◌+◌, length, map, refl, ap, arith}
use Rattle.program_sources.specs.Recurrence.{SourceDef, source_at}
use Rattle.refusal_laws.specs.Seen.{step_seen}
use Rattle.response_fixpoint.specs.Rounds.{Found}
use Rattle.response_fixpoint.specs.Solutions.{IsPlanned, IsKept}
use Rattle.response_fixpoint.specs.declared.plan.Kept.{Kept}
use Rattle.response_fixpoint.proofs.PlaceLaws.{each_none, next_first, next_rest}
use Rattle.response_fixpoint.proofs.SolutionLaws.{planned_ahead, kept_more}
use Rattle.refusal_cert.proofs.AnswerLaws.{found_first, found_more, run_halts, value_halts}
use Rattle.refusal_cert.proofs.rounds.take_round.Goals as goal

pub loop-i-init : goal.loop-i-init
loop-i-init g c =
    let f : SourceDef = source_at (g.P.ProgramSource.source c.args.protocol.now) c.args.set.now in
    let none : length c.new-2.result.items ≡ 0 = ap length c.new-2.ensures.items in
    record {
      found = found_first f c.args.bounds.now c.args.left (map step_seen c.args.steps.now.items) _ refl c.new.ensures.items;
      within = omega arith;
      least = omega arith;
      kept = record { one_each = none; each = each_none (IsKept f c.args.bounds.now) 0 c.new-2.result.items none };
      planned = rw c.into_iter-plan.ensures.rest c.requires.plan;
    }

pub planned_program-requires-clause-begun : goal.planned_program-requires-clause-begun
planned_program-requires-clause-begun g c =
    let f : SourceDef = source_at (g.P.ProgramSource.source c.args.protocol.now) c.args.set.now in
    next_first (IsPlanned f c.args.bounds.now c.args.left) c.loop-i.i c.loop-i.plan.rest.items c.next-begun.new.self.rest.items
    c.next-begun.result c.next-begun.ensures.items c.loop-i.invariant.planned

pub run_task-ran-requires-clause-ahead : goal.run_task-ran-requires-clause-ahead
run_task-ran-requires-clause-ahead g c =
    let f : SourceDef = source_at (g.P.ProgramSource.source c.args.protocol.now) c.args.set.now in
    let planned = c.in_ok-planned in
    planned_ahead f c.args.bounds.now c.args.left c.loop-i.round.used c.loop-i.i planned.planned.program planned.planned.ahead
    planned.ensures.program planned.ensures.ahead

pub returns-in-Err : goal.returns-in-Err
returns-in-Err g c =
    let f : SourceDef = source_at (g.P.ProgramSource.source c.args.protocol.now) c.args.set.now in
    rw (c.round_stop.ensures) (run_halts f c.args.bounds.now c.args.left c.loop-i.i (map step_seen c.args.steps.now.items)
    (map step_seen c.loop-i.steps.items) (map step_seen c.run_task-ran.new.steps.items) c.loop-i.round c.in-Err.stop (omega arith)
    c.loop-i.invariant.found c.in-Err.ensures)

pub returns-in-Err-take_run : goal.returns-in-Err-take_run
returns-in-Err-take_run g c =
    let f : SourceDef = source_at (g.P.ProgramSource.source c.args.protocol.now) c.args.set.now in
    value_halts f c.args.bounds.now c.args.left c.loop-i.i c.latest_bound.result (map step_seen c.args.steps.now.items)
    (map step_seen c.loop-i.steps.items) (map step_seen c.run_task-ran.new.steps.items) c.loop-i.round c.take_run.new.round
    c.in_ok-planned.planned.program c.in-Ok.run' c.in-Err-take_run.stop (omega arith) c.latest_bound.ensures.value
    (c.requires.served.range.to_latest c.loop-i.i (omega arith)) c.loop-i.invariant.found c.in-Ok.ensures c.in-Err-take_run.ensures

pub loop-i-preserved : goal.loop-i-preserved
loop-i-preserved g c =
    let f : SourceDef = source_at (g.P.ProgramSource.source c.args.protocol.now) c.args.set.now in
    let i : ℕ = c.loop-i.i in
    let planned = c.in_ok-planned in
    let ran = c.in-Ok.ensures in
    let taken = c.in-Ok-take_run.ensures in
    let used : c.take_run.new.round.used ≡ c.loop-i.round.used + c.in-Ok.run'.solution.used = ap (λ (x : Found). x.used) taken.1 in
    let new : Kept = record { program = planned.planned.program; solution = c.in-Ok.run'.solution } in
    record {
      found = found_more f c.args.bounds.now c.args.left i c.latest_bound.result (map step_seen c.args.steps.now.items)
          (map step_seen c.loop-i.steps.items) (map step_seen c.run_task-ran.new.steps.items) c.loop-i.round c.take_run.new.round
          c.in-Ok.run' c.latest_bound.ensures.value c.loop-i.invariant.found ran taken.0 taken.1;
      within = omega (arith, used, ran.4, c.loop-i.invariant.within);
      least = omega (arith, used, ran.3, c.loop-i.invariant.least);
      kept = kept_more f c.args.bounds.now i c.loop-i.round.kept.items c.take_run.new.round.kept.items new c.loop-i.invariant.kept
          (record { program = planned.ensures.program; solution = ran.5 }) taken.2;
      planned = next_rest (IsPlanned f c.args.bounds.now c.args.left) i c.loop-i.plan.rest.len c.loop-i.plan.rest.items
          c.next-begun.new.self.rest.items c.next-begun.result c.next-begun.ensures.items c.next-begun.ensures.variant
          c.loop-i.plan.rest.ok.0 c.loop-i.invariant.planned;
    }
