use Rattle.std.proofs.Common.{◌≡◌, ℕ, ◌+◌, ◌-◌, refl, subst, arith}
use Rattle.program_sources.specs.Recurrence.{SourceDef, source_at}
use Rattle.response_fixpoint.specs.Solutions.{IsPlan}
use Rattle.response_fixpoint.proofs.VectorLaws.{same_vectors, other_vectors}
use Rattle.response_fixpoint.proofs.taking.take_rounds.Goals as goal

pub loop-round-init : goal.loop-round-init
loop-round-init g c =
    let f : SourceDef = source_at (g.P.ProgramSource.source c.args.protocol.now) c.args.set.now in
    let all : c.args.allowance ≡ c.args.allowance - 0 = omega arith in
    record {
      stands = c.requires.stands;
      range = c.requires.served.range;
      within = omega arith;
      planned = subst (λ (left : ℕ). g.S.RoundRecord.begins f c.args.bounds.items left c.args.plan.items) all c.requires.plan;
    }

pub returns-in-Err : goal.returns-in-Err
returns-in-Err g c = c.in-Err.ensures c.args.allowance c.loop-round.spent refl c.loop-round.invariant.stands

pub returns-then-eq : goal.returns-then-eq
returns-then-eq g c = c.in-Ok.ensures.settles c.args.allowance c.loop-round.spent refl c.loop-round.invariant.stands
    (same_vectors c.in-Ok.round.values.items c.loop-round.bounds.items c.if-eq.ensures)

pub next_plan-requires-clause-earlier : goal.next_plan-requires-clause-earlier
next_plan-requires-clause-earlier g c = rw c.deref.ensures.value c.loop-round.invariant.range

pub next_plan-requires-clause-range : goal.next_plan-requires-clause-range
next_plan-requires-clause-range g c = rw c.deref-in-loop-round.ensures.value c.in-Ok.ensures.range

pub next_plan-requires-clause-kept : goal.next_plan-requires-clause-kept
next_plan-requires-clause-kept g c = rw c.deref.ensures.value c.in-Ok.ensures.kept

pub overflow_add-spent : goal.overflow_add-spent
overflow_add-spent g c = omega (arith, c.in-Ok.ensures.within, c.loop-round.invariant.within, c.ranges.allowance.fits)

pub loop-round-smaller : goal.loop-round-smaller
loop-round-smaller g c =
    omega (arith, c.in-Ok.ensures.within, c.in-Ok.ensures.least, c.loop-round.invariant.within, c.tasks-tasks.ensures)

pub loop-round-preserved : goal.loop-round-preserved
loop-round-preserved g c =
    let f : SourceDef = source_at (g.P.ProgramSource.source c.args.protocol.now) c.args.set.now in
    let round = c.in-Ok.round in
    let units : ℕ = c.args.allowance - (c.loop-round.spent + round.used) in
    let whole : IsPlan f round.values.items units c.in_ok-plan.plan.items =
    rw c.deref-in-loop-round.ensures.value at (c.in_ok-plan.ensures units) in
    record {
      stands = c.in-Ok.ensures.leads c.args.allowance c.loop-round.spent refl c.loop-round.invariant.stands
          (other_vectors round.values.items c.loop-round.bounds.items c.if-eq.ensures);
      range = c.in-Ok.ensures.range;
      within = omega (arith, c.in-Ok.ensures.within, c.loop-round.invariant.within);
      planned = g.S.RoundRecord.plans_begin f round.values.items units c.in_ok-plan.plan.items whole;
    }
