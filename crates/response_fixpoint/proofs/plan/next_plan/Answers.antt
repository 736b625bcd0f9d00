use Rattle.std.proofs.Common.{◌≡◌, ℕ, ◌+◌, List, length, ◌∙◌, ap, subst, arith, length-append, ◌∷◌, []}
use Rattle.program_sources.specs.Recurrence.{SourceDef, source_at}
use Rattle.response_fixpoint.specs.Solutions.{IsPlanned, IsKept}
use Rattle.response_fixpoint.specs.declared.plan.Kept.{Kept}
use Rattle.response_fixpoint.specs.declared.plan.Planned.{Planned}
use Rattle.response_fixpoint.proofs.PlaceLaws.{each_none, each_first, each_rest, each_more}
use Rattle.response_fixpoint.proofs.plan.next_plan.Goals as goal

pub loop-last-init : goal.loop-last-init
loop-last-init g c =
    let f : SourceDef = source_at (g.P.ProgramSource.source c.args.protocol.now) c.args.set.now in
    let none : length c.new-plan.result.items ≡ 0 = ap length c.new-plan.ensures.items in
    let given : c.into_iter-last-iterator.result.rest.items ≡ c.args.kept.items = c.into_iter-last-iterator.ensures.into_iter_gives.0 in
    record {
      count = omega (arith, none, ap length given, c.requires.kept.one_each);
      planned = λ left. each_none (IsPlanned f c.args.bounds.now left) 0 c.new-plan.result.items none;
      kept = rw (none, given) c.requires.kept.each;
    }

pub planned_after-requires-clause-served : goal.planned_after-requires-clause-served
planned_after-requires-clause-served g c =
    let rest : List Kept = c.next.new.self.rest.items in
    let split : c.loop-last.last-iterator.rest.items ≡ c.in-Some.last ∷ rest = c.in-Some.ensures.steps.0 in
    let long : length c.loop-last.last-iterator.rest.items ≡ length rest + 1 = ap length split ∙ omega arith in
    record {
      serves = c.requires.serves;
      range = c.requires.range;
      task = omega (arith, c.len.ensures, long, c.loop-last.invariant.count);
    }

pub planned_after-requires-clause-before : goal.planned_after-requires-clause-before
planned_after-requires-clause-before g c =
    let f : SourceDef = source_at (g.P.ProgramSource.source c.args.protocol.now) c.args.set.now in
    let at : length c.loop-last.plan.items ≡ c.len.result = omega (arith, c.len.ensures) in
    record {
      earlier = c.requires.earlier;
      kept = subst (λ (k : ℕ). IsKept f c.args.earlier.now k c.in-Some.last) at
          (each_first (IsKept f c.args.earlier.now) (length c.loop-last.plan.items) c.loop-last.last-iterator.rest.items
          c.next.new.self.rest.items c.in-Some.last c.in-Some.ensures.steps.0 c.loop-last.invariant.kept);
    }

pub loop-last-preserved : goal.loop-last-preserved
loop-last-preserved g c =
    let f : SourceDef = source_at (g.P.ProgramSource.source c.args.protocol.now) c.args.set.now in
    let plan : List Planned = c.loop-last.plan.items in
    let new : Planned = c.in_ok-planned.planned in
    let rest : List Kept = c.next.new.self.rest.items in
    let split : c.loop-last.last-iterator.rest.items ≡ c.in-Some.last ∷ rest = c.in-Some.ensures.steps.0 in
    let long : length c.loop-last.last-iterator.rest.items ≡ length rest + 1 = ap length split ∙ omega arith in
    let grown : length c.push.new.self.items ≡ length plan + 1 = ap length c.in_ok-push.ensures.items ∙ length-append plan (new ∷ []) in
    let place : c.len.result ≡ 0 + length plan = omega (arith, c.len.ensures) in
    record {
      count = omega (arith, grown, long, c.loop-last.invariant.count);
      planned = λ left. rw c.in_ok-push.ensures.items (each_more (IsPlanned f c.args.bounds.now left) 0 plan new
          (c.loop-last.invariant.planned left)
          (subst (λ (k : ℕ). IsPlanned f c.args.bounds.now left k new) place (c.in_ok-planned.ensures left)));
      kept = rw grown (each_rest (IsKept f c.args.earlier.now) (length plan) c.loop-last.last-iterator.rest.items rest c.in-Some.last
          split c.loop-last.invariant.kept);
    }

pub returns : goal.returns
returns g c = λ left.
    let none : length c.loop-last.last-iterator.rest.items ≡ 0 =
    omega (arith, c.in-None.ensures.steps.0, c.loop-last.last-iterator.rest.ok.0) in
    record { one_each = omega (arith, none, c.loop-last.invariant.count); planned = c.loop-last.invariant.planned left }
