use Rattle.std.proofs.Common.{◌≡◌, ℕ, ◌+◌, List, length, ◌∙◌, ap, subst, arith, length-append, ◌∷◌, []}
use Rattle.program_sources.specs.Recurrence.{SourceDef, source_at}
use Rattle.response_fixpoint.specs.Solutions.{IsPlanned}
use Rattle.response_fixpoint.specs.declared.plan.Planned.{Planned}
use Rattle.response_fixpoint.proofs.PlaceLaws.{each_more, found_first, found_rest}
use Rattle.response_fixpoint.proofs.beginning.in_order.Goals as goal

pub planned_program-requires-clause-begun : goal.planned_program-requires-clause-begun
planned_program-requires-clause-begun g c =
    let f : SourceDef = source_at (g.P.ProgramSource.source c.args.protocol.now) c.args.set.now in
    rw c.flatten-place.ensures (found_first (IsPlanned f c.args.bounds.now c.args.left) c.loop-i.i c.loop-i.begun.rest.items
    c.next.new.self.rest.items c.next.result c.next.ensures.items c.loop-i.invariant.begun)

pub loop-i-preserved : goal.loop-i-preserved
loop-i-preserved g c =
    let f : SourceDef = source_at (g.P.ProgramSource.source c.args.protocol.now) c.args.set.now in
    let plan : List Planned = c.loop-i.plan.items in
    let new : Planned = c.in_ok-planned.planned in
    let place : c.loop-i.i ≡ 0 + length plan = omega (arith, c.loop-i.invariant.count) in
    let grown : length c.push.new.self.items ≡ length plan + 1 =
    ap length c.in_ok-push.ensures.items ∙ length-append plan (new ∷ []) in
    record {
      count = omega (arith, grown, c.loop-i.invariant.count);
      planned = rw c.in_ok-push.ensures.items (each_more (IsPlanned f c.args.bounds.now c.args.left) 0 plan new c.loop-i.invariant.planned
          (subst (λ (k : ℕ). IsPlanned f c.args.bounds.now c.args.left k new) place c.in_ok-planned.ensures));
      begun = found_rest (IsPlanned f c.args.bounds.now c.args.left) c.loop-i.i c.loop-i.begun.rest.len
          c.loop-i.begun.rest.items c.next.new.self.rest.items c.next.result
          c.next.ensures.items c.next.ensures.variant c.loop-i.begun.rest.ok.0 c.loop-i.invariant.begun;
    }
