use Rattle.std.proofs.Common.{ℕ, zero, suc, ◌-◌, List, refl, sym, subst, arith, Ok, Err}
use Rattle.std.specs.Prelude.{Some, None}
use Rattle.program_sources.specs.Recurrence.{SourceDef, source_at}
use Rattle.program_sources.specs.Fitting.{AreBelowAllFitting, tasks_of}
use Rattle.response_fixpoint.specs.Rounds.{Reaches}
use Rattle.response_fixpoint.proofs.VectorLaws.{same_vectors, other_vectors}
use Rattle.settling.specs.WalkRounds.{GivesRound, IsPart}
use Rattle.settling.specs.Walks.{walk}
use Rattle.settling.specs.declared.rounds.Round.{Round}
use Rattle.settling.specs.declared.steps.Steps.{Steps}
use Rattle.settling.proofs.RiseLaws.{RespondsBelow, none_found, next_in_range, next_below}
use Rattle.settling.proofs.TrailLaws.{trail_starts}
use Rattle.settling.proofs.WalkRoundLaws.{walk_stops, late_shows, fixed_of, way_on}
use Rattle.settling.proofs.rising.rise.Goals as goal

pub loop-round-init : goal.loop-round-init
loop-round-init g c =
    let f : SourceDef = source_at (g.P.ProgramSource.source c.args.protocol.now) c.args.set.now in
    let v : List ℕ = c.in_ok-bounds.bounds.items in
    let way : Reaches (walk c.args.points f) c.args.allowance zero 0 v = (refl, c.in_ok-bounds.ensures.first) in
    record {
      way = (zero, way);
      within = omega arith;
      range = c.in_ok-bounds.ensures.range;
      below = subst (λ (x : List ℕ). AreBelowAllFitting f x) (sym c.in_ok-bounds.ensures.first) (c.costs_are_below_all_fitting.ensures f);
      before = (v, none_found c.args.points f v c.new-before.result.items (omega arith));
      trail = trail_starts f v c.new-steps.result c.in_ok-bounds.ensures.first c.new-steps.ensures;
      written = λ rounded. c.new-steps.ensures.written;
    }

pub take_round-round-requires-clause-begun : goal.take_round-round-requires-clause-begun
take_round-round-requires-clause-begun g c = λ κs h. record {
  range = rw c.deref.ensures.value c.loop-round.invariant.range;
  before = rw c.deref-in-loop-round.ensures.value c.loop-round.invariant.before;
}

pub returns-in-Ok-None-clause-rises : goal.returns-in-Ok-None-clause-rises
returns-in-Ok-None-clause-rises g c =
    let f : SourceDef = source_at (g.P.ProgramSource.source c.args.protocol.now) c.args.set.now in
    let v : List ℕ = c.loop-round.bounds.items in
    let steps : Steps = c.take_round-round.new.steps in
    let given : GivesRound (Ok None) c.args.points f v (c.args.allowance - c.loop-round.spent) steps =
    rw (c.in-Ok-None.is, c.in-Ok-None.field-0-is, c.deref.ensures.value) at c.take_round-round.ensures in
    let responds : RespondsBelow f = λ r s i blocking below fits within by.
    c.reached_responses_are_below_all_fitting.ensures c.args.protocol.now c.args.set.now r s i blocking c.requires.serves below fits within by in
    late_shows c.args.points f c.args.allowance c.loop-round.invariant.way.0 c.loop-round.spent v c.refusal.result steps responds
    c.loop-round.invariant.below c.loop-round.invariant.way.1 given.0 given.1 given.2 c.refusal.ensures

pub returns-in-Err-clause-stops : goal.returns-in-Err-clause-stops
returns-in-Err-clause-stops g c =
    let f : SourceDef = source_at (g.P.ProgramSource.source c.args.protocol.now) c.args.set.now in
    let v : List ℕ = c.loop-round.bounds.items in
    let steps : Steps = c.take_round-round.new.steps in
    let given : GivesRound (Err c.in-Err.stop) c.args.points f v (c.args.allowance - c.loop-round.spent) steps =
    rw (c.in-Err.is, c.deref.ensures.value) at c.take_round-round.ensures in
    walk_stops c.args.points f c.args.allowance c.loop-round.invariant.way.0 c.loop-round.spent v c.in-Err.stop steps
    c.loop-round.invariant.way.1 given

pub returns-then-eq-clause-rises : goal.returns-then-eq-clause-rises
returns-then-eq-clause-rises g c =
    let f : SourceDef = source_at (g.P.ProgramSource.source c.args.protocol.now) c.args.set.now in
    let v : List ℕ = c.loop-round.bounds.items in
    let round : Round = c.in-Ok-Some.round in
    let steps : Steps = c.take_round-round.new.steps in
    let given : GivesRound (Ok (Some round)) c.args.points f v (c.args.allowance - c.loop-round.spent) steps =
    rw (c.in-Ok-Some.is, c.in-Ok-Some.field-0-is, c.deref.ensures.value) at c.take_round-round.ensures in
    fixed_of c.args.points f c.args.allowance c.loop-round.invariant.way.0 c.loop-round.spent v round c.loop-round.invariant.range
    c.loop-round.invariant.below c.loop-round.invariant.way.1 given.0 (same_vectors round.next.items v c.if-eq.ensures)

pub loop-round-preserved : goal.loop-round-preserved
loop-round-preserved g c =
    let f : SourceDef = source_at (g.P.ProgramSource.source c.args.protocol.now) c.args.set.now in
    let v : List ℕ = c.loop-round.bounds.items in
    let round : Round = c.in-Ok-Some.round in
    let steps : Steps = c.take_round-round.new.steps in
    let given : GivesRound (Ok (Some round)) c.args.points f v (c.args.allowance - c.loop-round.spent) steps =
    rw (c.in-Ok-Some.is, c.in-Ok-Some.field-0-is, c.deref.ensures.value) at c.take_round-round.ensures in
    let part : IsPart c.args.points f v (c.args.allowance - c.loop-round.spent) (tasks_of f) round = given.0 in
    let responds : RespondsBelow f = λ r s i blocking below fits within by.
    c.reached_responses_are_below_all_fitting.ensures c.args.protocol.now c.args.set.now r s i blocking c.requires.serves below fits within by in
    let k : ℕ = c.loop-round.invariant.way.0 in
    record {
      way = (
        suc k,
        way_on c.args.points f c.args.allowance k c.loop-round.spent v round c.loop-round.invariant.way.1 part
            (other_vectors round.next.items v c.if-eq.ensures),
      );
      within = omega (arith, part.within, c.loop-round.invariant.within);
      range = next_in_range f v round.next.items round.reached.items part.next part.one_each c.loop-round.invariant.range;
      below = next_below c.args.points f v round.next.items round.reached.items responds part.next part.one_each part.reached
          c.loop-round.invariant.below;
      before = (v, part.reached);
      trail = given.1.trail;
      written = given.1.written;
    }
