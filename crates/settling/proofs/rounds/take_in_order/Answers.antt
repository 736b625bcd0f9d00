use Rattle.std.proofs.Common.{◌≡◌, ℕ, ◌+◌, ◌<◌, ◌≤◌, List, length, max, sym, subst, arith}
use Rattle.std.specs.Prelude.{slice_index}
use Rattle.program_form.specs.Certificate.{dual_seen}
use Rattle.program_sources.specs.Recurrence.{SourceDef, source_at, response_with}
use Rattle.program_sources.specs.Fitting.{tasks_of, latest_of}
use Rattle.program_sources.proofs.RecurrenceLaws.{LimitsRise}
use Rattle.response_fixpoint.specs.Rounds.{Found, with_task}
use Rattle.response_fixpoint.proofs.PlaceLaws.{found_first, found_rest}
use Rattle.response_fixpoint.proofs.RoundLaws.{values_length}
use Rattle.settling.specs.Rising.{IsFoundAt, IsFoundOf}
use Rattle.settling.specs.Trails.{IsTrailWithin}
use Rattle.settling.specs.WalkRounds.{found_of, IsPart}
use Rattle.settling.specs.Walks.{walk}
use Rattle.settling.specs.declared.reached.Reached.{Reached}
use Rattle.settling.proofs.TrailLaws.{trail_goes_on, trail_ends, trail_whole, written_goes_on}
use Rattle.settling.proofs.WalkRoundLaws.{part_goes_on, round_stops, late_of}
use Rattle.settling.proofs.rounds.take_in_order.Goals as goal

pub returns-in-Err : goal.returns-in-Err
returns-in-Err g c =
    let f : SourceDef = source_at (g.P.ProgramSource.source c.args.protocol.now) c.args.set.now in
    round_stops c.args.points f c.args.bounds.now c.args.left c.loop-i.i c.loop-i.round c.loop-i.steps c.in-Err.stop (omega arith)
    c.loop-i.invariant.part c.in-Err.ensures.stops

pub reach_in_place-requires-clause-ahead : goal.reach_in_place-requires-clause-ahead
reach_in_place-requires-clause-ahead g c =
    let f : SourceDef = source_at (g.P.ProgramSource.source c.args.protocol.now) c.args.set.now in
    rw c.flatten-first.ensures (found_first (IsFoundAt c.args.points f c.args.bounds.now) c.loop-i.i c.loop-i.ahead.rest.items
    c.next.new.self.rest.items c.next.result c.next.ensures.items c.loop-i.invariant.ahead)

pub returns-then-bound-latest_bound : goal.returns-then-bound-latest_bound
returns-then-bound-latest_bound g c =
    let f : SourceDef = source_at (g.P.ProgramSource.source c.args.protocol.now) c.args.set.now in
    let rise : LimitsRise f = λ k u v here most. g.met.P.ProgramSource.rises c.args.protocol.now c.args.set.now k u v c.requires.serves here most in
    let i : ℕ = c.loop-i.i in
    let r : List ℕ = c.args.bounds.now in
    let reached : Reached = c.in-Ok.reached in
    let bound : ℕ = c.next_bound-bound.result in
    let found : IsFoundOf c.args.points (f.program i r) reached = c.in-Ok.ensures.found in
    let is : bound ≡ max (response_with f r i reached.ticks) (slice_index r i) = c.next_bound-bound.ensures in
    let here : i < tasks_of f = omega arith in
    let within : slice_index r i ≤ latest_of f i = c.requires.begun.range.to_latest i here in
    let late : latest_of f i < bound = omega (arith, c.latest_bound.ensures.value) in (
      late_of c.args.points f r c.args.left i bound c.loop-i.round reached here c.loop-i.invariant.part found c.in-Ok.ensures.within is
          within late,
      trail_ends f rise r i bound reached.ticks (found_of c.loop-i.round) reached.point c.loop-i.steps c.add.new.self here is within late
          found.point c.in_ok-add.ensures c.loop-i.invariant.trail,
      written_goes_on c.args.points c.loop-i.steps c.add.new.self i (slice_index r i) bound reached.point found.written
          c.in_ok-add.ensures c.loop-i.invariant.written,
    )

pub loop-i-preserved : goal.loop-i-preserved
loop-i-preserved g c =
    let f : SourceDef = source_at (g.P.ProgramSource.source c.args.protocol.now) c.args.set.now in
    let rise : LimitsRise f = λ k u v here most. g.met.P.ProgramSource.rises c.args.protocol.now c.args.set.now k u v c.requires.serves here most in
    let i : ℕ = c.loop-i.i in
    let r : List ℕ = c.args.bounds.now in
    let reached : Reached = c.in-Ok.reached in
    let bound : ℕ = c.next_bound-bound.result in
    let found : IsFoundOf c.args.points (f.program i r) reached = c.in-Ok.ensures.found in
    let is : bound ≡ max (response_with f r i reached.ticks) (slice_index r i) = c.next_bound-bound.ensures in
    let here : i < tasks_of f = omega arith in
    let low : bound ≤ latest_of f i = omega (arith, c.latest_bound.ensures.value) in
    let taken = c.in_ok-take_task.ensures in
    let count : length (found_of c.loop-i.round).values ≡ i =
    values_length (walk c.args.points f) r c.args.left i (found_of c.loop-i.round) c.loop-i.invariant.part.passed in
    let trail : IsTrailWithin f r (with_task (found_of c.loop-i.round) reached.used bound (dual_seen reached.dual)) (i + 1) c.add.new.self =
    trail_goes_on f rise r i reached.used bound reached.ticks (dual_seen reached.dual) (found_of c.loop-i.round) reached.point
    c.loop-i.steps c.add.new.self here count is low found.point c.in_ok-add.ensures c.loop-i.invariant.trail in
    record {
      part = part_goes_on c.args.points f r c.args.left i bound c.loop-i.round c.take_task.new.round reached c.loop-i.invariant.part found
          c.in-Ok.ensures.within is low taken.found taken.reached;
      trail = subst (λ (x : Found). IsTrailWithin f r x (i + 1) c.add.new.self) (sym taken.found) trail;
      written = written_goes_on c.args.points c.loop-i.steps c.add.new.self i (slice_index r i) bound reached.point found.written
          c.in_ok-add.ensures c.loop-i.invariant.written;
      ahead = found_rest (IsFoundAt c.args.points f r) i c.loop-i.ahead.rest.len c.loop-i.ahead.rest.items c.next.new.self.rest.items
          c.next.result c.next.ensures.items c.next.ensures.variant c.loop-i.ahead.rest.ok.0 c.loop-i.invariant.ahead;
    }

pub returns : goal.returns
returns g c =
    let f : SourceDef = source_at (g.P.ProgramSource.source c.args.protocol.now) c.args.set.now in
    let r : List ℕ = c.args.bounds.now in
    let last : c.loop-i.i ≡ tasks_of f = omega arith in
    let part : IsPart c.args.points f r c.args.left (tasks_of f) c.loop-i.round =
    subst (λ (k : ℕ). IsPart c.args.points f r c.args.left k c.loop-i.round) last c.loop-i.invariant.part in
    let trail : IsTrailWithin f r (found_of c.loop-i.round) (tasks_of f) c.loop-i.steps =
    subst (λ (k : ℕ). IsTrailWithin f r (found_of c.loop-i.round) k c.loop-i.steps) last c.loop-i.invariant.trail in
    let count : length (found_of c.loop-i.round).values ≡ tasks_of f =
    values_length (walk c.args.points f) r c.args.left (tasks_of f) (found_of c.loop-i.round) part.passed in
    (part, record { trail = trail_whole f r (found_of c.loop-i.round) c.loop-i.steps count trail; written = c.loop-i.invariant.written })
