use Rattle.std.proofs.Common.{◌≡◌, ℕ, ◌+◌, ◌-◌, ◌≤◌, List, [], ◌∷◌, length, refl, sym, ◌∙◌, ap, subst, arith, length-append}
use Rattle.std.specs.Option.{option_flatten}
use Rattle.program_form.specs.Certificate.{dual_seen}
use Rattle.program_sources.specs.Recurrence.{SourceDef, source_at}
use Rattle.program_sources.specs.Fitting.{latest_of}
use Rattle.response_fixpoint.specs.Rounds.{Valued, Found, Passes}
use Rattle.response_fixpoint.specs.Runs.{TaskRuns, rounds_of}
use Rattle.response_fixpoint.specs.Solutions.{IsSolution, IsOutcome, IsPlanned, IsKept}
use Rattle.response_fixpoint.specs.Answers.{found_of}
use Rattle.response_fixpoint.specs.declared.plan.Kept.{Kept}
use Rattle.response_fixpoint.specs.declared.plan.Planned.{Planned}
use Rattle.response_fixpoint.proofs.PlaceLaws.{each_none, each_first, each_rest, found_first, found_rest}
use Rattle.response_fixpoint.proofs.SolutionLaws.{either_ahead, kept_more}
use Rattle.response_fixpoint.proofs.AnswerLaws.{passes_more, run_units}
use Rattle.response_fixpoint.proofs.rounds.take_round.Goals as goal

pub loop-planned-init : goal.loop-planned-init
loop-planned-init g c =
    let f : SourceDef = source_at (g.P.ProgramSource.source c.args.protocol.now) c.args.set.now in
    let none : length c.new-2.result.items ≡ 0 = ap length c.new-2.ensures.items in
    let given : c.into_iter-planned-iterator.result.rest.items ≡ c.args.plan.items =
    c.into_iter-planned-iterator.ensures.into_iter_gives.0 in
    record {
      count = omega (arith, none, ap length given, c.requires.plan.one_each);
      passed = rw (c.new.ensures.items, c.new-2.ensures.items) refl;
      within = omega arith;
      least = omega (arith, none);
      kept = record { one_each = refl; each = each_none (IsKept f c.args.bounds.now) 0 c.new-2.result.items none };
      planned = rw (none, given) c.requires.plan.planned;
      ahead = rw (none, c.into_iter-outcomes.ensures.rest) c.in_ok-ahead.ensures;
    }

pub run_task-requires-clause-program : goal.run_task-requires-clause-program
run_task-requires-clause-program g c =
    let f : SourceDef = source_at (g.P.ProgramSource.source c.args.protocol.now) c.args.set.now in
    let n : ℕ = length c.loop-planned.round.kept.items in
    let rest : List Planned = c.next.new.self.rest.items in
    let split : c.loop-planned.planned-iterator.rest.items ≡ c.in-Some.planned ∷ rest = c.in-Some.ensures.steps.0 in
    let first = each_first (IsPlanned f c.args.bounds.now c.args.left) n c.loop-planned.planned-iterator.rest.items rest c.in-Some.planned
    split c.loop-planned.invariant.planned in
    let at : n ≡ c.len.result = omega (arith, c.len.ensures) in
    (subst (λ (k : ℕ). IsPlanned f c.args.bounds.now c.args.left k c.in-Some.planned) at first).program

pub run_task-requires-clause-ahead : goal.run_task-requires-clause-ahead
run_task-requires-clause-ahead g c =
    let f : SourceDef = source_at (g.P.ProgramSource.source c.args.protocol.now) c.args.set.now in
    let n : ℕ = length c.loop-planned.round.kept.items in
    let rest : List Planned = c.next.new.self.rest.items in
    let split : c.loop-planned.planned-iterator.rest.items ≡ c.in-Some.planned ∷ rest = c.in-Some.ensures.steps.0 in
    let first = each_first (IsPlanned f c.args.bounds.now c.args.left) n c.loop-planned.planned-iterator.rest.items rest c.in-Some.planned
    split c.loop-planned.invariant.planned in
    let found = found_first (IsOutcome f c.args.bounds.now c.args.left) n c.loop-planned.outcomes.rest.items
    c.next-in-loop-planned.new.self.rest.items c.next-in-loop-planned.result c.next-in-loop-planned.ensures.items
    c.loop-planned.invariant.ahead in
    rw (c.or-outcome.ensures, c.flatten.ensures) (either_ahead f c.args.bounds.now c.args.left c.loop-planned.round.used n
    c.in-Some.planned.program c.in-Some.planned.ahead (option_flatten c.next-in-loop-planned.result) first.program first.ahead found)

pub loop-planned-preserved : goal.loop-planned-preserved
loop-planned-preserved g c =
    let f : SourceDef = source_at (g.P.ProgramSource.source c.args.protocol.now) c.args.set.now in
    let n : ℕ = length c.loop-planned.round.kept.items in
    let rest : List Planned = c.next.new.self.rest.items in
    let split : c.loop-planned.planned-iterator.rest.items ≡ c.in-Some.planned ∷ rest = c.in-Some.ensures.steps.0 in
    let first = each_first (IsPlanned f c.args.bounds.now c.args.left) n c.loop-planned.planned-iterator.rest.items rest c.in-Some.planned
    split c.loop-planned.invariant.planned in
    let run = c.in-Ok.run' in
    let solution = run.solution in
    let back : c.len.result ≡ n = omega (arith, c.len.ensures) in
    let runs : TaskRuns f c.args.bounds.now n (c.args.left - c.loop-planned.round.used)
    (Valued solution.used run.value (dual_seen solution.dual)) =
    subst (λ (k : ℕ). TaskRuns f c.args.bounds.now k (c.args.left - c.loop-planned.round.used)
    (Valued solution.used run.value (dual_seen solution.dual))) back c.in-Ok.ensures.0 in
    let new : Kept = record { program = c.in-Some.planned.program; solution = solution } in
    let kept : IsKept f c.args.bounds.now n new = record {
      program = first.program;
      solution = subst (λ (k : ℕ). IsSolution (f.program k c.args.bounds.now) solution) back c.in-Ok.ensures.1;
    } in
    let taken = c.in-Ok-take_run.ensures in
    let within : run.value ≤ latest_of f n =
    subst (λ (k : ℕ). run.value ≤ latest_of f k) back (omega (arith, taken.0, c.latest_bound.ensures.value)) in
    let units = run_units f c.args.bounds.now n (c.args.left - c.loop-planned.round.used) solution.used run.value
    (dual_seen solution.dual) runs in
    let sum : c.take_run.new.round.used ≡ c.loop-planned.round.used + solution.used = ap (λ (x : Found). x.used) taken.1 in
    let passed = passes_more f c.args.bounds.now c.args.left n (found_of c.loop-planned.round) run
    c.loop-planned.invariant.passed runs within in
    let grown : length c.take_run.new.round.kept.items ≡ n + 1 =
    ap length taken.2 ∙ length-append c.loop-planned.round.kept.items (new ∷ []) in
    let long : length c.loop-planned.planned-iterator.rest.items ≡ length rest + 1 = ap length split ∙ omega arith in
    record {
      count = omega (arith, grown, long, c.loop-planned.invariant.count);
      passed = subst (λ (k : ℕ). Passes (rounds_of f) c.args.bounds.now c.args.left k (found_of c.take_run.new.round)) (sym grown)
          (subst (λ (x : Found). Passes (rounds_of f) c.args.bounds.now c.args.left (n + 1) x) (sym taken.1) passed);
      within = omega (arith, sum, units.1, c.loop-planned.invariant.within);
      least = omega (arith, grown, sum, units.0, c.loop-planned.invariant.least);
      kept = rw grown (kept_more f c.args.bounds.now n c.loop-planned.round.kept.items c.take_run.new.round.kept.items new
          c.loop-planned.invariant.kept kept taken.2);
      planned = rw grown (each_rest (IsPlanned f c.args.bounds.now c.args.left) n c.loop-planned.planned-iterator.rest.items rest
          c.in-Some.planned split c.loop-planned.invariant.planned);
      ahead = rw grown (found_rest (IsOutcome f c.args.bounds.now c.args.left) n c.loop-planned.outcomes.rest.len
          c.loop-planned.outcomes.rest.items c.next-in-loop-planned.new.self.rest.items c.next-in-loop-planned.result
          c.next-in-loop-planned.ensures.items c.next-in-loop-planned.ensures.variant c.loop-planned.outcomes.rest.ok.0
          c.loop-planned.invariant.ahead);
    }
