use Rattle.std.proofs.Common.{◌≡◌, ℕ, ◌+◌, ◌<◌, List, map, length, sym, subst, ap, ◌∙◌, arith, Some, Ok, Err}
use Rattle.std.proofs.lemmas.List.{length-map}
use Rattle.std.specs.Prelude.{Option, Result}
use Rattle.std.specs.declared.alloc.AllocError.{AllocError}
use Rattle.program_sources.specs.Recurrence.{SourceDef, source_at}
use Rattle.refusal_laws.specs.Steps.{StepDef}
use Rattle.refusal_laws.specs.Seen.{step_seen}
use Rattle.refusal_confirm.specs.Tests.{Passes}
use Rattle.refusal_confirm.specs.Walks.{HasComeTo}
use Rattle.refusal_confirm.specs.Batches.{IsFirstFault, StopsAt}
use Rattle.refusal_confirm.specs.Given.{AreTestable}
use Rattle.refusal_confirm.specs.declared.batches.Trial.{Trial}
use Rattle.refusal_confirm.specs.declared.fault.Part.{Part}
use Rattle.refusal_confirm.proofs.BatchLaws.{batch_passes, first_is_fault, stop_is_fault}
use Rattle.refusal_confirm.proofs.WalkLaws.{over_holds, ends_over}
use Rattle.refusal_confirm.proofs.confirming.confirm_in_batches.Goals as goal

pub test_batch-requires-clause-trials : goal.test_batch-requires-clause-trials
test_batch-requires-clause-trials g c κs within =
    let steps : List StepDef = map step_seen c.args.steps.now in
    subst (λ (ts : List Trial). AreTestable c.args.set.now steps c.loop-done.done ts) (sym c.deref.ensures.value) (record {
      denominators = c.requires.denominators;
      within = c.in_ok-batch.ensures.most;
      trials = c.in_ok-batch.ensures.each;
    })

pub returns-in-Err : goal.returns-in-Err
returns-in-Err g c =
    let f : SourceDef = source_at (g.P.ProgramSource.source c.args.protocol.now) c.args.set.now in
    let steps : List StepDef = map step_seen c.args.steps.now in
    let start : ℕ = c.loop-done.done in
    let tested : List (Result (Option Part) AllocError) = c.in_ok-tested.tested.items in
    let batch = c.in_ok-batch.ensures in
    let size : length tested ≡ length c.in_ok-batch.batch.trials.items = c.in_ok-tested.ensures.len ∙ ap length c.deref.ensures.value in
    let given : IsFirstFault (Err c.in-Err.fault) tested start =
    rw (c.deref-in-loop-done.ensures.value) at c.in-Err.ensures in
    first_is_fault c.in-Err.fault f steps start tested (omega (arith, size, batch.most))
    c.loop-done.invariant.passed (λ j below. batch.come.entered j (omega (arith, below, size))) c.in_ok-tested.ensures.each given

pub returns-in-Some : goal.returns-in-Some
returns-in-Some g c =
    let f : SourceDef = source_at (g.P.ProgramSource.source c.args.protocol.now) c.args.set.now in
    let steps : List StepDef = map step_seen c.args.steps.now in
    let start : ℕ = c.loop-done.done in
    let n : ℕ = length c.in_ok-batch.batch.trials.items in
    let tested : List (Result (Option Part) AllocError) = c.in_ok-tested.tested.items in
    let batch = c.in_ok-batch.ensures in
    let size : length tested ≡ n = c.in_ok-tested.ensures.len ∙ ap length c.deref.ensures.value in
    let none : IsFirstFault (Ok c.in-Ok.field-0) tested start =
    rw (c.deref-in-loop-done.ensures.value) at c.in-Ok.ensures in
    let passed : (j : ℕ) → j < start + n → Passes f steps j =
    batch_passes f steps start n tested c.loop-done.invariant.passed batch.come.entered c.in_ok-tested.ensures.each
    (λ j below. none j (omega (arith, below, size))) in
    let v : List ℕ = c.next_batch.new.walk.bounds.items in
    let over = c.next_batch.new.walk.is_over in
    let stops : StopsAt (Some c.in-Some.part) f.set steps start (start + n) v over =
    rw (c.in-Some.is) at batch.stops in
    let count : c.len-done.result ≡ n = omega (arith, c.len-done.ensures, c.in_ok-batch.batch.trials.ok) in
    rw (c.fault_of.ensures, count) (stop_is_fault c.in-Some.part f steps (start + n) v over passed batch.come stops.0 stops.1)

pub loop-done-preserved : goal.loop-done-preserved
loop-done-preserved g c =
    let f : SourceDef = source_at (g.P.ProgramSource.source c.args.protocol.now) c.args.set.now in
    let steps : List StepDef = map step_seen c.args.steps.now in
    let start : ℕ = c.loop-done.done in
    let n : ℕ = length c.in_ok-batch.batch.trials.items in
    let tested : List (Result (Option Part) AllocError) = c.in_ok-tested.tested.items in
    let batch = c.in_ok-batch.ensures in
    let size : length tested ≡ n = c.in_ok-tested.ensures.len ∙ ap length c.deref.ensures.value in
    let none : IsFirstFault (Ok c.in-Ok.field-0) tested start =
    rw (c.deref-in-loop-done.ensures.value) at c.in-Ok.ensures in
    let passed : (j : ℕ) → j < start + n → Passes f steps j =
    batch_passes f steps start n tested c.loop-done.invariant.passed batch.come.entered c.in_ok-tested.ensures.each
    (λ j below. none j (omega (arith, below, size))) in
    let count : n ≡ c.len-done.result = omega (arith, c.len-done.ensures, c.in_ok-batch.batch.trials.ok) in
    record {
      come = subst (λ (m : ℕ). HasComeTo f.set steps (start + m) c.next_batch.new.walk.bounds.items c.next_batch.new.walk.is_over)
          count batch.come;
      passed = λ j below. passed j (omega (arith, below, count));
      most = omega (arith, batch.most, count, length-map c.args.steps.now step_seen);
    }

pub returns-then-walk : goal.returns-then-walk
returns-then-walk g c =
    let f : SourceDef = source_at (g.P.ProgramSource.source c.args.protocol.now) c.args.set.now in
    let steps : List StepDef = map step_seen c.args.steps.now in
    let end : c.loop-done.done ≡ length steps =
    omega (arith, c.loop-done-test.false, c.loop-done.invariant.most, length-map c.args.steps.now step_seen) in
    let come : HasComeTo f.set steps (length steps) c.loop-done.walk.bounds.items c.loop-done.walk.is_over =
    subst (λ (n : ℕ). HasComeTo f.set steps n c.loop-done.walk.bounds.items c.loop-done.walk.is_over) end c.loop-done.invariant.come in
    over_holds f steps c.requires.denominators (λ j here. c.loop-done.invariant.passed j (omega (arith, here, end)))
    (ends_over f.set steps c.loop-done.walk.bounds.items c.loop-done.walk.is_over c.if-walk.true come)
