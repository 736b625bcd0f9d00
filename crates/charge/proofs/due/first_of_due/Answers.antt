use Rattle.std.proofs.Common.{◌∙◌, ap, arith}
use Rattle.schedule_model.specs.Seen.{place_seen}
use Rattle.charge.specs.Due.{least_of}
use Rattle.charge.proofs.Passing.{least_next, all_due, none_due}
use Rattle.charge.proofs.due.first_of_due.Goals as goal

pub loop-x-init : goal.loop-x-init
loop-x-init c = λ passes found. found ∙ none_due c.args.machine.now c.args.bounds.now passes

pub loop-x-preserved : goal.loop-x-preserved
loop-x-preserved c = λ passes found.
    c.least_of-least.ensures ∙ ap (least_of (place_seen c.loop-x.least)) c.due_of.ensures
    ∙ least_next c.args.machine.now c.args.bounds.now passes c.loop-x.x (place_seen c.loop-x.least) c.tasks_of-x-end.ensures.machine
    (omega (arith, c.loop-x-test.true, c.tasks_of-x-end.ensures.value)) (c.loop-x.invariant passes found)

pub returns : goal.returns
returns c = λ passes found.
    c.loop-x.invariant passes found
    ∙ all_due c.args.machine.now c.args.bounds.now passes c.loop-x.x c.tasks_of-x-end.ensures.machine
    (omega (arith, c.loop-x-test.false, c.tasks_of-x-end.ensures.value))
