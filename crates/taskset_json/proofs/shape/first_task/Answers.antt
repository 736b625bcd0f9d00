use Rattle.std.proofs.Common.{Option, ◌+◌, map, drop, ◌∙◌, sym, ap, arith}
use Rattle.std.specs.List.{flat_map}
use Rattle.std.specs.Option.{option_or}
use Rattle.serde_json.specs.View.{view}
use Rattle.sporadic_model.specs.declared.refusal.Place.{Place}
use Rattle.taskset_json.specs.FormFaults.{first_of, task_objects, counted_from}
use Rattle.taskset_json.proofs.Sizes.{length-values, value_within}
use Rattle.taskset_json.proofs.Places.{task_turn}
use Rattle.taskset_json.proofs.shape.first_task.Goals as goal

pub overflow_cast-x : goal.overflow_cast-x
overflow_cast-x c = omega (arith, length-values c.args.tasks.now, c.requires, c.loop-x-test.true)

pub first_of_task-requires : goal.first_of_task-requires
first_of_task-requires c = rw c.index-tasks-x.is
    (omega (arith, value_within c.args.tasks.now c.loop-x.x c.index-tasks-x.result c.loop-x-test.true, c.requires))

pub returns-in-Some : goal.returns-in-Some
returns-in-Some c =
    let rest : Option Place = first_of
    (flat_map task_objects (counted_from (c.loop-x.x + 1) (map view (drop (c.loop-x.x + 1) c.args.tasks.now)))) in
    sym (ap (λ o. option_or o rest) (sym c.first_of_task.ensures ∙ c.in-Some.is))
    ∙ sym (task_turn c.loop-x.x c.args.tasks.now c.index-tasks-x.result c.loop-x-test.true c.index-tasks-x.is)
    ∙ c.loop-x.invariant

pub loop-x-preserved : goal.loop-x-preserved
loop-x-preserved c =
    let rest : Option Place = first_of
    (flat_map task_objects (counted_from (c.loop-x.x + 1) (map view (drop (c.loop-x.x + 1) c.args.tasks.now)))) in
    sym (ap (λ o. option_or o rest) (sym c.first_of_task.ensures ∙ c.in_default.is))
    ∙ sym (task_turn c.loop-x.x c.args.tasks.now c.index-tasks-x.result c.loop-x-test.true c.index-tasks-x.is)
    ∙ c.loop-x.invariant
