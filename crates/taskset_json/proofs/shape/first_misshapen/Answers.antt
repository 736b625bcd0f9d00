use Rattle.std.proofs.Common.{◌≡◌, true, Option, Some, None, map, ◌∙◌, sym, ap, codes, arith}
use Rattle.std.specs.List.{flat_map}
use Rattle.std.specs.Option.{option_or}
use Rattle.serde_json.specs.Data.{Data}
use Rattle.sporadic_model.specs.declared.refusal.Place.{Place}
use Rattle.taskset_json.specs.Members.{list_at}
use Rattle.taskset_json.specs.Form.{is_object_of, set_form}
use Rattle.taskset_json.specs.FormFaults.{first_of, resource_object, task_objects, counted_from}
use Rattle.serde_json.specs.View.{view}
use Rattle.taskset_json.proofs.Sizes.{listed_within, list_at-sizes}
use Rattle.taskset_json.proofs.Places.{after_root}
use Rattle.taskset_json.proofs.shape.first_misshapen.Goals as goal

pub first_resource-requires : goal.first_resource-requires
first_resource-requires c = omega (
  arith,
  listed_within (codes "resources") (view c.args.value.now) c.list_at.result.now c.list_at.ensures,
  c.requires,
)

pub first_task-requires : goal.first_task-requires
first_task-requires c = rw c.list_at-in-None.ensures (omega (arith, list_at-sizes (codes "tasks") (view c.args.value.now), c.requires))

pub returns-in-Some : goal.returns-in-Some
returns-in-Some c =
    let d : Data = view c.args.value.now in
    let root : is_object_of set_form d ≡ true = sym c.is_set.ensures ∙ c.if-not-is_set.false in
    let tasks : Option Place = first_of (flat_map task_objects (counted_from 0 (list_at (codes "tasks") d))) in
    let found : first_of (map resource_object (counted_from 0 (list_at (codes "resources") d))) ≡ Some c.in-Some.place =
    ap (λ ds. first_of (map resource_object (counted_from 0 ds))) (sym c.list_at.ensures) ∙ sym c.first_resource.ensures ∙ c.in-Some.is in
    sym (after_root d root ∙ ap (λ o. option_or o tasks) found)

pub returns-in-None : goal.returns-in-None
returns-in-None c =
    let d : Data = view c.args.value.now in
    let root : is_object_of set_form d ≡ true = sym c.is_set.ensures ∙ c.if-not-is_set.false in
    let tasks : Option Place = first_of (flat_map task_objects (counted_from 0 (list_at (codes "tasks") d))) in
    let found : first_of (map resource_object (counted_from 0 (list_at (codes "resources") d))) ≡ None =
    ap (λ ds. first_of (map resource_object (counted_from 0 ds))) (sym c.list_at.ensures) ∙ sym c.first_resource.ensures ∙ c.in-None.is in
    c.first_task.ensures
    ∙ ap (λ ds. first_of (flat_map task_objects (counted_from 0 ds))) c.list_at-in-None.ensures
    ∙ sym (after_root d root ∙ ap (λ o. option_or o tasks) found)
