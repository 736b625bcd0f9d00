-- A value breaks the form of a task set nowhere exactly where it has the form.
use Rattle.std.proofs.Common.{◌≡◌, ℕ, ◌+◌, ◌&&◌, not, Bool, true, false, cond, List, [], ◌∷◌, map, refl, ap, sym, ◌∙◌}
use Rattle.std.proofs.Common.{codes, Option, Some, None, option_map, IfNone}
use Rattle.std.specs.List.{list_all, flat_map, find}
use Rattle.std.specs.Option.{is_none}
use Rattle.std.proofs.lemmas.List.Folds.{list_all-append}
use Rattle.serde_json.specs.Data.{Data}
use Rattle.sporadic_model.specs.declared.refusal.Place.{Place}
use Rattle.taskset_json.specs.Members.{list_at}
use Rattle.taskset_json.specs.Form.{is_object_of, resource_form, request_form, task_form, set_form, has_task_form, has_set_form}
use Rattle.taskset_json.specs.FormFaults.{ObjectDef, counted_from, resource_object, request_object, task_objects}
use Rattle.taskset_json.specs.FormFaults.{objects_in_order, is_misshapen, first_of, first_misshapen}

-- Has each object the form that it must have?
abbrev is_shaped : ObjectDef → Bool
is_shaped o = is_object_of o.form o.value

abbrev are_shaped : List ObjectDef → Bool
are_shaped objects = list_all is_shaped objects

first_none : (objects : List ObjectDef) → is_none (first_of objects) ≡ are_shaped objects
first_none [] = refl
first_none (o ∷ objects) = go (is_shaped o) (first_none objects) where
  go : (b : Bool) → is_none (first_of objects) ≡ are_shaped objects
      → is_none (option_map (λ (x : ObjectDef). x.place) (cond (not b) (Some o) (find is_misshapen objects)))
      ≡ (b && are_shaped objects)
  go true rest = rest
  go false rest = refl

resources_shaped : (k : ℕ) (ds : List Data)
    → are_shaped (map resource_object (counted_from k ds)) ≡ list_all (is_object_of resource_form) ds
resources_shaped k [] = refl
resources_shaped k (d ∷ ds) = ap (λ b. is_object_of resource_form d && b) (resources_shaped (k + 1) ds)

requests_shaped : (x k : ℕ) (ds : List Data)
    → are_shaped (map (request_object x) (counted_from k ds)) ≡ list_all (is_object_of request_form) ds
requests_shaped x k [] = refl
requests_shaped x k (d ∷ ds) = ap (λ b. is_object_of request_form d && b) (requests_shaped x (k + 1) ds)

task_shaped : (x : ℕ) (d : Data) → are_shaped (task_objects (x, d)) ≡ has_task_form d
task_shaped x d = ap (λ b. is_object_of task_form d && b) (requests_shaped x 0 (list_at (codes "requests") d))

tasks_shaped : (k : ℕ) (ds : List Data) → are_shaped (flat_map task_objects (counted_from k ds)) ≡ list_all has_task_form ds
tasks_shaped k [] = refl
tasks_shaped k (d ∷ ds) =
    list_all-append is_shaped (task_objects (k, d)) (flat_map task_objects (counted_from (k + 1) ds))
    ∙ ap (λ b. b && are_shaped (flat_map task_objects (counted_from (k + 1) ds))) (task_shaped k d)
    ∙ ap (λ b. has_task_form d && b) (tasks_shaped (k + 1) ds)

all_shaped : (d : Data) → are_shaped (objects_in_order d) ≡ has_set_form d
all_shaped d =
    ap (λ b. is_object_of set_form d && b)
    (list_all-append is_shaped (map resource_object (counted_from 0 (list_at (codes "resources") d)))
    (flat_map task_objects (counted_from 0 (list_at (codes "tasks") d)))
    ∙ ap (λ b. b && are_shaped (flat_map task_objects (counted_from 0 (list_at (codes "tasks") d))))
    (resources_shaped 0 (list_at (codes "resources") d))
    ∙ ap (λ b. list_all (is_object_of resource_form) (list_at (codes "resources") d) && b) (tasks_shaped 0 (list_at (codes "tasks") d)))

none_misshapen : (d : Data) → is_none (first_misshapen d) ≡ has_set_form d
none_misshapen d = first_none (objects_in_order d) ∙ all_shaped d

-- Where no place breaks the form the value has it.
pub form_from : (d : Data) → first_misshapen d ≡ None → has_set_form d ≡ true
form_from d h = sym (none_misshapen d) ∙ ap is_none h

-- Where the value has the form no place breaks it.
pub none_from_form : (d : Data) → has_set_form d ≡ true → first_misshapen d ≡ None
none_from_form d h = go (first_misshapen d) (none_misshapen d ∙ h) where
  go : (o : Option Place) → is_none o ≡ true → o ≡ None
  go None e = refl
  go (Some p) e = absurd (cc)

pub form_of : (o : Option Place) (d : Data) → o ≡ first_misshapen d → IfNone o (has_set_form d ≡ true)
form_of None d h = form_from d (sym h)
form_of (Some p) d h = tt
