-- At which place does a value first break the form of a task set?
use Rattle.std.specs.Prelude.{ℕ, ◌+◌, not, Bool, List, [], ◌∷◌, ◌++◌, map, codes, Option, option_map, find}
use Rattle.std.specs.List.{flat_map}
use Rattle.serde_json.specs.Data.{Data}
use Rattle.sporadic_model.specs.declared.refusal.Place.{Place}
use Rattle.sporadic_model.specs.declared.refusal.Place.TheVariants as place
use Rattle.taskset_json.specs.Members.{list_at}
use Rattle.taskset_json.specs.Form.{MemberDef, set_form, resource_form, task_form, request_form, is_object_of}

-- A value that must be an object of a form, and its place in the set.
pub record ObjectDef : Type 0 where
  pub place : Place
  pub form : List MemberDef
  pub value : Data

-- The values with their positions, counted from k.
abbrev pub counted_from : ℕ → List Data → List (ℕ × Data)
counted_from k [] = []
counted_from k (d ∷ ds) = (k, d) ∷ counted_from (k + 1) ds

abbrev pub resource_object : ℕ × Data → ObjectDef
resource_object (q, d) = record { place = place.Resource q; form = resource_form; value = d }

abbrev pub request_object : ℕ → ℕ × Data → ObjectDef
request_object x (j, d) = record { place = place.Request x j; form = request_form; value = d }

-- A task, and after it its request entries.
abbrev pub task_objects : ℕ × Data → List ObjectDef
task_objects (x, d) =
    record { place = place.Task x; form = task_form; value = d }
    ∷ map (request_object x) (counted_from 0 (list_at (codes "requests") d))

-- The objects of a set in the order in which they are tried: the set itself, its resources, its tasks.
abbrev pub objects_in_order : Data → List ObjectDef
objects_in_order d =
    record { place = place.Root; form = set_form; value = d }
    ∷ (map resource_object (counted_from 0 (list_at (codes "resources") d))
    ++ flat_map task_objects (counted_from 0 (list_at (codes "tasks") d)))

-- Has the object not the form that it must have?
abbrev pub is_misshapen : ObjectDef → Bool
is_misshapen o = not (is_object_of o.form o.value)

-- The place of the first object that hasn't its form.
abbrev pub first_of : List ObjectDef → Option Place
first_of objects = option_map (λ o. o.place) (find is_misshapen objects)

-- Where does the value first break the form?
abbrev pub first_misshapen : Data → Option Place
first_misshapen d = first_of (objects_in_order d)
