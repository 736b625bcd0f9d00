-- The first misshapen object, as the walk finds it.
use Rattle.std.proofs.Common.{◌≡◌, ℕ, suc, add-one, ◌+◌, ◌<◌, true, List, ◌∷◌, ◌++◌, length, map, drop, get_or, codes}
use Rattle.std.proofs.Common.{drop-cons, Option, Some, None, option_map, refl, ap, ◌∙◌, sym}
use Rattle.std.specs.List.{find, flat_map}
use Rattle.std.specs.Option.{option_or}
use Rattle.std.proofs.lemmas.List.Folds.{find-append}
use Rattle.serde_json.specs.Data.{Data}
use Rattle.serde_json.specs.View.{view}
use Rattle.serde_json.specs.declared.value.Value.{Value}
use Rattle.taskset_json.specs.Members.{list_at}
use Rattle.taskset_json.specs.Form.{is_object_of, set_form}
use Rattle.taskset_json.specs.FormFaults.{ObjectDef, first_of, first_misshapen, is_misshapen, resource_object, task_objects, counted_from}

place_or : (a b : Option ObjectDef)
    → option_map (λ o. o.place) (option_or a b) ≡ option_or (option_map (λ o. o.place) a) (option_map (λ o. o.place) b)
place_or None b = refl
place_or (Some a) b = refl

pub first_of-append : (xs ys : List ObjectDef) → first_of (xs ++ ys) ≡ option_or (first_of xs) (first_of ys)
first_of-append xs ys = ap (option_map (λ o. o.place)) (find-append is_misshapen xs ys)
    ∙ place_or (find is_misshapen xs) (find is_misshapen ys)

-- The set has its form: what follows it decides.
pub after_root : (d : Data) → is_object_of set_form d ≡ true
    → first_misshapen d ≡ option_or (first_of (map resource_object (counted_from 0 (list_at (codes "resources") d))))
    (first_of (flat_map task_objects (counted_from 0 (list_at (codes "tasks") d))))
after_root d e = rw e (first_of-append (map resource_object (counted_from 0 (list_at (codes "resources") d)))
    (flat_map task_objects (counted_from 0 (list_at (codes "tasks") d))))

-- Task number x, and then those after it.
pub task_turn : (x : ℕ) (vs : List Value) (v : Value) → x < length vs → v ≡ get_or vs x v
    → first_of (flat_map task_objects (counted_from x (map view (drop x vs))))
    ≡ option_or (first_of (task_objects (x, view v)))
    (first_of (flat_map task_objects (counted_from (x + 1) (map view (drop (x + 1) vs)))))
task_turn x vs v h is =
    let split : drop x vs ≡ v ∷ drop (x + 1) vs =
    drop-cons vs x v h ∙ ap (λ w. w ∷ drop (suc x) vs) (sym is) ∙ ap (λ n. v ∷ drop n vs) (sym (add-one x)) in
    rw split (first_of-append (task_objects (x, view v)) (flat_map task_objects (counted_from (x + 1) (map view (drop (x + 1) vs)))))
