-- Worked examples of the form.
use Rattle.std.proofs.Common.{◌≡◌, codes, Some, None, false, refl}
use Rattle.serde_json.specs.Data.{null, number, unsigned, string, array, object, no_items, item, no_members, member}
use Rattle.sporadic_model.specs.declared.refusal.Place.TheVariants as place
use Rattle.taskset_json.specs.Form.{is_object_of, resource_form}
use Rattle.taskset_json.specs.FormFaults.{first_misshapen}

no_list : first_misshapen (object (member (codes "processors") (number (unsigned 1)) no_members)) ≡ Some place.Root
no_list = refl

bare : first_misshapen
    (object (member (codes "processors") (number (unsigned 1)) (member (codes "tasks") (array no_items) no_members)))
    ≡ None
bare = refl

unlisted : first_misshapen (object (member (codes "processors") (number (unsigned 1))
    (member (codes "tasks") (array no_items) (member (codes "tics") null no_members)))) ≡ Some place.Root
unlisted = refl

null_home : is_object_of resource_form (object (member (codes "home") null (member (codes "name") (string (codes "q")) no_members))) ≡ false
null_home = refl

first_task : first_misshapen (object (member (codes "processors") (number (unsigned 1))
    (member (codes "tasks") (array (item (object no_members) no_items)) no_members))) ≡ Some (place.Task 0)
first_task = refl
