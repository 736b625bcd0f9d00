-- The form of a task set in JSON: which members each object has.
use Rattle.std.specs.Prelude.{ℕ, ◌&&◌, not, Bool, true, false, List, [], ◌∷◌, codes, is_some}
use Rattle.std.specs.List.{list_any, list_all}
use Rattle.std.specs.Option.{option_map_or}
use Rattle.std.specs.Str.{bytes_eq}
use Rattle.serde_json.specs.Data.{Data}
use Rattle.serde_json.specs.Find.{get, as_str, as_array, as_object}
use Rattle.taskset_json.specs.declared.form.Kind.{Kind}
use Rattle.taskset_json.specs.declared.form.Kind.TheVariants as kind
use Rattle.taskset_json.specs.Members.{whole, names_of, list_at}

-- A member that objects of a form have: its name, the kind of its value, and whether it may be absent.
pub record MemberDef : Type 0 where
  pub name : List ℕ
  pub kind : Kind
  pub required : Bool

abbrev pub must : List ℕ → Kind → MemberDef
must name of = record { name = name; kind = of; required = true }

abbrev pub may : List ℕ → Kind → MemberDef
may name of = record { name = name; kind = of; required = false }

-- The members of the set, of a resource, of a task and of a task's request entry. There may be no others.
abbrev pub set_form : List MemberDef
set_form =
    must (codes "processors") kind.Whole
    ∷ must (codes "tasks") kind.List
    ∷ may (codes "resources") kind.List
    ∷ []

abbrev pub resource_form : List MemberDef
resource_form =
    must (codes "name") kind.Text
    ∷ may (codes "home") kind.Whole
    ∷ []

abbrev pub task_form : List MemberDef
task_form =
    must (codes "name") kind.Text
    ∷ must (codes "processor") kind.Whole
    ∷ must (codes "period") kind.Whole
    ∷ must (codes "cost") kind.Whole
    ∷ may (codes "deadline") kind.Whole
    ∷ may (codes "local") kind.Whole
    ∷ may (codes "jitter") kind.Whole
    ∷ may (codes "requests") kind.List
    ∷ []

abbrev pub request_form : List MemberDef
request_form =
    must (codes "resource") kind.Text
    ∷ must (codes "count") kind.Whole
    ∷ must (codes "length") kind.Whole
    ∷ []

-- Is the value of the kind?
abbrev pub is_of_kind : Kind → Data → Bool
is_of_kind kind.Text d = is_some (as_str d)
is_of_kind kind.Whole d = is_some (whole d)
is_of_kind kind.List d = is_some (as_array d)
is_of_kind kind.Object d = is_some (as_object d)

-- Has the value the member as it must be: of its kind, or missing, if it may be absent?
abbrev pub gives : Data → MemberDef → Bool
gives d m = option_map_or (is_of_kind m.kind) (get m.name d) (not m.required)

-- Is the name that of one of the members?
abbrev pub is_listed : List MemberDef → List ℕ → Bool
is_listed form name = list_any (λ m. bytes_eq m.name name) form

-- Is the value an object of the form: is each of its members one of the form, and is each as it must be?
abbrev pub is_object_of : List MemberDef → Data → Bool
is_object_of form d = option_map_or (λ ms. list_all (is_listed form) (names_of ms)) (as_object d) false && list_all (gives d) form

-- Has the value the form of a task: is it an object of a task's form, and is each of its request entries one of an entry's form?
abbrev pub has_task_form : Data → Bool
has_task_form d = is_object_of task_form d && list_all (is_object_of request_form) (list_at (codes "requests") d)

-- Has the value the form of a task set? It is an object of a set's form, each of its resources is one of a resource's form, and each of its
-- tasks has the form of a task.
abbrev pub has_set_form : Data → Bool
has_set_form d =
    is_object_of set_form d
    && (list_all (is_object_of resource_form) (list_at (codes "resources") d)
    && list_all has_task_form (list_at (codes "tasks") d))
